-- A walk as a function from what a call is lent to what it answers and leaves, and lists of calls.
use Rattle.std.specs.Prelude.{ℕ, List, [], ◌∷◌, Result}
use Rattle.refusal.specs.declared.Refusal.{Refusal}
use Rattle.plan.specs.Check.{rules_of}
use Rattle.forest.specs.Walk.{begun, walked, walked_work, cursor_after, answers_after}

-- "Walk (plan, work, cursor, letters, answers)": what a call is lent, as bytes
pub record Lent : Type 0 where
  pub plan : List ℕ
  pub work : List ℕ
  pub cursor : List ℕ
  pub letters : List ℕ
  pub answers : List ℕ

-- what it answers and leaves; plan and letters are only read
pub record Left : Type 0 where
  pub answer : Result Unit Refusal
  pub work : List ℕ
  pub cursor : List ℕ
  pub answers : List ℕ

-- a call of the code: what it is lent, and what it answers and leaves
abbrev pub lends : List ℕ → List ℕ → List ℕ → List ℕ → List ℕ → Lent
lends plan work cursor letters given = record { plan = plan; work = work; cursor = cursor; letters = letters; answers = given }

abbrev pub leaves : Result Unit Refusal → List ℕ → List ℕ → List ℕ → Left
leaves x work cursor given = record { answer = x; work = work; cursor = cursor; answers = given }

abbrev pub Walk : Type 0
Walk = Lent → Left

-- the walk of document 01: the definition that the contract of the code names
unfoldable pub walk_of : Walk
unfolding begun walked walked_work cursor_after answers_after rules_of
walk_of l =
    record {
      answer = walked (begun l.plan l.work l.cursor l.letters l.answers);
      work = walked_work l.plan l.work l.cursor l.letters l.answers;
      cursor = cursor_after (rules_of l.plan) (begun l.plan l.work l.cursor l.letters l.answers) l.letters l.cursor;
      answers = answers_after (rules_of l.plan) (begun l.plan l.work l.cursor l.letters l.answers) l.letters l.answers;
    }

-- a call of a list: "Work, letters and answers may differ from call to call"
pub record Call : Type 0 where
  pub work : List ℕ
  pub letters : List ℕ
  pub answers : List ℕ

-- a call on a plan and a cursor
unfoldable pub lent : List ℕ → List ℕ → Call → Lent
lent plan cursor c = record { plan = plan; work = c.work; cursor = cursor; letters = c.letters; answers = c.answers }

-- what the calls of a list leave, each on the cursor that the one before left
unfoldable pub lefts : Walk → List ℕ → List ℕ → List Call → List Left
unfolding lent
lefts w plan cursor [] = []
lefts w plan cursor (c ∷ cs) = w (lent plan cursor c) ∷ lefts w plan (w (lent plan cursor c)).cursor cs

-- the cursor after a list of calls
unfoldable pub cursor_after_calls : Walk → List ℕ → List ℕ → List Call → List ℕ
unfolding lent
cursor_after_calls w plan cursor [] = cursor
cursor_after_calls w plan cursor (c ∷ cs) = cursor_after_calls w plan (w (lent plan cursor c)).cursor cs
