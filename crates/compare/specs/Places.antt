-- What is asked and kept below compare's entry: what is lent, both places opened, and the tasks of their subtrees.
use Rattle.std.specs.Prelude.{ℕ, ◌*◌, ◌≤◌, ◌<◌, ◌≡◌, List, length, Result, Ok, Err}
use Rattle.refusal.specs.declared.Refusal.{Refusal}
use Rattle.plan.specs.Check.{checked}
use Rattle.record.specs.Format.{word_length}
use Rattle.reach.specs.Order.{Orders}
use Rattle.forest.specs.Outcome.{work_words}
use Rattle.forest.specs.Walk.{Begun, cells_in, place_judged}
use Rattle.forest.specs.Compare.{Found, node_judged, compared_at}
use Rattle.work_rows.specs.Rows.{work_length, first_rules}
use Rattle.work_rows.specs.Order.{order_in}
use Rattle.spread_stack.specs.Run.{meant}
use Rattle.compare_tokens.specs.Tokens.{differs}
use Rattle.compare_tokens.specs.Stacks.{tasks_tokens}
use Rattle.compare_place.specs.Begun.{begun_tasks}
use Rattle.place_cells.specs.Cells.{cursor_length, Lies}
use Rattle.letter_arrival.specs.declared.Standing.{Standing}
use Rattle.letter_moves.specs.Standing.{rules_kept}
use Rattle.place_open.specs.declared.Opened.{Opened}
use Rattle.place_open.specs.Open.{OpensAt}
use Rattle.compare_begin.specs.Stack.{SoundRows, kept_rule, kept_run}
use Rattle.compare_begin.specs.Begin.{NodePlace}

-- enough of all that is lent on an accepted plan of n rules
pub record Lendable (plan : List ℕ) (n start : ℕ) (work first second : List ℕ) : Type 0 where
  pub accepted : checked plan ≡ Ok (record { n = n; start = start })
  pub worked : work_length * n ≤ length work
  pub words : word_length * work_words n ≤ length work
  pub one : cursor_length n ≤ length first
  pub two : cursor_length n ≤ length second

-- the cursor s stands at a node of rule r's forest
pub record NodeAt (t : List ℕ) (n start : ℕ) (s : List ℕ) (r : ℕ) (h : Standing) : Type 0 where
  pub opens : OpensAt t n start s r h
  pub least : 0 < h.used
  pub judged : node_judged (place_judged (rules_kept t) n start s) ≡ Begun.at n r opens.path

-- a place opened that is a node's
pub record NodeOpens (t : List ℕ) (n start : ℕ) (s : List ℕ) (x : Result Opened Refusal) : Type 0 where
  pub at : (r : ℕ) (h : Standing) → x ≡ Ok (record { walked = r; at = h }) → NodeAt t n start s r h
  pub refused : (why : Refusal) → x ≡ Err why → node_judged (place_judged (rules_kept t) n start s) ≡ Begun.refused why

-- the node of some rule's forest that a cursor stands at
pub record StandsAt (t : List ℕ) (n start : ℕ) (s : List ℕ) (h : Standing) : Type 0 where
  pub walked : ℕ
  pub node : NodeAt t n start s walked h

-- both opened, the first cursor before the second
pub record BothOpen (t : List ℕ) (n start : ℕ) (first second : List ℕ) (x : Result (Standing × Standing) Refusal) : Type 0 where
  pub at : (h g : Standing) → x ≡ Ok (h, g) → StandsAt t n start first h × StandsAt t n start second g
  pub refused : (why : Refusal) (budget : ℕ) → x ≡ Err why
      → compared_at (rules_kept t) budget (node_judged (place_judged (rules_kept t) n start first)) (node_judged (place_judged (rules_kept t) n start second))
      ≡ Err why

-- where the stacks of the two subtrees begin, in bytes a rule: behind the order of the rules, with room under each
abbrev pub first_stack : ℕ
first_stack = 40

abbrev pub second_stack : ℕ
second_stack = 54

-- both stand at nodes, on the rows of n sound rules with an order of them behind
pub record Standings (t : List ℕ) (n : ℕ) (first second : List ℕ) (h g : Standing) : Type 0 where
  pub rows : SoundRows n t
  pub room : work_length * n ≤ length t
  pub order : Orders (first_rules t n) (order_in t n)
  pub one : NodePlace t n first h.used h.rule
  pub two : NodePlace t n second g.used g.rule
  pub first_lies : Lies first h.used
  pub second_lies : Lies second g.used

-- the tokens of the subtree at a place, and where those of two differ
abbrev pub begun_tokens : List ℕ → ℕ → List ℕ → Standing → List ℕ
begun_tokens t n s h = tasks_tokens (meant t n) (begun_tasks (kept_rule t n) (kept_run t n) h.rule (cells_in s h.used))

abbrev pub begun_differ : List ℕ → ℕ → List ℕ → List ℕ → Standing → Standing → Found
begun_differ t n first second h g = differs (begun_tokens t n first h) (begun_tokens t n second g)
