-- What is known of each rule, in its row behind the rule itself: whether it is empty, its representative, and for each side a link,
-- the way of that side from the rule. Read back, the rows are facts as the walker knows them (`facts_in`).
use Rattle.std.specs.Prelude.{ℕ, suc, ◌+◌, ◌-◌, ◌/◌, ◌≤◌, ◌<◌, ◌≡◌, true, cond, List, length, eqb, ltb}
use Rattle.rule.specs.declared.Rule.{Rule}
use Rattle.forest.specs.Place.{Side}
use Rattle.model.specs.Facts.{Facts, facts_of}
use Rattle.model.specs.Run.{along}
use Rattle.facts.specs.declared.Link.{Link}
use Rattle.work_rows.specs.Rows.{row_length, field, put_field, rule_in, Holds, Beyond}

-- where a row keeps the representative, whether the rule is empty (1 or 0), and the link of each side
abbrev pub at_representative : ℕ
at_representative = 10

abbrev pub at_emptiness : ℕ
at_emptiness = 12

abbrev pub at_link : Side → ℕ
at_link Side.left = 14
at_link Side.right = 22

abbrev pub facts_end : ℕ
facts_end = 30

-- a link: one step, the end of the longest run, its number of steps, and a rule further on the way
abbrev pub at_toward : ℕ
at_toward = 0

abbrev pub at_last : ℕ
at_last = 2

abbrev pub at_depth : ℕ
at_depth = 4

abbrev pub at_jump : ℕ
at_jump = 6

abbrev pub link_length : ℕ
link_length = 8

-- where the link of side s is kept, and that it lies behind the emptiness and within the facts
pub record LinkAt (s : Side) (o : ℕ) : Type 0 where
  pub at : o ≡ at_link s
  pub behind : at_emptiness + 2 ≤ o
  pub within : o + link_length ≤ facts_end

-- the link of side s in row r, and a list with another link there
unfoldable pub link_in : List ℕ → Side → ℕ → Link
link_in t s r =
    record {
      toward = field 2 t r (at_link s + at_toward);
      last = field 2 t r (at_link s + at_last);
      depth = field 2 t r (at_link s + at_depth);
      jump = field 2 t r (at_link s + at_jump);
    }

unfoldable pub put_link_at : List ℕ → ℕ → ℕ → Link → List ℕ
put_link_at t o r l =
    put_field 2 (put_field 2 (put_field 2 (put_field 2 t r (o + at_toward) l.toward) r (o + at_last) l.last) r (o + at_depth) l.depth) r (o + at_jump) l.jump

unfoldable pub put_link : List ℕ → Side → ℕ → Link → List ℕ
put_link t s r l = put_link_at t (at_link s) r l

-- how many rows a list has, and the rules that have one
abbrev pub row_count : List ℕ → ℕ
row_count t = length t / row_length

abbrev pub In : List ℕ → ℕ → Type 0
In t r = r < row_count t

-- what is read in row r, and something else where there is no such row
unfoldable pub row_or : {A : Type 0} → List ℕ → ℕ → A → A → A
row_or t r x d = cond (ltb r (row_count t)) x d

-- The rows as facts. A rule without a row is known as the rules past a plan's end are: empty, and by itself.
unfoldable pub facts_in : List ℕ → Facts
facts_in t =
    record {
      rule = λ r. row_or t r (rule_in t r) Rule.Empty;
      is_empty = λ r. row_or t r (eqb (field 2 t r at_emptiness) 1) true;
      representative = λ r. row_or t r (field 2 t r at_representative) r;
      toward = λ s r. row_or t r (link_in t s r).toward r;
      last = λ s r. row_or t r (link_in t s r).last r;
      depth = λ s r. row_or t r (link_in t s r).depth 0;
    }

-- j may stand as the jump of rule r: a rule that is known, and where the way of side s goes on from r, a rule further on it
pub record Leads (F : Facts) (Done : ℕ → Type 0) (s : Side) (r j : ℕ) : Type 0 where
  pub inside : Done j
  pub ahead : 0 < F.depth s r → (F.depth s j < F.depth s r) × (j ≡ along F s (F.depth s r - F.depth s j) r)

-- the rows of the rules that are done hold what is true of them
pub record FactsHeld (R : List Rule) (Done : ℕ → Type 0) (t : List ℕ) : Type 0 where
  pub room : (r : ℕ) → Done r → In t r
  pub is_empty : (r : ℕ) → Done r → (facts_in t).is_empty r ≡ (facts_of R).is_empty r
  pub representative : (r : ℕ) → Done r → (facts_in t).representative r ≡ (facts_of R).representative r
  pub toward : (s : Side) (r : ℕ) → Done r → (facts_in t).toward s r ≡ (facts_of R).toward s r
  pub last : (s : Side) (r : ℕ) → Done r → (facts_in t).last s r ≡ (facts_of R).last s r
  pub depth : (s : Side) (r : ℕ) → Done r → (facts_in t).depth s r ≡ (facts_of R).depth s r
  pub jumps : (s : Side) (r : ℕ) → Done r → Leads (facts_of R) Done s r (link_in t s r).jump

-- the rules below n
abbrev pub Below : ℕ → ℕ → Type 0
Below n r = r < n

-- n rows hold the rules R and what is true of them, and nothing beyond the n rows has changed
pub record Built (R : List Rule) (n : ℕ) (s t : List ℕ) : Type 0 where
  pub holds : Holds R t n
  pub facts_held : FactsHeld R (Below n) t
  pub beyond : Beyond n s t

-- The ways of the rows can be climbed: each step and each jump is a rule with a row, a step is one deeper, a jump is further on the
-- way. These are conditions on the rows alone.
pub record Climbs (t : List ℕ) : Type 0 where
  pub inside : (s : Side) (r : ℕ) → In t r → In t ((facts_in t).toward s r)
  pub falls : (s : Side) (r : ℕ) → In t r → 0 < (facts_in t).depth s r → (facts_in t).depth s r ≡ suc ((facts_in t).depth s ((facts_in t).toward s r))
  pub jumps : (s : Side) (r : ℕ) → In t r → Leads (facts_in t) (In t) s r (link_in t s r).jump
