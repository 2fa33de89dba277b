-- A depth-first search over the rules. Rules that are open stand on a stack, each named by the one below; rules that are done stand in the
-- order. A turn looks at the top: it opens a named rule that hasn't been seen, ends where a named rule is open, and otherwise moves the top
-- into the order.
use Rattle.std.specs.Prelude.{ℕ, ◌+◌, ◌-◌, ◌*◌, ◌<◌, Bool, true, false, ◌≡◌, List, length, ltb, Option, None, Some}
use Rattle.words.specs.Within.{Within}
use Rattle.words.specs.Words.{words_at}
use Rattle.rule.specs.declared.Rule.{Rule}
use Rattle.reach.specs.Reaches.{Reaches}
use Rattle.reach.specs.Order.{count, Orders}
use Rattle.reach.specs.Building.{Chain, Stands, Begun}
use Rattle.reach_order.specs.declared.Next.{Next}
use Rattle.reach_order.specs.declared.Step.{Step}
use Rattle.reach_order.specs.Named.{Named, In}
use Rattle.reach_order.specs.Room.{mark_in, front_in, back_in}

-- the marks
abbrev pub unseen : ℕ
unseen = 0

abbrev pub opened : ℕ
opened = 1

abbrev pub done : ℕ
done = 2

-- a rule has been seen
abbrev pub seen : (ℕ → ℕ) → ℕ → Bool
seen mark i = ltb unseen (mark i)

-- the search so far, with so many rules on the stack st and so many in the order o
pub record Search (R : List Rule) (mark st o : ℕ → ℕ) (top m : ℕ) : Type 0 where
  pub counted : count (seen mark) (length R) ≡ top + m
  pub chain : Chain R st top
  pub inside : (j : ℕ) → j < top → st j < length R
  pub marked : (j : ℕ) → j < top → mark (st j) ≡ opened
  pub once : (i j : ℕ) → i < top → j < top → st i ≡ st j → i ≡ j
  pub stacked : (r : ℕ) → r < length R → mark r ≡ opened → Stands st top r
  pub begun : Begun R o m
  pub finished : (j : ℕ) → j < m → mark (o j) ≡ done
  pub ordered : (r : ℕ) → r < length R → (mark r ≡ unseen → ⊥) → (mark r ≡ opened → ⊥) → Stands o m r

abbrev pub Searching : List Rule → ℕ → List ℕ → ℕ → ℕ → Type 0
Searching R n t top m = Search R (mark_in t) (back_in n t) (front_in n t) top m

-- some rule reaches itself
abbrev pub Cyclic : List Rule → Type 0
Cyclic R = (r : ℕ) × Reaches R r r

-- what named rules ask for
unfoldable pub Chosen : (ℕ → ℕ) → Named → Next → Type 0
Chosen mark d (Next.Open k) = In d k × (mark k ≡ unseen)
Chosen mark d Next.Stop = (k : ℕ) × In d k × (mark k ≡ opened)
Chosen mark d Next.Close = (k : ℕ) → In d k → (mark k ≡ unseen → ⊥) × (mark k ≡ opened → ⊥)

-- what has been seen stays so, and nothing past the room has changed
pub record Grown (n : ℕ) (t u : List ℕ) : Type 0 where
  pub saw : (i : ℕ) → i < n → mark_in u i ≡ unseen → mark_in t i ≡ unseen
  pub within : Within 0 (4 * n) t u

-- after a turn
unfoldable pub Made : List Rule → ℕ → ℕ → ℕ → List ℕ → Step → Type 0
Made R n top m u Step.Opened = Searching R n u (top + 1) m
Made R n top m u Step.Closed = Searching R n u (top - 1) (m + 1)
Made R n top m u Step.Cycle = Cyclic R

pub record Turned (R : List Rule) (n top m : ℕ) (x : Step) (t u : List ℕ) : Type 0 where
  pub grown : Grown n t u
  pub made : Made R n top m u x

-- after turns, when no rule is open: so many rules are done, or some rule reaches itself
unfoldable pub Ended : List Rule → ℕ → List ℕ → Option ℕ → Type 0
Ended R n u (Some m) = Searching R n u 0 m
Ended R n u None = Cyclic R

pub record Found (R : List Rule) (n : ℕ) (x : Option ℕ) (t u : List ℕ) : Type 0 where
  pub grown : Grown n t u
  pub ended : Ended R n u x

-- after the search from rule i
pub record Visited (R : List Rule) (n i : ℕ) (x : Option ℕ) (t u : List ℕ) : Type 0 where
  pub found : Found R n x t u
  pub own : mark_in u i ≡ unseen → ⊥

-- the answer: an order in the words past the marks, or a rule that reaches itself
pub record Answered (R : List Rule) (n : ℕ) (x : Bool) (t u : List ℕ) : Type 0 where
  pub within : Within 0 (4 * n) t u
  pub sorted : x ≡ true → Orders R (words_at u (2 * n) n)
  pub cyclic : x ≡ false → Cyclic R
