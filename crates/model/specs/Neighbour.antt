-- The neighbour of a node by the cases of document 003's function → (section 3), in the article's sequence; at the left side the
-- same text is its mirror ←. The article's node representation is w((d, h), v); here it is the cells x .1, the last cell first:
--   v, spines one on another: the cells on top, down to the opening of the lowest of them;
--   h, the place in the row: the cells from there down to the row's opening;
--   d, the row's number: the article's ℓ, m and r are row_of_part left, row_of_node and row_of_part right;
--   w, what lies below: the cells under the row's opening.
use Rattle.std.specs.Prelude.{ℕ, suc, Bool, true, false, cond, not, ◌&&◌, ◌||◌, List, [], ◌∷◌, eqb}
use Rattle.std.specs.Prelude.{Option, None, Some, option_map}
use Rattle.rule.specs.declared.Rule.{Rule}
use Rattle.forest.specs.Place.{Cells, Side, row_of_node, row_of_part}
use Rattle.forest.specs.Sides.{other, pick}
use Rattle.model.specs.Facts.{Facts}
use Rattle.model.specs.Run.{Node, tail, pop_run, beside}
use Rattle.model.specs.Pieces.{opened, inward, under, outward, beside_hole}

-- "= ⊥"
unfoldable pub fails : {A : Type 0} → Option A → Bool
fails None = true
fails (Some a) = false

-- "= ε"
unfoldable pub is_nil : Cells → Bool
is_nil [] = true
is_nil (c ∷ cs) = false

-- "↑(v)": the part up the spine, in whose hole the node stands
unfoldable pub up : Facts → Node → Option Node
up F x = outward F x.1

-- "→(h)": the tree beside in the row. This and what follows is read where moving up fails: the node is then its tree's root
unfoldable pub across : Facts → Side → Node → Option Node
across F s x = beside F s (under x.1)

-- the row's opening and what lies below, where the row ends on side s: no other run than one to that side lies on the opening
unfoldable pub row_end : Side → Node → Cells
row_end s x = pop_run s (under x.1)

-- d
unfoldable pub number_of : Cells → ℕ
number_of [] = row_of_node
number_of (c ∷ cs) = c.1

unfoldable pub row_number : Side → Node → ℕ
row_number s x = number_of (row_end s x)

-- w
unfoldable pub below : Side → Node → Cells
below s x = tail (row_end s x)

-- "z(u) = a⟨LxR⟩": the L (left) or R (right) of such a symbol, none of another
unfoldable pub arm_of : Side → Rule → Option ℕ
arm_of s Rule.Empty = None
arm_of s (Rule.Pair b c) = None
arm_of s (Rule.Node x c) = None
arm_of s (Rule.Fill b c) = None
arm_of s (Rule.Part x b c) = Some (pick s b c)
arm_of s (Rule.Join b c) = None

-- "↑(v) = u, z(u) = a⟨LxR⟩": that L or R, none where moving up fails
unfoldable pub up_arm : Facts → Side → Option Node → Option ℕ
up_arm F s None = None
up_arm F s (Some u) = arm_of s (F.rule u.0)

-- there is an L or R, and it is such a rule
unfoldable pub arm_is : (ℕ → Bool) → Option ℕ → Bool
arm_is such None = false
arm_is such (Some a) = such a

-- 1: "↑(v) = u, z(u) = a⟨LxR⟩ and ◁r(R) ≠ ⊥"
unfoldable pub arm_has_tree : Facts → Side → Node → Bool
arm_has_tree F s x = arm_is (λ a. not (F.is_empty a)) (up_arm F s (up F x))

-- 2: "↑(v) = u, z(u) = a⟨LxR⟩ and ◁r(R) = ⊥"
unfoldable pub arm_is_empty : Facts → Side → Node → Bool
arm_is_empty F s x = arm_is F.is_empty (up_arm F s (up F x))

-- 3: "↑(v) = ⊥, →(h) = h' ≠ ⊥ and z(h') = D"
unfoldable pub row_goes_on : Facts → Side → Node → Bool
row_goes_on F s x = fails (up F x) && not (fails (across F s x))

-- 4: "↑(v) = ⊥, →(h) = ⊥, w = w'((d', h'), v'), .. and d = ℓ"
unfoldable pub row_ends_at_hole : Facts → Side → Node → Bool
row_ends_at_hole F s x = fails (up F x) && (fails (across F s x) && (not (is_nil (below s x)) && eqb (row_number s x) (row_of_part (other s))))

-- 5: "↑(v) = ⊥, →(h) = ⊥, w = ε or d ≠ ℓ"
unfoldable pub row_ends_off : Facts → Side → Node → Bool
row_ends_off F s x = fails (up F x) && (fails (across F s x) && (is_nil (below s x) || not (eqb (row_number s x) (row_of_part (other s)))))

-- the answer of case 1, "w((d, h), u) ◁r(R)": on the part's cells the first tree of its R, or the last of its L
unfoldable pub into_arm : Facts → Side → Option Node → Option Node
into_arm F s None = None
into_arm F s (Some u) = beside_hole F s (F.rule u.0) u.1

-- the five cases in the article's sequence, each with its answer: of 3 "w((d, h'), Δ(D))", of 4 "w'((d', h'), ↓(v'))", of 2 and 5 "⊥"
unfoldable pub sibling_cases : Facts → Side → Node → List (Bool × Option Node)
sibling_cases F s x =
    (arm_has_tree F s x, into_arm F s (up F x))
    ∷ (arm_is_empty F s x, None)
    ∷ (row_goes_on F s x, option_map (λ (t : Node). opened F t.0 t.1) (across F s x))
    ∷ (row_ends_at_hole F s x, inward F (below s x))
    ∷ (row_ends_off F s x, None)
    ∷ []

-- the answer of the first case whose condition holds, nowhere where none does
unfoldable pub first_that : List (Bool × Option Node) → Option Node
first_that [] = None
first_that (c ∷ cs) = cond c.0 c.1 (first_that cs)

-- how many of the conditions hold
unfoldable pub how_many : List (Bool × Option Node) → ℕ
how_many [] = 0
how_many (c ∷ cs) = cond c.0 (suc (how_many cs)) (how_many cs)
