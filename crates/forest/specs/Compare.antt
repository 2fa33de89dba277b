-- What compare answers and leaves, from what is lent (document 02, Note 4: "Is it the same day?").
use Rattle.std.specs.Prelude.{ℕ, suc, Bool, true, false, cond, ◌&&◌, List, [], ◌∷◌, ◌++◌, leb, eqb, Result, Ok, Err}
use Rattle.rule.specs.declared.Rule.{Rule}
use Rattle.refusal.specs.declared.Refusal.{Refusal}
use Rattle.plan.specs.declared.Checked.{Checked}
use Rattle.plan.specs.Check.{checked, rules_of}
use Rattle.forest.specs.declared.Compared.{Compared}
use Rattle.forest.specs.Forest.{Forest, forest}
use Rattle.forest.specs.Reference.{Path, node_at}
use Rattle.forest.specs.Outcome.{enough_work, work_after}
use Rattle.forest.specs.Walk.{Begun, refused, at, enough_cursor, place_judged}

-- "List all nodes of each subtree in reading order with label and level below its top"
unfoldable pub listed : ℕ → Forest ℕ → List (ℕ × ℕ)
listed d Forest.none = []
listed d (Forest.tree a c f) = (a, d) ∷ (listed (suc d) c ++ listed d f)

-- a pair of nodes that agrees in label and level
unfoldable pub same_node : ℕ × ℕ → ℕ × ℕ → Bool
same_node x y = eqb x.0 y.0 && eqb x.1 y.1

-- a count with its verdict: whether the two lists agree
abbrev pub Found : Type 0
Found = Bool × ℕ

-- after one more pair that agrees
abbrev pub further : Found → Found
further x = (x.0, suc x.1)

-- ".. and compare them pair by pair. The count is the place, from 1, of the first pair that differs, a node against an ended list
-- included, or the common length."
unfoldable pub found : List (ℕ × ℕ) → List (ℕ × ℕ) → Found
found [] [] = (true, 0)
found [] (y ∷ ys) = (false, 1)
found (x ∷ xs) [] = (false, 1)
found (x ∷ xs) (y ∷ ys) = cond (same_node x y) (further (found xs ys)) (false, 1)

-- the subtree at a path: the first tree alone of the node and its later siblings
unfoldable pub first_tree : {A : Type 0} → Forest A → Forest A
first_tree Forest.none = Forest.none
first_tree (Forest.tree a c f) = Forest.tree a c Forest.none

unfoldable pub subtree_at : {A : Type 0} → Forest A → Path → Forest A
subtree_at g p = first_tree (node_at g p)

-- two subtrees
unfoldable pub pairs_found : Forest ℕ → Forest ℕ → Found
pairs_found f g = found (listed 0 f) (listed 0 g)

-- "Spent comes only if that number is above the budget, and then always; its count is the budget."
unfoldable pub within : ℕ → Found → Compared
within budget x = cond (leb x.1 budget) (cond x.0 (Compared.Same x.1) (Compared.Differ x.1)) (Compared.Spent budget)

-- "A place above the forest is refused with 10"
unfoldable pub node_judged : Begun → Begun
node_judged (refused x) = refused x
node_judged (at n r []) = refused Refusal.Place
node_judged (at n r (i ∷ p)) = at n r (i ∷ p)

-- ".. the first cursor before the second"
unfoldable pub compared_at : List Rule → ℕ → Begun → Begun → Result Compared Refusal
compared_at R budget (refused x) y = Err x
compared_at R budget (at n r p) (refused y) = Err y
compared_at R budget (at n r p) (at m s q) = Ok (within budget (pairs_found (subtree_at (forest R r) p) (subtree_at (forest R s) q)))

-- "Plan, work and both cursors are refused as in walk": as check; 8: work or a cursor is too short; 10
unfoldable pub enough_compared : List ℕ → List ℕ → List ℕ → ℕ → Bool
enough_compared work first second n = enough_work n work && (enough_cursor n first && enough_cursor n second)

unfoldable pub compared_from : List ℕ → List ℕ → List ℕ → List ℕ → ℕ → Result Checked Refusal → Result Compared Refusal
compared_from s work first second budget (Ok x) =
    cond (enough_compared work first second x.n)
    (compared_at (rules_of s) budget (node_judged (place_judged (rules_of s) x.n x.start first)) (node_judged (place_judged (rules_of s) x.n x.start second)))
    (Err Refusal.Lent)
compared_from s work first second budget (Err x) = Err x

-- "Two cursors of one plan and a budget (32 bits) give same, differ or spent, and a count."
unfoldable pub compare : List ℕ → List ℕ → List ℕ → List ℕ → ℕ → Result Compared Refusal
compare s work first second budget = compared_from s work first second budget (checked s)

-- "Past 8 .. the first 32 × n words of work end as zeros" (document 01); "Both cursors are unchanged."
unfoldable pub compared_work : List ℕ → List ℕ → List ℕ → List ℕ → List ℕ
compared_work s work first second = work_after (enough_compared work first second) (checked s) work
