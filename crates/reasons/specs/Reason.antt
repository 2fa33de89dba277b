-- Why a letter moves or doesn't, read off the unfolded forest (document 02, Note 11: "Why did it stay put?").
use Rattle.std.specs.Prelude.{ℕ, cond, [], ◌∷◌}
use Rattle.forest.specs.Forest.{Forest}
use Rattle.forest.specs.Place.{Side}
use Rattle.forest.specs.Letter.{Letter}
use Rattle.forest.specs.Reference.{Path, children_at}
use Rattle.forest.specs.Ends.{has_none, at_end}
use Rattle.reasons.specs.declared.Reason.{Reason}

-- "the letter moves (0); above the forest and no a or z pressed (1); the forest is empty (2); f or l without children (3); n on the last of
-- its siblings (4); p on the first (5); u on a root (6)"
abbrev pub number_of : Reason → ℕ
number_of Reason.Moves = 0
number_of Reason.Above = 1
number_of Reason.NoTrees = 2
number_of Reason.NoChildren = 3
number_of Reason.LastSibling = 4
number_of Reason.FirstSibling = 5
number_of Reason.Root = 6

-- "n on the last of its siblings (4); p on the first (5)"
unfoldable pub end_reason : Side → Reason
end_reason Side.left = Reason.FirstSibling
end_reason Side.right = Reason.LastSibling

-- at the node numbered i whose siblings are the trees at path p; "At a node, s counts as moving."
unfoldable pub reason_at : {A : Type 0} → Forest A → Letter → ℕ → Path → Reason
unfolding children_at has_none at_end
reason_at g (Letter.root s) i p = Reason.Moves
reason_at g (Letter.child s) i p = cond (has_none (children_at g (i ∷ p))) Reason.NoChildren Reason.Moves
reason_at g (Letter.sibling s) i p = cond (at_end s (children_at g p) i) (end_reason s) Reason.Moves
reason_at g Letter.parent i [] = Reason.Root
reason_at g Letter.parent i (j ∷ p) = Reason.Moves
reason_at g Letter.stay i p = Reason.Moves

-- "above the forest and no a or z pressed (1)"
unfoldable pub reason_above : Letter → Reason
reason_above (Letter.root s) = Reason.Moves
reason_above (Letter.child s) = Reason.Above
reason_above (Letter.sibling s) = Reason.Above
reason_above Letter.parent = Reason.Above
reason_above Letter.stay = Reason.Above

-- above a forest with trees, or at a node of it
unfoldable pub reason_in : {A : Type 0} → Forest A → Letter → Path → Reason
unfolding reason_at reason_above
reason_in g c [] = reason_above c
reason_in g c (i ∷ p) = reason_at g c i p

-- "the forest is empty (2)", "Where 1 and 2 both fit, 2 is given."
unfoldable pub reason_of : {A : Type 0} → Forest A → Letter → Path → Reason
unfolding reason_in has_none
reason_of g c p = cond (has_none g) Reason.NoTrees (reason_in g c p)
