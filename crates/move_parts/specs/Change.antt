-- What a letter changes of a place: the cells that it keeps, and the few numbers that the others are made of.
use Rattle.std.specs.Prelude.{ℕ, ◌≤◌, ◌≡◌, cond, List, ◌∷◌}
use Rattle.std.specs.Prelude.{Option, None, Some}
use Rattle.forest.specs.Place.{Cells, Side, cell_row}
use Rattle.forest.specs.Sides.{other}
use Rattle.forest.specs.Letter.{Letter}
use Rattle.forest.specs.Walk.{cells_in}
use Rattle.model.specs.Facts.{Facts}
use Rattle.model.specs.Model.{Node, run, shrunk, turned, opened}
use Rattle.facts.specs.Facts.{In, facts_in}
use Rattle.move_parts.specs.declared.Change.{Change}
use Rattle.move_parts.specs.declared.Outcome.{Outcome}
use Rattle.move_parts.specs.declared.Reach.{Reach}
use Rattle.move_parts.specs.Moves.{Turning}

-- the run on top of cs, to the other side than s, one step shorter, a step to the side, and the longest run back: v is the rule
-- above the run's last
abbrev pub turned_at : Facts → Side → ℕ → Cells → Node
turned_at F s v cs = turned F s v (shrunk F (other s) cs)

-- the first (left) or last (right) tree of a row with a number over a representative, which is opened on cs
unfoldable pub entered : Facts → Side → ℕ → ℕ → Cells → Node
entered F s n v cs = opened F (F.last s v) (run F s v ((cell_row, n, v, 0) ∷ cs))

-- the side that a letter goes to; u and s have none
unfoldable pub letter_side : Letter → Side
letter_side (Letter.root d) = d
letter_side (Letter.child d) = d
letter_side (Letter.sibling d) = d
letter_side Letter.parent = Side.left
letter_side Letter.stay = Side.left

-- the side from which it enters a row: a sibling's row is entered from the other
unfoldable pub entry_side : Letter → Side
entry_side (Letter.root d) = d
entry_side (Letter.child d) = d
entry_side (Letter.sibling d) = other d
entry_side Letter.parent = Side.left
entry_side Letter.stay = Side.left

-- the side to which it turns in a spine: u out of a hole, every other into one
unfoldable pub spine_side : Letter → Side
spine_side (Letter.root d) = Side.right
spine_side (Letter.child d) = Side.right
spine_side (Letter.sibling d) = Side.right
spine_side Letter.parent = Side.left
spine_side Letter.stay = Side.right

-- the node that a change leads to, by the model's own pieces
unfoldable pub change_node : Facts → Letter → Change → List ℕ → Node
change_node F l (Change.Kept k r) s = (r, cells_in s k)
change_node F l (Change.Turn k v) s = turned_at F (spine_side l) v (cells_in s k)
change_node F l (Change.Tree k v) s = let t = turned_at F (letter_side l) v (cells_in s k) in opened F t.0 t.1
change_node F l (Change.Beside k v n o) s = entered F (entry_side l) n o (turned_at F Side.left v (cells_in s k)).1
change_node F l (Change.Row k n o) s = entered F (entry_side l) n o (cells_in s k)
change_node F l (Change.Spine k a) s = opened F a (cells_in s k)

unfoldable pub outcome : Facts → Letter → Outcome → List ℕ → Option Node
outcome F l (Outcome.Node x) s = Some (change_node F l x s)
outcome F l Outcome.Nowhere s = None

-- what the writing of a change asks, by the letter, of the cases that it has: a run that turns at that rule, rules that have rows
unfoldable pub AbleRoot : List ℕ → Change → Type 0
AbleRoot t (Change.Kept k r) = ⊥
AbleRoot t (Change.Turn k v) = ⊥
AbleRoot t (Change.Tree k v) = ⊥
AbleRoot t (Change.Beside k v n o) = ⊥
AbleRoot t (Change.Row k n o) = In t o
AbleRoot t (Change.Spine k a) = ⊥

unfoldable pub AbleChild : List ℕ → List ℕ → Change → Type 0
AbleChild t s (Change.Kept k r) = ⊥
AbleChild t s (Change.Turn k v) = Turning t s k Side.right v
AbleChild t s (Change.Tree k v) = ⊥
AbleChild t s (Change.Beside k v n o) = ⊥
AbleChild t s (Change.Row k n o) = In t o
AbleChild t s (Change.Spine k a) = In t a

unfoldable pub AbleSibling : List ℕ → List ℕ → Side → Change → Type 0
AbleSibling t s d (Change.Kept k r) = ⊥
AbleSibling t s d (Change.Turn k v) = Turning t s k Side.right v
AbleSibling t s d (Change.Tree k v) = Turning t s k d v
AbleSibling t s d (Change.Beside k v n o) = Turning t s k Side.left v × In t o
AbleSibling t s d (Change.Row k n o) = In t o
AbleSibling t s d (Change.Spine k a) = In t a

unfoldable pub AbleParent : List ℕ → List ℕ → Change → Type 0
AbleParent t s (Change.Kept k r) = Unit {0}
AbleParent t s (Change.Turn k v) = Turning t s k Side.left v
AbleParent t s (Change.Tree k v) = ⊥
AbleParent t s (Change.Beside k v n o) = ⊥
AbleParent t s (Change.Row k n o) = ⊥
AbleParent t s (Change.Spine k a) = ⊥

unfoldable pub AbleStay : Change → Type 0
AbleStay (Change.Kept k r) = Unit {0}
AbleStay (Change.Turn k v) = ⊥
AbleStay (Change.Tree k v) = ⊥
AbleStay (Change.Beside k v n o) = ⊥
AbleStay (Change.Row k n o) = ⊥
AbleStay (Change.Spine k a) = ⊥

unfoldable pub Able : List ℕ → List ℕ → Letter → Change → Type 0
Able t s (Letter.root d) x = AbleRoot t x
Able t s (Letter.child d) x = AbleChild t s x
Able t s (Letter.sibling d) x = AbleSibling t s d x
Able t s Letter.parent x = AbleParent t s x
Able t s Letter.stay x = AbleStay x

unfoldable pub AbleTo : List ℕ → List ℕ → Letter → Outcome → Type 0
AbleTo t s l (Outcome.Node x) = Able t s l x
AbleTo t s l Outcome.Nowhere = Unit {0}

-- the number of cells that a change keeps, which is at most k
unfoldable pub keep_of : Change → ℕ
keep_of (Change.Kept k r) = k
keep_of (Change.Turn k v) = k
keep_of (Change.Tree k v) = k
keep_of (Change.Beside k v n o) = k
keep_of (Change.Row k n o) = k
keep_of (Change.Spine k a) = k

unfoldable pub KeepsFew : ℕ → Outcome → Type 0
KeepsFew k (Outcome.Node x) = keep_of x ≤ k
KeepsFew k Outcome.Nowhere = Unit {0}

-- a letter's decision from k cells is the model's move, and can be written
pub record Decided (t s : List ℕ) (k : ℕ) (l : Letter) (r : Outcome) (y : Option Node) : Type 0 where
  pub node : outcome (facts_in t) l r s ≡ y
  pub able : AbleTo t s l r
  pub keeps : KeepsFew k r

-- the row of a rule entered with a number on k cells; nowhere, if it has no tree
unfoldable pub row_outcome : Facts → ℕ → ℕ → ℕ → Outcome
row_outcome F k n a = cond (F.is_empty a) Outcome.Nowhere (Outcome.Node (Change.Row k n (F.representative a)))

-- the part that is reached in a spine: by a turn to the left, or on cells that are kept
unfoldable pub reached : Facts → Reach → List ℕ → Option Node
reached F (Reach.Turn k v) s = Some (turned_at F Side.left v (cells_in s k))
reached F (Reach.Kept k r) s = Some (r, cells_in s k)
reached F Reach.Off s = None

unfoldable pub Turned : List ℕ → List ℕ → Reach → Type 0
Turned t s (Reach.Turn k v) = Turning t s k Side.left v
Turned t s (Reach.Kept k r) = Unit {0}
Turned t s Reach.Off = Unit {0}

unfoldable pub ReachedOf : ℕ → Reach → Type 0
ReachedOf k (Reach.Turn j v) = j ≤ k
ReachedOf k (Reach.Kept j r) = j ≤ k
ReachedOf k Reach.Off = Unit {0}

pub record Reached (t s : List ℕ) (k : ℕ) (r : Reach) (y : Option Node) : Type 0 where
  pub node : reached (facts_in t) r s ≡ y
  pub turned : Turned t s r
  pub keeps : ReachedOf k r
