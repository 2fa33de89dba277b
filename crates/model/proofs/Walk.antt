-- A whole call of the walker on cells is the walk on positions: from places that are the same, each letter leads to the same
-- node or nowhere, and nowhere keeps both places.
-- Assumes nothing.
use Prim.Native.Nat.{ℕ}
use mathlib.Core.Path.{◌≡◌, refl, ap, ap₂}
use mathlib.Core.List.{List, [], ◌∷◌}
use Rattle.std.specs.Prelude.{Option, None, Some, option_map, unwrap_or}
use Rattle.forest.specs.Expression.{Expression, rule_number}
use Rattle.forest.specs.Place.{Cells}
use Rattle.forest.specs.Position.{or_else, Position, Located, At, Where, cells, label_of}
use Rattle.forest.specs.Letter.{Letter}
use Rattle.forest.specs.Good.{Sort}
use Rattle.forest.specs.Position as P
use Rattle.model.specs.Facts.{Facts}
use Rattle.model.specs.Model.{Node, standing}
use Rattle.model.specs.Same.{Same, above, at}
use Rattle.model.specs.Walk.{label, from_node, move, moved, answer, answers, after}
use Rattle.model.proofs.Cells.{Top, at_row, at_run, at_spine}
use Rattle.model.proofs.Fit.{Fit, shape}
use Rattle.model.proofs.Standing.{Here, whole, says, standing_here}
use Rattle.model.proofs.Enter.{Agree, nowhere, found}
use Rattle.model.proofs.Moves.{child-agrees, sibling-agrees, parent-agrees, root-agrees}

-- the node that a letter leads to on positions, from a node or from above the forest
unfoldable pub move_at : Expression → Letter → Option Located → Option Located
move_at w (Letter.root s) x = P.enter s w (Position.start w)
move_at w (Letter.child s) None = None
move_at w (Letter.child s) (Some x) = P.child s x.0 x.1
move_at w (Letter.sibling s) None = None
move_at w (Letter.sibling s) (Some x) = P.sibling s x.1
move_at w Letter.parent None = None
move_at w Letter.parent (Some x) = P.parent x.1
move_at w Letter.stay x = x

unfoldable pub moved_at : Expression → Letter → Option Located → Option Located
moved_at w l x = or_else (move_at w l x) x

-- letters taken in turn
unfoldable pub answers_at : Expression → List Letter → Option Located → List (Option ℕ)
answers_at w [] x = []
answers_at w (l ∷ ls) x = option_map (λ (y : Located). label_of y.0) (move_at w l x) ∷ answers_at w ls (moved_at w l x)

unfoldable pub after_at : Expression → List Letter → Option Located → Option Located
after_at w [] x = x
after_at w (l ∷ ls) x = after_at w ls (moved_at w l x)

-- the cells of a place
unfoldable pub cells_at : Option Located → Cells
cells_at None = []
cells_at (Some x) = cells x.1

pub equal_cells : (w : Expression) (x : Option Located) (n : Node) → Same w x n → n.1 ≡ cells_at x
unfolding cells_at
equal_cells w x n above = refl
equal_cells w x n (at h) = refl

-- a node's rule has its label
here_label : (F : Facts) (e : Expression) → Here F e → label (F.rule (rule_number e)) ≡ label_of e
unfolding label label_of shape rule_number
here_label F e (Here.node t gc) = rw t.rule
here_label F e (Here.part t gb gc) = rw t.rule

pub label_is : (F : Facts) (w : Expression) → Fit F Sort.row w → (e : Expression) (z : Position) → At w Where.here e z → label (F.rule (rule_number e)) ≡ label_of e
label_is F w g e z h = here_label F e (whole F w g Where.here e z h).0

from-node : (F : Facts) (v : ℕ) (cs : Cells) (y : Option Node) → Top F v cs → from_node cs y ≡ y
unfolding from_node
from-node F v cs y at_row = refl
from-node F v cs y (at_run s j e d) = refl
from-node F v cs y (at_spine o) = refl

module _ (F : Facts) (w : Expression) (g : Fit F Sort.row w) where
  from-here : (e : Expression) (z : Position) → At w Where.here e z → (y : Option Node) → from_node (cells z) y ≡ y
  from-here e z h y = from-node F (rule_number e) (cells z) y (says F w g Where.here e z h)

  -- one letter
  pub move-agrees : (l : Letter) (x : Option Located) (n : Node) → Same w x n → Agree w (move_at w l x) (move F (rule_number w) l n)
  unfolding move_at move from_node
  move-agrees (Letter.root s) x n h = root-agrees F w g s
  move-agrees (Letter.child s) x n above = nowhere
  move-agrees (Letter.child s) x n (at {e} {z} h) = rw (from-here e z h) (child-agrees F w g s e z h)
  move-agrees (Letter.sibling s) x n above = nowhere
  move-agrees (Letter.sibling s) x n (at {e} {z} h) = rw (from-here e z h) (sibling-agrees F w g s e z h)
  move-agrees Letter.parent x n above = nowhere
  move-agrees Letter.parent x n (at {e} {z} h) = rw (from-here e z h) (parent-agrees F w g e z h)
  move-agrees Letter.stay x n above = nowhere
  move-agrees Letter.stay x n (at {e} {z} h) = rw (from-here e z h) (found h)

  kept : (x y : Option Located) (n : Node) (k : Option Node) → Same w x n → Agree w y k → Same w (or_else y x) (unwrap_or k n)
  unfolding or_else
  kept x y n k h nowhere = h
  kept x y n k h (found a) = at a

  pub moved_same : (l : Letter) (x : Option Located) (n : Node) → Same w x n → Same w (moved_at w l x) (moved F (rule_number w) l n)
  unfolding moved_at moved
  moved_same l x n h = kept x (move_at w l x) n (move F (rule_number w) l n) h (move-agrees l x n h)

  labelled : (y : Option Located) (k : Option Node) → Agree w y k → option_map (λ (n : Node). label (F.rule n.0)) k ≡ option_map (λ (x : Located). label_of x.0) y
  labelled y k nowhere = refl
  labelled y k (found {e} {z} h) = ap (λ n. Some n) (label_is F w g e z h)

  -- the answer to one letter
  pub answer-is : (l : Letter) (x : Option Located) (n : Node) → Same w x n → answer F (rule_number w) l n ≡ option_map (λ (y : Located). label_of y.0) (move_at w l x)
  unfolding answer
  answer-is l x n h = labelled (move_at w l x) (move F (rule_number w) l n) (move-agrees l x n h)

  -- a whole call: the answers, and the place after it
  pub answers-are : (ls : List Letter) (x : Option Located) (n : Node) → Same w x n → answers F (rule_number w) ls n ≡ answers_at w ls x
  unfolding answers answers_at
  answers-are [] x n h = refl
  answers-are (l ∷ ls) x n h =
      ap₂ (λ a rest. a ∷ rest) (answer-is l x n h) (answers-are ls (moved_at w l x) (moved F (rule_number w) l n) (moved_same l x n h))

  pub after_same : (ls : List Letter) (x : Option Located) (n : Node) → Same w x n → Same w (after_at w ls x) (after F (rule_number w) ls n)
  unfolding after after_at
  after_same [] x n h = h
  after_same (l ∷ ls) x n h = after_same ls (moved_at w l x) (moved F (rule_number w) l n) (moved_same l x n h)

  pub cells-after : (ls : List Letter) (x : Option Located) (n : Node) → Same w x n → (after F (rule_number w) ls n).1 ≡ cells_at (after_at w ls x)
  cells-after ls x n h = equal_cells w (after_at w ls x) (after F (rule_number w) ls n) (after_same ls x n h)

  -- a node's cells alone are its place: the rule is read off the last cell
  pub same_here : (e : Expression) (z : Position) → At w Where.here e z → Same w (Some (e, z)) (standing F (cells z), cells z)
  same_here e z h = rw (standing_here F w g e z h) (at h)
