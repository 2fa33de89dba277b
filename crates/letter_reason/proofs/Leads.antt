-- Whether a letter leads to a node tells its reason there: a, z and s have one reason either way. The cells below a row are found by looking
-- down from its last cell to its opening. Assumes nothing.
use Prim.Native.Nat.{ℕ, ◌+◌, ◌-◌, ◌<◌}
use native.Mathlib.Omega.{arith}
use mathlib.Core.Path.{◌≡◌, refl, sym, ap, ◌∙◌}
use mathlib.Core.Bool.{Bool, true, false}
use mathlib.Core.List.{List}
use Rattle.std.specs.Prelude.{Option, None, Some}
use borrow.Author.Tests.{eq-eqb, ne_eqb}
use Rattle.forest.specs.Place.{Cells, cell_row}
use Rattle.forest.specs.Letter.{Letter}
use Rattle.forest.specs.Walk.{cell_at, cells_in}
use Rattle.model.specs.Facts.{Facts}
use Rattle.model.specs.Model.{Node, outward, under, below_row, node_at, parent}
use Rattle.model.specs.Neighbour.{is_nil}
use Rattle.model.specs.Walk.{from_node}
use Rattle.letter.specs.declared.Letter as code
use Rattle.letter.specs.Letter.{move_of}
use Rattle.place_cells.proofs.Stack.{cells-none, cells-top}
use Rattle.move_parts.proofs.Outcomes.{parent-part, parent-off, node-none, node-here}
use Rattle.letter_moves.proofs.Stands.{from-cells}
use Rattle.reasons.specs.declared.Reason.{Reason}
use Rattle.reasons.specs.Reason.{reason_above}
use Rattle.reasons.specs.Decided.{is_found, stop_reason, decided_at, decided}

-- a letter that leads to a node, and one that doesn't
pub leads-moves : (c : Letter) {y : Option Node} {x : Node} → y ≡ Some x → Reason.Moves ≡ decided_at c (is_found y)
unfolding decided_at is_found
leads-moves c e = rw e

pub leads-stops : (c : Letter) {y : Option Node} → y ≡ None → stop_reason c ≡ decided_at c (is_found y)
unfolding decided_at is_found
leads-stops c e = rw e

-- a, z and s
pub always-moves : (c : Letter) (t : Bool) → stop_reason c ≡ Reason.Moves → Reason.Moves ≡ decided_at c t
unfolding decided_at
always-moves c true e = refl
always-moves c false e = sym e

-- all letters but a and z: above the forest
pub other-above : (x : code.Letter) → (x ≡ code.Letter.A → ⊥) → (x ≡ code.Letter.Z → ⊥) → Reason.Above ≡ reason_above (move_of x)
unfolding reason_above move_of
other-above code.Letter.A ha hz = absurd (ha refl)
other-above code.Letter.Z ha hz = absurd (hz refl)
other-above code.Letter.F ha hz = refl
other-above code.Letter.L ha hz = refl
other-above code.Letter.N ha hz = refl
other-above code.Letter.P ha hz = refl
other-above code.Letter.U ha hz = refl
other-above code.Letter.S ha hz = refl

-- the cells below a row, looked for from cell i down: the cell with number i is the one over i - 1 cells
module _ (s : List ℕ) (i : ℕ) where
  pub below-here : 0 < i → (cell_at s (i - 1 + 1)).0 ≡ cell_row → below_row (cells_in s i) ≡ cells_in s (i - 1)
  unfolding below_row
  below-here h e = let top : i - 1 + 1 ≡ i = omega arith in rw (cells-top s i h, eq-eqb _ _ (rw top at e))

  pub below_next : 0 < i → ((cell_at s (i - 1 + 1)).0 ≡ cell_row → ⊥) → below_row (cells_in s i) ≡ below_row (cells_in s (i - 1))
  unfolding below_row
  below_next h e = let top : i - 1 + 1 ≡ i = omega arith in rw (cells-top s i h, ne_eqb _ _ (rw top at e))

  pub below_none : i ≡ 0 → below_row (cells_in s i) ≡ cells_in s 0
  unfolding below_row cells_in
  below_none e = rw (cells-none s i e)

-- the parent of a node that stands in no part's hole: the node at the cells below its row
module _ (F : Facts) (s : List ℕ) (p k t r : ℕ) (off : outward F (cells_in s k) ≡ None) (row : cells_in s t ≡ under (cells_in s k))
    (below : cells_in s r ≡ below_row (cells_in s t)) where
  over-row : parent F (p, cells_in s k) ≡ node_at F (cells_in s r)
  over-row = parent-off F p (cells_in s k) off ∙ ap (node_at F) (ap below_row (sym row) ∙ sym below)

  pub root-stops : r ≡ 0 → Reason.Root ≡ decided_at Letter.parent (is_found (parent F (p, cells_in s k)))
  unfolding stop_reason
  root-stops e = leads-stops Letter.parent (over-row ∙ node-none F s r e)

  pub parent-moves : 0 < r → Reason.Moves ≡ decided_at Letter.parent (is_found (parent F (p, cells_in s k)))
  parent-moves h = leads-moves Letter.parent (over-row ∙ node-here F s r h)

-- the part in whose hole it stands
pub part-moves : (F : Facts) (p : ℕ) (cs : Cells) {x : Node} → outward F cs ≡ Some x → Reason.Moves ≡ decided_at Letter.parent (is_found (parent F (p, cs)))
part-moves F p cs e = leads-moves Letter.parent (parent-part F p cs e)

-- a letter other than a and z moves only from a node
pub from-node : (c : Letter) (s : List ℕ) (k : ℕ) (y : Option Node) → 0 < k → decided_at c (is_found y) ≡ decided_at c (is_found (from_node (cells_in s k) y))
from-node c s k y h = ap (λ (z : Option Node). decided_at c (is_found z)) (from-cells s k y (λ e. omega arith))

-- what is decided first
pub no-trees : (empty above : Bool) (c : Letter) (leads : Bool) → empty ≡ true → Reason.NoTrees ≡ decided empty above c leads
unfolding decided
no-trees empty above c leads e = rw e

module _ (empty : Bool) (c : Letter) (leads : Bool) (s : List ℕ) (k : ℕ) (trees : empty ≡ false) where
  pub above-trees : k ≡ 0 → reason_above c ≡ decided empty (is_nil (cells_in s k)) c leads
  unfolding decided is_nil
  above-trees e = rw (trees, cells-none s k e)

  pub at_node : 0 < k → decided_at c leads ≡ decided empty (is_nil (cells_in s k)) c leads
  unfolding decided is_nil
  at_node h = rw (trees, cells-top s k h)
