-- The located forest carries the placed forest's labels and cells: both recurse alike, and the cells of a position are the
-- cells handed down with it. Assumes nothing.
use Prim.Native.Nat.{ℕ}
use mathlib.Core.Path.{◌≡◌, refl, sym, ◌∙◌, ap, ap₂}
use Rattle.forest.specs.Expression.{Expression}
use Rattle.forest.specs.Forest.{Forest, append}
use Rattle.forest.specs.Relabel.{relabel}
use Rattle.forest.specs.Place.{Side, Cells, Placed, is_empty, placed, placed_of}
use Rattle.forest.specs.Sides.{pick}
use Rattle.forest.specs.Position.{Position, Located, cells, label_of, located, located_of}
use Rattle.forest.proofs.Cases.{by_bool}
use Rattle.forest.proofs.Append.{relabel-append}

-- a located node as the placed forest has it: its label and its cells
abbrev pub placed_as : Located → Placed
placed_as x = (label_of x.0, cells x.1)

cells-pair : (r : ℕ) (b c : Expression) (z : Position) (hole : Position → Forest Located) (fill : Cells → Forest Placed)
    → ((y : Position) → placed b (cells y) fill ≡ relabel placed_as (located b y hole)) → ((y : Position) → placed c (cells y) fill ≡ relabel placed_as (located c y hole))
    → placed (Expression.pair r b c) (cells z) fill ≡ relabel placed_as (located (Expression.pair r b c) z hole)
unfolding placed located cells pick
cells-pair r b c z hole fill f g =
    by_bool (is_empty b) (λ u. rw u (g z))
    (λ u. rw u (by_bool (is_empty c) (λ v. rw v (f z))
    (λ v. rw v (ap₂ append (f (Position.pair_side Side.left r b c z)) (g (Position.pair_side Side.right r b c z))
    ∙ sym (relabel-append placed_as (located b (Position.pair_side Side.left r b c z) hole) (located c (Position.pair_side Side.right r b c z) hole))))))

cells-part : (f h g : Forest Located) {f' h' g' : Forest Placed} → f' ≡ relabel placed_as f → h' ≡ relabel placed_as h → g' ≡ relabel placed_as g
    → append f' (append h' g') ≡ relabel placed_as (append f (append h g))
cells-part f h g p q r = ap₂ append p (ap₂ append q r ∙ sym (relabel-append placed_as h g)) ∙ sym (relabel-append placed_as f (append h g))

-- holes that hold the same, given a position or its cells, are in forests that hold the same
pub placed-located : (e : Expression) (z : Position) (hole : Position → Forest Located) (fill : Cells → Forest Placed) → ((y : Position) → fill (cells y) ≡ relabel placed_as (hole y)) → placed e (cells z) fill ≡ relabel placed_as (located e z hole)
unfolding placed located cells label_of relabel pick
placed-located (Expression.empty r) z hole fill h = refl
placed-located (Expression.pair r b c) z hole fill h = cells-pair r b c z hole fill (λ y. placed-located b y hole fill h) (λ y. placed-located c y hole fill h)
placed-located (Expression.node r a c) z hole fill h =
    ap (λ x. Forest.tree (a, cells (Position.node_spine r a c z)) x Forest.none) (placed-located c (Position.node_row r a c (Position.node_spine r a c z)) hole fill h)
placed-located (Expression.fill r b c) z hole fill h =
    placed-located b (Position.fill_spine r b c z) (λ last. located c last hole) (λ last. placed c last fill) (λ y. placed-located c y hole fill h)
placed-located (Expression.part r a b c) z hole fill h =
    ap (λ x. Forest.tree (a, cells z) x Forest.none)
    (cells-part (located b (Position.part_row Side.left r a b c z) hole) (hole z) (located c (Position.part_row Side.right r a b c z) hole)
    (placed-located b (Position.part_row Side.left r a b c z) hole fill h) (h z) (placed-located c (Position.part_row Side.right r a b c z) hole fill h))
placed-located (Expression.join r b c) z hole fill h =
    placed-located b (Position.join_side Side.left r b c z) (λ around. located c (Position.join_side Side.right r b c z) hole) (λ around. placed c (cells (Position.join_side Side.right r b c z)) fill)
    (λ y. placed-located c (Position.join_side Side.right r b c z) hole fill h)

-- the located forest with labels and cells for its positions is the placed forest
pub placed-of : (w : Expression) → relabel placed_as (located_of w) ≡ placed_of w
unfolding placed_of located_of cells relabel
placed-of w = sym (placed-located w (Position.start w) (λ around. Forest.none) (λ around. Forest.none) (λ y. refl))
