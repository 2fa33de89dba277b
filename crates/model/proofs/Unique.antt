-- Each node has cells of its own. The cells of a position give those of the position that it was made from (a step is undone
-- by shrinking, anything else by dropping a cell), and the last cell and what stands there say how it was made.
-- Assumes nothing.
use Prim.Native.Nat.{ℕ}
use native.Mathlib.Omega.{arith}
use mathlib.Core.Path.{◌≡◌, refl, sym, ap, ◌∙◌}
use mathlib.Core.Bool.{true, false, cond}
use mathlib.Core.List.{[], ◌∷◌}
use Rattle.std.specs.Prelude.{Option, None, Some}
use lib.Dec.{eqb}
use Rattle.forest.specs.Expression.{Expression, rule_number}
use Rattle.forest.specs.Place.{Cell, Cells, Side, cell_row, cell_spine, cell_run, row_of_part, is_empty, representative, step}
use Rattle.forest.specs.Sides.{pick}
use Rattle.forest.specs.Good.{Sort}
use Rattle.forest.specs.Position.{Position, At, Where, cells, continues}
use Rattle.model.specs.Facts.{Facts}
use Rattle.model.specs.Model.{shrunk}
use Rattle.model.proofs.Cells.{Steps, Top, top_kind, top_kind-step, shrunk-step}
use Rattle.model.proofs.Fit.{Fit, pair-steps, join-steps}
use Rattle.model.proofs.Standing.{whole, says, pair-says}

-- the expression itself, or what a one-sided pair stands for
core : Expression → Expression
core (Expression.empty r) = Expression.empty r
core (Expression.pair r b c) = cond (is_empty b) (core c) (cond (is_empty c) (core b) (Expression.pair r b c))
core (Expression.node r a c) = Expression.node r a c
core (Expression.fill r b c) = Expression.fill r b c
core (Expression.part r a b c) = Expression.part r a b c
core (Expression.join r b c) = Expression.join r b c

-- what stands at a position
content : Position → Expression
content (Position.start e) = core e
content (Position.node_row r a c z) = core c
content (Position.part_row s r a b c z) = core (pick s b c)
content (Position.pair_side s r b c z) = core (pick s b c)
content (Position.node_spine r a c z) = Expression.node r a c
content (Position.fill_spine r b c z) = core b
content (Position.join_side s r b c z) = core (pick s b c)

abbrev Contains : Where → Expression → Position → Type 0
Contains Where.row e z = core e ≡ content z
Contains Where.tree e z = Unit {0}
Contains Where.spine e z = core e ≡ content z
Contains Where.here e z = e ≡ content z

right-contains : (r : ℕ) (b c : Expression) (z : Position) → is_empty b ≡ true → core (Expression.pair r b c) ≡ content z → core c ≡ content z
unfolding core
right-contains r b c z u q = rw u at q

left-contains : (r : ℕ) (b c : Expression) (z : Position) → is_empty b ≡ false → is_empty c ≡ true → core (Expression.pair r b c) ≡ content z → core b ≡ content z
unfolding core
left-contains r b c z u v q = rw (u, v) at q

contains : (w : Expression) (k : Where) (e : Expression) (z : Position) → At w k e z → Contains k e z
unfolding content core
contains w k e z At.start = refl
contains w k e z (At.side s h u v) = refl
contains w k e z (At.only_right {r} {b} {c} h u) = right-contains r b c z u (contains w Where.row (Expression.pair r b c) z h)
contains w k e z (At.only_left {r} {b} {c} h u v) = left-contains r b c z u v (contains w Where.row (Expression.pair r b c) z h)
contains w k e z (At.tree_node h) = tt
contains w k e z (At.tree_fill h) = tt
contains w k e z (At.node h) = refl
contains w k e z (At.under h) = refl
contains w k e z (At.fill h) = refl
contains w k e z (At.join s h) = refl
contains w k e z (At.part {r} {a} {b} {c} h) = contains w Where.spine (Expression.part r a b c) z h
contains w k e z (At.arm s h) = refl
contains w k e z (At.hole h q) = tt

-- the cells without the last step or opening
peel : Facts → Cells → Cells
peel F [] = []
peel F (c ∷ cs) =
    cond (eqb c.0 (cell_run Side.left)) (shrunk F Side.left (c ∷ cs))
    (cond (eqb c.0 (cell_run Side.right)) (shrunk F Side.right (c ∷ cs)) cs)

peel-run : (F : Facts) (s : Side) (cs : Cells) → top_kind cs ≡ cell_run s → peel F cs ≡ shrunk F s cs
unfolding peel top_kind cell_run shrunk
peel-run F s [] q = refl
peel-run F Side.left (c ∷ cs) q = rw q
peel-run F Side.right (c ∷ cs) q = rw q

peel-step : (F : Facts) (s : Side) (a v : ℕ) (cs : Cells) → Steps F s a v → Top F a cs → peel F (step s a v cs) ≡ cs
peel-step F s a v cs g h = peel-run F s (step s a v cs) (top_kind-step s a v cs) ∙ shrunk-step F s a v g cs h

top_cell : Cells → Cell
top_cell [] = (0, 0, 0, 0)
top_cell (c ∷ cs) = c

side_of_run : ℕ → Side
side_of_run k = cond (eqb k (cell_run Side.left)) Side.left Side.right

side_of_row : ℕ → Side
side_of_row d = cond (eqb d (row_of_part Side.left)) Side.left Side.right

-- a position made of another: a tree opened there
opening : Option Expression → Position → Position
opening None z = z
opening (Some (Expression.empty r)) z = z
opening (Some (Expression.pair r b c)) z = z
opening (Some (Expression.node r a c)) z = Position.node_spine r a c z
opening (Some (Expression.fill r b c)) z = Position.fill_spine r b c z
opening (Some (Expression.part r a b c)) z = z
opening (Some (Expression.join r b c)) z = z

-- by the last cell, what stands there, and what its spine continues in
made : Cell → Expression → Option Expression → Position → Position
made x (Expression.empty r) o z = z
made x (Expression.pair r b c) o z = Position.pair_side (side_of_run x.0) r b c z
made x (Expression.node r a c) o z = cond (eqb x.0 cell_row) (Position.node_row r a c z) (opening (Some (Expression.node r a c)) z)
made x (Expression.fill r b c) o z = opening (Some (Expression.fill r b c)) z
made x (Expression.part r a b c) o z = cond (eqb x.0 cell_row) (Position.part_row (side_of_row x.1) r a b c z) (opening o z)
made x (Expression.join r b c) o z = Position.join_side (side_of_run x.0) r b c z

-- a position and those that it was made from
data Climbs (F : Facts) (w : Expression) : Position → Type 0 where
  bottom : Climbs F w (Position.start w)
  over : {z : Position} (y : Position) → Climbs F w y → peel F (cells z) ≡ cells y → z ≡ made (top_cell (cells z)) (content y) (continues y) y → Climbs F w z

top_cell-kind : (cs : Cells) → (top_cell cs).0 ≡ top_kind cs
unfolding top_cell top_kind
top_cell-kind [] = refl
top_cell-kind (c ∷ cs) = refl

side-of-run : (s : Side) → side_of_run (cell_run s) ≡ s
unfolding side_of_run cell_run
side-of-run Side.left = refl
side-of-run Side.right = refl

side-of-row : (s : Side) → side_of_row (row_of_part s) ≡ s
unfolding side_of_row row_of_part
side-of-row Side.left = refl
side-of-row Side.right = refl

side-step : (s : Side) (a v : ℕ) (cs : Cells) → side_of_run (top_cell (step s a v cs)).0 ≡ s
side-step s a v cs = rw (top_cell-kind, top_kind-step) (side-of-run s)

side-climbs : (F : Facts) (w : Expression) (s : Side) (r : ℕ) (b c : Expression) (y : Position) → Steps F s r (representative (pick s b c)) → Top F r (cells y) → is_empty b ≡ false → is_empty c ≡ false → core (Expression.pair r b c) ≡ content y → Climbs F w y → Climbs F w (Position.pair_side s r b c y)
unfolding cells core made
side-climbs F w s r b c y g t u v q h =
    over {z = Position.pair_side s r b c y} y h (peel-step F s r (representative (pick s b c)) (cells y) g t)
    (let e : Expression.pair r b c ≡ content y = rw (u, v) at q in rw (← e, side-step))

join-climbs : (F : Facts) (w : Expression) (s : Side) (r : ℕ) (b c : Expression) (y : Position) → Steps F s r (rule_number (pick s b c)) → Top F r (cells y) → core (Expression.join r b c) ≡ content y → Climbs F w y → Climbs F w (Position.join_side s r b c y)
unfolding cells core made
join-climbs F w s r b c y g t q h =
    over {z = Position.join_side s r b c y} y h (peel-step F s r (rule_number (pick s b c)) (cells y) g t) (rw (← q, side-step))

under-climbs : (F : Facts) (w : Expression) (r a : ℕ) (c : Expression) (y : Position) → Expression.node r a c ≡ content y → Climbs F w y → Climbs F w (Position.node_row r a c y)
unfolding cells made top_cell peel cell_run
under-climbs F w r a c y q h = over {z = Position.node_row r a c y} y h refl (rw (← q))

arm-climbs : (F : Facts) (w : Expression) (s : Side) (r a : ℕ) (b c : Expression) (y : Position) → Expression.part r a b c ≡ content y → Climbs F w y → Climbs F w (Position.part_row s r a b c y)
unfolding cells made top_cell peel cell_run
arm-climbs F w s r a b c y q h = over {z = Position.part_row s r a b c y} y h refl (rw (← q, side-of-row s))

-- a spine opened at a tree
tree-made : (w e : Expression) (z : Position) (a : ℕ) → At w Where.tree e z → made (cell_spine, a, 0, 0) (content z) (continues z) z ≡ opening (Some e) z
unfolding made core
tree-made w e z a (At.tree_node {r} {a = l} {c} h) = rw (← (contains w Where.row (Expression.node r l c) z h))
tree-made w e z a (At.tree_fill {r} {b} {c} h) = rw (← (contains w Where.row (Expression.fill r b c) z h))
tree-made w e z a (At.hole {r} {a = l} {b} {c} h q) = rw (← (contains w Where.here (Expression.part r l b c) z h), q)

node-climbs : (F : Facts) (w : Expression) (r a : ℕ) (c : Expression) (y : Position) → At w Where.tree (Expression.node r a c) y → Climbs F w y → Climbs F w (Position.node_spine r a c y)
unfolding cells opening top_cell peel cell_run
node-climbs F w r a c y t h = over y h refl (sym (tree-made w (Expression.node r a c) y r t))

fill-climbs : (F : Facts) (w : Expression) (r : ℕ) (b c : Expression) (y : Position) → At w Where.tree (Expression.fill r b c) y → Climbs F w y → Climbs F w (Position.fill_spine r b c y)
unfolding cells opening top_cell peel cell_run
fill-climbs F w r b c y t h = over y h refl (sym (tree-made w (Expression.fill r b c) y r t))

module _ (F : Facts) (w : Expression) (g : Fit F Sort.row w) where
  climbs : (k : Where) (e : Expression) (z : Position) → At w k e z → Climbs F w z
  unfolding rule_number
  climbs k e z At.start = bottom
  climbs k e z (At.side {r} {b} {c} {z = y} s h u v) =
      side-climbs F w s r b c y (pair-steps F s r b c (whole F w g Where.row (Expression.pair r b c) y h) u v) (pair-says F w g r b c y h u v) u v
      (contains w Where.row (Expression.pair r b c) y h) (climbs Where.row (Expression.pair r b c) y h)
  climbs k e z (At.only_right {r} {b} {c} h u) = climbs Where.row (Expression.pair r b c) z h
  climbs k e z (At.only_left {r} {b} {c} h u v) = climbs Where.row (Expression.pair r b c) z h
  climbs k e z (At.tree_node {r} {a} {c} h) = climbs Where.row (Expression.node r a c) z h
  climbs k e z (At.tree_fill {r} {b} {c} h) = climbs Where.row (Expression.fill r b c) z h
  climbs k e z (At.node {r} {a} {c} {z = y} h) = node-climbs F w r a c y h (climbs Where.tree (Expression.node r a c) y h)
  climbs k e z (At.under {r} {a} {c} {z = y} h) = under-climbs F w r a c y (contains w Where.here (Expression.node r a c) y h) (climbs Where.here (Expression.node r a c) y h)
  climbs k e z (At.fill {r} {b} {c} {z = y} h) = fill-climbs F w r b c y h (climbs Where.tree (Expression.fill r b c) y h)
  climbs k e z (At.join {r} {b} {c} {z = y} s h) =
      join-climbs F w s r b c y (join-steps F s r b c (whole F w g Where.spine (Expression.join r b c) y h).0) (says F w g Where.spine (Expression.join r b c) y h)
      (contains w Where.spine (Expression.join r b c) y h) (climbs Where.spine (Expression.join r b c) y h)
  climbs k e z (At.part {r} {a} {b} {c} h) = climbs Where.spine (Expression.part r a b c) z h
  climbs k e z (At.arm {r} {a} {b} {c} {z = y} s h) = arm-climbs F w s r a b c y (contains w Where.here (Expression.part r a b c) y h) (climbs Where.here (Expression.part r a b c) y h)
  climbs k e z (At.hole {r} {a} {b} {c} h q) = climbs Where.here (Expression.part r a b c) z h

-- a position has cells
run-kind : (s : Side) → cell_run s ≡ 0 → ⊥
unfolding cell_run
run-kind Side.left q = omega arith
run-kind Side.right q = omega arith

full : (z : Position) → top_kind (cells z) ≡ 0 → ⊥
unfolding cells top_kind
full (Position.start e) q = omega arith
full (Position.node_row r a c z) q = omega arith
full (Position.part_row s r a b c z) q = omega arith
full (Position.pair_side s r b c z) q = run-kind s (sym (top_kind-step s r (representative (pick s b c)) (cells z)) ∙ q)
full (Position.node_spine r a c z) q = omega arith
full (Position.fill_spine r b c z) q = omega arith
full (Position.join_side s r b c z) q = run-kind s (sym (top_kind-step s r (rule_number (pick s b c)) (cells z)) ∙ q)

-- positions with the same cells are the same
same-made : (F : Facts) (z z' y y' : Position) → z ≡ made (top_cell (cells z)) (content y) (continues y) y → z' ≡ made (top_cell (cells z')) (content y') (continues y') y' → cells z ≡ cells z' → y ≡ y' → z ≡ z'
same-made F z z' y y' m m' q e = m ∙ rw (q, e) (sym m')

no-under : (F : Facts) (w : Expression) (z y : Position) → peel F (cells z) ≡ cells y → cells (Position.start w) ≡ cells z → ⊥
unfolding cells peel cell_run top_kind
no-under F w z y p q = full y (ap top_kind (sym p ∙ ap (peel F) (sym q)))

unique : (F : Facts) (w : Expression) (z z' : Position) → Climbs F w z → Climbs F w z' → cells z ≡ cells z' → z ≡ z'
unique F w z z' bottom bottom q = refl
unique F w z z' bottom (over y h p m) q = absurd (no-under F w z' y p q)
unique F w z z' (over y h p m) bottom q = absurd (no-under F w z y p (sym q))
unique F w z z' (over y h p m) (over y' h' p' m') q =
    same-made F z z' y y' m m' q (unique F w y y' h h' (sym p ∙ ap (peel F) q ∙ p'))

-- each node has cells of its own
pub same-position : (F : Facts) (w : Expression) → Fit F Sort.row w → (e e' : Expression) (z z' : Position) → At w Where.here e z → At w Where.here e' z' → cells z ≡ cells z' → z ≡ z'
same-position F w g e e' z z' h h' q = unique F w z z' (climbs F w g Where.here e z h) (climbs F w g Where.here e' z' h') q

pub same-expression : (F : Facts) (w : Expression) → Fit F Sort.row w → (e e' : Expression) (z z' : Position) → At w Where.here e z → At w Where.here e' z' → cells z ≡ cells z' → e ≡ e'
same-expression F w g e e' z z' h h' q =
    contains w Where.here e z h ∙ ap content (same-position F w g e e' z z' h h' q) ∙ sym (contains w Where.here e' z' h')
