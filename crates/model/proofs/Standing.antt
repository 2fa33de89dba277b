-- What the cells of a position say: the last cell is a row's opening, a run, or a spine, and it names the rule that stands
-- there. By recursion on how the position was reached; a step is a law of runs.
-- Assumes nothing.
use Prim.Native.Nat.{ℕ}
use mathlib.Core.Path.{◌≡◌}
use mathlib.Core.Bool.{true, false}
use Rattle.std.specs.Prelude.{Some}
use Rattle.std.proofs.lemmas.Option.{none-some, same_Some}
use Rattle.forest.specs.Expression.{Expression, rule_number}
use Rattle.forest.specs.Place.{Cells, Side, is_empty, representative}
use Rattle.forest.specs.Sides.{pick}
use Rattle.forest.specs.Good.{Sort}
use Rattle.forest.specs.Position.{Position, At, Where, cells, continues}
use Rattle.model.specs.Facts.{Facts}
use Rattle.model.specs.Model.{standing}
use Rattle.model.proofs.Cells.{Top, at_row, at_spine, top-step, top-standing}
use Rattle.model.proofs.Fit.{Fit, Tells, picked, pair-steps, join-steps, node-outer, fill-outer}

-- a node's expression: a node or a part, with true facts
pub data Here (F : Facts) : Expression → Type 0 where
  node : {r a : ℕ} {c : Expression} → Tells F (Expression.node r a c) → Fit F Sort.row c → Here F (Expression.node r a c)
  part : {r a : ℕ} {b c : Expression} → Tells F (Expression.part r a b c) → Fit F Sort.row b → Fit F Sort.row c → Here F (Expression.part r a b c)

-- what a spine continues in is a tree
abbrev pub Ahead : Facts → Position → Type 0
Ahead F z = (c : Expression) → continues z ≡ Some c → Fit F Sort.tree c

-- the sort of what stands at a position
abbrev pub Whole : Facts → Where → Expression → Position → Type 0
Whole F Where.row e z = Fit F Sort.row e
Whole F Where.tree e z = Fit F Sort.tree e
Whole F Where.spine e z = Fit F Sort.spine e × Ahead F z
Whole F Where.here e z = Here F e × Ahead F z

pair_inside : (F : Facts) (s : Side) (r : ℕ) (b c : Expression) → Fit F Sort.row (Expression.pair r b c) → Fit F Sort.row (pick s b c)
pair_inside F s r b c (Fit.pair t gb gc) = picked (Fit F Sort.row) s b c gb gc
pair_inside F s r b c (Fit.grown x) = elim x [ ]

join-inside : (F : Facts) (s : Side) (r : ℕ) (b c : Expression) (z : Position) → Fit F Sort.spine (Expression.join r b c) → Ahead F z → Fit F Sort.spine (pick s b c) × Ahead F (Position.join_side s r b c z)
unfolding continues pick
join-inside F Side.left r b c z (Fit.join t gb gc) h = (gb, λ x q. absurd (none-some x q))
join-inside F Side.right r b c z (Fit.join t gb gc) h = (gc, h)

tree_node : (F : Facts) (r a : ℕ) (c : Expression) → Fit F Sort.row (Expression.node r a c) → Fit F Sort.tree (Expression.node r a c)
tree_node F r a c (Fit.grown g) = g

tree_fill : (F : Facts) (r : ℕ) (b c : Expression) → Fit F Sort.row (Expression.fill r b c) → Fit F Sort.tree (Expression.fill r b c)
tree_fill F r b c (Fit.grown g) = g

node-here : (F : Facts) (r a : ℕ) (c : Expression) (z : Position) → Fit F Sort.tree (Expression.node r a c) → Here F (Expression.node r a c) × Ahead F (Position.node_spine r a c z)
unfolding continues
node-here F r a c z (Fit.node t gc) = (node t gc, λ x q. absurd (none-some x q))

part-here : (F : Facts) (r a : ℕ) (b c : Expression) → Fit F Sort.spine (Expression.part r a b c) → Here F (Expression.part r a b c)
part-here F r a b c (Fit.part t gb gc) = part t gb gc

fill-inside : (F : Facts) (r : ℕ) (b c : Expression) (z : Position) → Fit F Sort.tree (Expression.fill r b c) → Fit F Sort.spine b × Ahead F (Position.fill_spine r b c z)
unfolding continues
fill-inside F r b c z (Fit.fill t gb gc) = (gb, λ x q. rw (same_Some c x q) at gc)

node-inside : (F : Facts) (r a : ℕ) (c : Expression) → Here F (Expression.node r a c) → Fit F Sort.row c
node-inside F r a c (node t gc) = gc

arm-inside : (F : Facts) (s : Side) (r a : ℕ) (b c : Expression) → Here F (Expression.part r a b c) → Fit F Sort.row (pick s b c)
arm-inside F s r a b c (part t gb gc) = picked (Fit F Sort.row) s b c gb gc

-- whatever stands at a position is well sorted, with true facts
pub whole : (F : Facts) (w : Expression) → Fit F Sort.row w → (k : Where) (e : Expression) (z : Position) → At w k e z → Whole F k e z
unfolding pick
whole F w g k e z At.start = g
whole F w g k e z (At.side {r} {b} {c} {z = y} s h u v) = pair_inside F s r b c (whole F w g Where.row (Expression.pair r b c) y h)
whole F w g k e z (At.only_right {r} {b} {c} h u) = pair_inside F Side.right r b c (whole F w g Where.row (Expression.pair r b c) z h)
whole F w g k e z (At.only_left {r} {b} {c} h u v) = pair_inside F Side.left r b c (whole F w g Where.row (Expression.pair r b c) z h)
whole F w g k e z (At.tree_node {r} {a} {c} h) = tree_node F r a c (whole F w g Where.row (Expression.node r a c) z h)
whole F w g k e z (At.tree_fill {r} {b} {c} h) = tree_fill F r b c (whole F w g Where.row (Expression.fill r b c) z h)
whole F w g k e z (At.node {r} {a} {c} {z = y} h) = node-here F r a c y (whole F w g Where.tree (Expression.node r a c) y h)
whole F w g k e z (At.under {r} {a} {c} {z = y} h) = node-inside F r a c (whole F w g Where.here (Expression.node r a c) y h).0
whole F w g k e z (At.fill {r} {b} {c} {z = y} h) = fill-inside F r b c y (whole F w g Where.tree (Expression.fill r b c) y h)
whole F w g k e z (At.join {r} {b} {c} {z = y} s h) =
    let x : Fit F Sort.spine (Expression.join r b c) × Ahead F y = whole F w g Where.spine (Expression.join r b c) y h in
    join-inside F s r b c y x.0 x.1
whole F w g k e z (At.part {r} {a} {b} {c} h) =
    let x : Fit F Sort.spine (Expression.part r a b c) × Ahead F z = whole F w g Where.spine (Expression.part r a b c) z h in
    (part-here F r a b c x.0, x.1)
whole F w g k e z (At.arm {r} {a} {b} {c} {z = y} s h) = arm-inside F s r a b c (whole F w g Where.here (Expression.part r a b c) y h).0
whole F w g k e z (At.hole {r} {a} {b} {c} h q) = (whole F w g Where.here (Expression.part r a b c) z h).1 e q

-- what the last cell says: the representative in a row, the part, join or node in a spine
abbrev pub Says : Facts → Where → Expression → Position → Type 0
Says F Where.row e z = Top F (representative e) (cells z)
Says F Where.tree e z = Unit {0}
Says F Where.spine e z = Top F (rule_number e) (cells z)
Says F Where.here e z = Top F (rule_number e) (cells z)

side-says : (F : Facts) (s : Side) (r : ℕ) (b c : Expression) (z : Position) → Fit F Sort.row (Expression.pair r b c) → is_empty b ≡ false → is_empty c ≡ false → Top F (representative (Expression.pair r b c)) (cells z) → Top F (representative (pick s b c)) (cells (Position.pair_side s r b c z))
unfolding cells representative
side-says F s r b c z g u v t = top-step F s r (representative (pick s b c)) (cells z) (rw (u, v) at t) (pair-steps F s r b c g u v)

right-says : (F : Facts) (r : ℕ) (b c : Expression) (cs : Cells) → is_empty b ≡ true → Top F (representative (Expression.pair r b c)) cs → Top F (representative c) cs
unfolding representative
right-says F r b c cs u t = rw u at t

left-says : (F : Facts) (r : ℕ) (b c : Expression) (cs : Cells) → is_empty b ≡ false → is_empty c ≡ true → Top F (representative (Expression.pair r b c)) cs → Top F (representative b) cs
unfolding representative
left-says F r b c cs u v t = rw (u, v) at t

node-says : (F : Facts) (r a : ℕ) (c : Expression) (z : Position) → Fit F Sort.tree (Expression.node r a c) → Top F r (cells (Position.node_spine r a c z))
unfolding cells
node-says F r a c z (Fit.node t gc) = at_spine (node-outer F r a c t)

fill-says : (F : Facts) (r : ℕ) (b c : Expression) (z : Position) → Fit F Sort.tree (Expression.fill r b c) → Top F (rule_number b) (cells (Position.fill_spine r b c z))
unfolding cells
fill-says F r b c z (Fit.fill t gb gc) = at_spine (fill-outer F r b c t)

join-says : (F : Facts) (s : Side) (r : ℕ) (b c : Expression) (z : Position) → Fit F Sort.spine (Expression.join r b c) → Top F r (cells z) → Top F (rule_number (pick s b c)) (cells (Position.join_side s r b c z))
unfolding cells
join-says F s r b c z g t = top-step F s r (rule_number (pick s b c)) (cells z) t (join-steps F s r b c g)

-- the last cell of a position says what stands there
pub says : (F : Facts) (w : Expression) → Fit F Sort.row w → (k : Where) (e : Expression) (z : Position) → At w k e z → Says F k e z
unfolding cells rule_number
says F w g k e z At.start = at_row
says F w g k e z (At.side {r} {b} {c} {z = y} s h u v) =
    side-says F s r b c y (whole F w g Where.row (Expression.pair r b c) y h) u v (says F w g Where.row (Expression.pair r b c) y h)
says F w g k e z (At.only_right {r} {b} {c} h u) = right-says F r b c (cells z) u (says F w g Where.row (Expression.pair r b c) z h)
says F w g k e z (At.only_left {r} {b} {c} h u v) = left-says F r b c (cells z) u v (says F w g Where.row (Expression.pair r b c) z h)
says F w g k e z (At.tree_node h) = tt
says F w g k e z (At.tree_fill h) = tt
says F w g k e z (At.node {r} {a} {c} {z = y} h) = node-says F r a c y (whole F w g Where.tree (Expression.node r a c) y h)
says F w g k e z (At.under h) = at_row
says F w g k e z (At.fill {r} {b} {c} {z = y} h) = fill-says F r b c y (whole F w g Where.tree (Expression.fill r b c) y h)
says F w g k e z (At.join {r} {b} {c} {z = y} s h) =
    join-says F s r b c y (whole F w g Where.spine (Expression.join r b c) y h).0 (says F w g Where.spine (Expression.join r b c) y h)
says F w g k e z (At.part {r} {a} {b} {c} h) = says F w g Where.spine (Expression.part r a b c) z h
says F w g k e z (At.arm s h) = at_row
says F w g k e z (At.hole h q) = tt

-- the rule of a node is a function of its last cell
pub standing_here : (F : Facts) (w : Expression) → Fit F Sort.row w → (e : Expression) (z : Position) → At w Where.here e z → standing F (cells z) ≡ rule_number e
standing_here F w g e z h = top-standing F (rule_number e) (cells z) (says F w g Where.here e z h)

-- a two-sided pair stands by its own number
pub pair-itself : (r : ℕ) (b c : Expression) → is_empty b ≡ false → is_empty c ≡ false → representative (Expression.pair r b c) ≡ r
unfolding representative
pair-itself r b c u v = rw (u, v)

pub pair-says : (F : Facts) (w : Expression) → Fit F Sort.row w → (r : ℕ) (b c : Expression) (z : Position) → At w Where.row (Expression.pair r b c) z → is_empty b ≡ false → is_empty c ≡ false → Top F r (cells z)
pair-says F w g r b c z h u v = rw (pair-itself r b c u v) at (says F w g Where.row (Expression.pair r b c) z h)
