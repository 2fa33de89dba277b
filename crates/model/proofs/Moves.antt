-- Every move on cells is the move on positions: child, sibling, parent, root. A run of the side's direction is dropped on
-- the way up a row, the first step of the other side is turned; where the row ends, its number says whether a hole follows.
-- Assumes nothing.
use Prim.Native.Nat.{ℕ}
use mathlib.Core.Path.{◌≡◌, refl, ap}
use mathlib.Core.Bool.{false, cond}
use mathlib.Core.List.{[], ◌∷◌}
use Rattle.std.specs.Prelude.{Option, None, Some, option_map}
use lib.Dec.{eqb}
use Rattle.forest.specs.Expression.{Expression, rule_number}
use Rattle.forest.specs.Place.{Cells, Side, cell_row, cell_spine, cell_run, row_of_node, row_of_part, is_empty, representative}
use Rattle.forest.specs.Sides.{pick, other}
use Rattle.forest.specs.Position.{or_else, Position, Located, At, Where, cells}
use Rattle.forest.specs.Good.{Sort}
use Rattle.forest.specs.Position as P
use Rattle.model.specs.Facts.{Facts}
use Rattle.model.specs.Model as M
use Rattle.model.specs.Model.{Node, pop_run, beside_top, turned, below_row, node_at}
use Rattle.model.proofs.Cells.{Steps, Top, at_row, at_run, at_spine, top-standing, turned-step, pop_run-step, below_row-step}
use Rattle.model.proofs.Fit.{Fit, Tells, tells, shape, picked, pick-map, pair-steps}
use Rattle.model.proofs.Standing.{Here, whole, says, pair-says}
use Rattle.model.proofs.Enter.{Agree, nowhere, found, node_of, agreed, entered, enters}
use Rattle.model.proofs.Spine.{Out, inside, alone, inwards, outwards}
use Rattle.model.proofs.Stages.{ended, follow, sibling_from, sibling-stages}

agree-else : (w : Expression) (x x' : Option Located) (y y' : Option Node) → Agree w x y → Agree w x' y' → Agree w (or_else x x') (or_else y y')
unfolding or_else
agree-else w x x' y y' nowhere k = k
agree-else w x x' y y' (found h) k = found h

-- at a row's opening nothing is beside in the row
follow-row : (F : Facts) (s : Side) (d v : ℕ) (t : Cells) → follow F s ((cell_row, d, v, 0) ∷ t) ≡ cond (eqb d (row_of_part (other s))) (M.inward F t) None
unfolding follow M.beside pop_run cell_run beside_top other ended or_else
follow-row F Side.left d v t = refl
follow-row F Side.right d v t = refl

follow-node : (F : Facts) (s : Side) (v : ℕ) (t : Cells) → follow F s ((cell_row, row_of_node, v, 0) ∷ t) ≡ None
unfolding row_of_part other
follow-node F Side.left v t = follow-row F Side.left row_of_node v t
follow-node F Side.right v t = follow-row F Side.right row_of_node v t

-- beside in a row: up a step of the same side, and across a step of the other
leave_same : (s : Side) (r : ℕ) (b c : Expression) (z : Position) → P.leave s (Position.pair_side s r b c z) ≡ P.leave s z
unfolding P.leave
leave_same Side.left r b c z = refl
leave_same Side.right r b c z = refl

leave-other : (s : Side) (r : ℕ) (b c : Expression) (z : Position) → P.leave s (Position.pair_side (other s) r b c z) ≡ P.enter (other s) (pick s b c) (Position.pair_side s r b c z)
unfolding P.leave other pick
leave-other Side.left r b c z = refl
leave-other Side.right r b c z = refl

same-leaves : (F : Facts) (w : Expression) (s : Side) (r : ℕ) (b c : Expression) (z : Position) → Agree w (P.leave s z) (follow F s (cells z)) → Agree w (P.leave s (Position.pair_side s r b c z)) (follow F s (cells (Position.pair_side s r b c z)))
unfolding follow M.beside cells
same-leaves F w s r b c z h = rw (leave_same, pop_run-step) h

other-leaves : (F : Facts) (w : Expression) (s : Side) (r : ℕ) (b c : Expression) (z : Position) → Top F r (cells z) → Steps F (other s) r (representative (pick (other s) b c)) → Steps F s r (representative (pick s b c)) → is_empty (pick s b c) ≡ false → Agree w (P.enter (other s) (pick s b c) (Position.pair_side s r b c z)) (entered F (other s) (pick s b c) (cells (Position.pair_side s r b c z))) → Agree w (P.leave s (Position.pair_side (other s) r b c z)) (follow F s (cells (Position.pair_side (other s) r b c z)))
unfolding follow M.beside cells turned or_else entered
other-leaves F w s r b c z t o g u h =
    rw (leave-other, turned-step F s r (representative (pick (other s) b c)) (cells z) t o, g.leads) (rw u at h)

-- at the end of a part's row stands its hole, or nothing
part-leaves : (F : Facts) (w : Expression) (s u : Side) (r a : ℕ) (b c : Expression) (z : Position) → Agree w (P.inward z z) (M.inward F (cells z)) → Agree w (P.leave s (Position.part_row u r a b c z)) (follow F s (cells (Position.part_row u r a b c z)))
unfolding P.leave cells row_of_part other
part-leaves F w Side.left Side.left r a b c z h = rw follow-row nowhere
part-leaves F w Side.left Side.right r a b c z h = rw follow-row h
part-leaves F w Side.right Side.left r a b c z h = rw follow-row h
part-leaves F w Side.right Side.right r a b c z h = rw follow-row nowhere

-- entering a row on cells, by its rule's number
enter-number : (F : Facts) (s : Side) (d : ℕ) (e : Expression) (cs : Cells) → Fit F Sort.row e → M.enter F s d (rule_number e) cs ≡ entered F s e ((cell_row, d, representative e, 0) ∷ cs)
unfolding M.enter entered
enter-number F s d e cs g =
    let t : Tells F e = tells F Sort.row e g in
    rw (t.empties, t.represents)

-- at a row's opening, and at a node, the cells are not empty
node_at_lem : (F : Facts) (v : ℕ) (cs : Cells) → Top F v cs → node_at F cs ≡ Some (v, cs)
unfolding node_at
node_at_lem F v cs (at_row {d} {t = t}) = ap (λ n. Some (n, (cell_row, d, v, 0) ∷ t)) (top-standing F v ((cell_row, d, v, 0) ∷ t) at_row)
node_at_lem F v cs (at_run {a} {t = t} s j e d) = ap (λ n. Some (n, (cell_run s, a, v, 0) ∷ t)) (top-standing F v ((cell_run s, a, v, 0) ∷ t) (at_run s j e d))
node_at_lem F v cs (at_spine {a} {t = t} o) = ap (λ n. Some (n, (cell_spine, a, 0, 0) ∷ t)) (top-standing F v ((cell_spine, a, 0, 0) ∷ t) (at_spine o))

module _ (F : Facts) (w : Expression) (g : Fit F Sort.row w) where
  turn-leaves : (s : Side) (r : ℕ) (b c : Expression) (z : Position) → At w Where.row (Expression.pair r b c) z → is_empty b ≡ false → is_empty c ≡ false → Agree w (P.leave s (Position.pair_side (other s) r b c z)) (follow F s (cells (Position.pair_side (other s) r b c z)))
  turn-leaves s r b c z h x y =
      let f : Fit F Sort.row (Expression.pair r b c) = whole F w g Where.row (Expression.pair r b c) z h in
      let k : At w Where.row (pick s b c) (Position.pair_side s r b c z) = At.side s h x y in
      other-leaves F w s r b c z (pair-says F w g r b c z h x y) (pair-steps F (other s) r b c f x y) (pair-steps F s r b c f x y)
      (picked (λ e. is_empty e ≡ false) s b c x y)
      (enters F w (other s) (pick s b c) (whole F w g Where.row (pick s b c) (Position.pair_side s r b c z) k) (Position.pair_side s r b c z) k)

  side-leaves : (s u : Side) (r : ℕ) (b c : Expression) (z : Position) → At w Where.row (Expression.pair r b c) z → is_empty b ≡ false → is_empty c ≡ false → Agree w (P.leave s z) (follow F s (cells z)) → Agree w (P.leave s (Position.pair_side u r b c z)) (follow F s (cells (Position.pair_side u r b c z)))
  unfolding other
  side-leaves Side.left Side.left r b c z h x y ih = same-leaves F w Side.left r b c z ih
  side-leaves Side.left Side.right r b c z h x y ih = turn-leaves Side.left r b c z h x y
  side-leaves Side.right Side.left r b c z h x y ih = turn-leaves Side.right r b c z h x y
  side-leaves Side.right Side.right r b c z h x y ih = same-leaves F w Side.right r b c z ih

  -- the root of the tree beside the one at a row position
  leaves : (s : Side) (e : Expression) (z : Position) → At w Where.row e z → Agree w (P.leave s z) (follow F s (cells z))
  unfolding P.leave cells
  leaves s e z At.start = rw follow-node nowhere
  leaves s e z (At.side {r} {b} {c} {z = y} u h x v) = side-leaves s u r b c y h x v (leaves s (Expression.pair r b c) y h)
  leaves s e z (At.only_right {r} {b} {c} h u) = leaves s (Expression.pair r b c) z h
  leaves s e z (At.only_left {r} {b} {c} h u v) = leaves s (Expression.pair r b c) z h
  leaves s e z (At.under h) = rw follow-node nowhere
  leaves s e z (At.arm {r} {a} {b} {c} {z = y} u h) = part-leaves F w s u r a b c y (inwards F w g r a b c y h)

  node-child : (s : Side) (r a : ℕ) (c : Expression) (z : Position) → Here F (Expression.node r a c) → At w Where.here (Expression.node r a c) z → Agree w (P.child s (Expression.node r a c) z) (M.child F s (r, cells z))
  unfolding P.child M.child M.child_of rule_number shape cells
  node-child s r a c z (Here.node t gc) h =
      rw (t.rule, enter-number F s row_of_node c (cells z) gc) (enters F w s c gc (Position.node_row r a c z) (At.under h))

  arm-enters : (s u : Side) (r a : ℕ) (b c : Expression) (z : Position) → Here F (Expression.part r a b c) → At w Where.here (Expression.part r a b c) z → Agree w (P.enter s (pick u b c) (Position.part_row u r a b c z)) (M.enter F s (row_of_part u) (pick u (rule_number b) (rule_number c)) (cells z))
  unfolding cells
  arm-enters s u r a b c z (Here.part t gb gc) h =
      let k : Fit F Sort.row (pick u b c) = picked (Fit F Sort.row) u b c gb gc in
      rw (pick-map rule_number u b c, enter-number F s (row_of_part u) (pick u b c) (cells z) k)
      (enters F w s (pick u b c) k (Position.part_row u r a b c z) (At.arm u h))

  part-child : (s : Side) (r a : ℕ) (b c : Expression) (z : Position) → Here F (Expression.part r a b c) → At w Where.here (Expression.part r a b c) z → Agree w (P.child s (Expression.part r a b c) z) (M.child F s (r, cells z))
  unfolding P.child M.child M.child_of rule_number shape
  part-child s r a b c z (Here.part t gb gc) h =
      rw t.rule
      (agree-else w (P.enter s (pick s b c) (Position.part_row s r a b c z)) (P.inward z z) (M.enter F s (row_of_part s) (pick s (rule_number b) (rule_number c)) (cells z)) (M.inward F (cells z))
      (arm-enters s s r a b c z (Here.part t gb gc) h) (inwards F w g r a b c z h))

  here-child : (s : Side) (e : Expression) (z : Position) → Here F e → At w Where.here e z → Agree w (P.child s e z) (M.child F s (rule_number e, cells z))
  unfolding rule_number
  here-child s e z (Here.node {r} {a} {c} t gc) h = node-child s r a c z (Here.node t gc) h
  here-child s e z (Here.part {r} {a} {b} {c} t gb gc) h = part-child s r a b c z (Here.part t gb gc) h

  -- the first or last child
  pub child-agrees : (s : Side) (e : Expression) (z : Position) → At w Where.here e z → Agree w (P.child s e z) (M.child F s (rule_number e, cells z))
  child-agrees s e z h = here-child s e z (whole F w g Where.here e z h).0 h

  hole-sibling : (s : Side) (e : Expression) (z : Position) → Here F e → At w Where.here e z → Agree w (P.beside_hole s e z) (M.beside_hole F s (F.rule (rule_number e)) (cells z))
  unfolding P.beside_hole M.beside_hole shape rule_number
  hole-sibling s e z (Here.node t gc) h = rw t.rule nowhere
  hole-sibling s e z (Here.part {r} {a} {b} {c} t gb gc) h = rw t.rule (arm-enters (other s) s r a b c z (Here.part t gb gc) h)

  sibling-out : (s : Side) (p : ℕ) (z : Position) → Out F w z → Agree w (P.sibling s z) (M.sibling F s (p, cells z))
  unfolding P.sibling sibling_from
  sibling-out s p z (inside x i h u v) = rw (sibling-stages, u, v) (hole-sibling s x.0 x.1 (whole F w g Where.here x.0 x.1 h).0 h)
  sibling-out s p z (alone e h u v q) = rw (sibling-stages, u, v, q) (leaves s e (P.row_of z) h)

  -- the next or previous sibling
  pub sibling-agrees : (s : Side) (e : Expression) (z : Position) → At w Where.here e z → Agree w (P.sibling s z) (M.sibling F s (rule_number e, cells z))
  sibling-agrees s e z h = sibling-out s (rule_number e) z (outwards F w g e z h)

  -- the node over a row
  row-parent : (e : Expression) (z : Position) → At w Where.row e z → Agree w (P.row_parent z) (node_at F (below_row (cells z)))
  unfolding P.row_parent cells below_row node_at rule_number
  row-parent e z At.start = nowhere
  row-parent e z (At.side {r} {b} {c} {z = y} u h x v) = rw below_row-step (row-parent (Expression.pair r b c) y h)
  row-parent e z (At.only_right {r} {b} {c} h u) = row-parent (Expression.pair r b c) z h
  row-parent e z (At.only_left {r} {b} {c} h u v) = row-parent (Expression.pair r b c) z h
  row-parent e z (At.under {r} {a} {c} {z = y} h) = rw (node_at_lem F r (cells y) (says F w g Where.here (Expression.node r a c) y h)) (found h)
  row-parent e z (At.arm {r} {a} {b} {c} {z = y} u h) = rw (node_at_lem F r (cells y) (says F w g Where.here (Expression.part r a b c) y h)) (found h)

  parent-out : (p : ℕ) (z : Position) → Out F w z → Agree w (P.parent z) (M.parent F (p, cells z))
  unfolding P.parent M.parent or_else
  parent-out p z (inside x i h u v) = rw (u, v) (found h)
  parent-out p z (alone e h u v q) = rw (u, v, q) (row-parent e (P.row_of z) h)

  -- the parent
  pub parent-agrees : (e : Expression) (z : Position) → At w Where.here e z → Agree w (P.parent z) (M.parent F (rule_number e, cells z))
  parent-agrees e z h = parent-out (rule_number e) z (outwards F w g e z h)

  -- the root of the first or last tree
  pub root-agrees : (s : Side) → Agree w (P.enter s w (Position.start w)) (M.root F s (rule_number w))
  unfolding M.root cells
  root-agrees s = rw (enter-number F s row_of_node w [] g) (enters F w s w g (Position.start w) At.start)

  -- the moves of a node, as equations
  pub child-is : (s : Side) (e : Expression) (z : Position) → At w Where.here e z → M.child F s (rule_number e, cells z) ≡ option_map node_of (P.child s e z)
  child-is s e z h = agreed w (P.child s e z) (M.child F s (rule_number e, cells z)) (child-agrees s e z h)

  pub sibling-is : (s : Side) (e : Expression) (z : Position) → At w Where.here e z → M.sibling F s (rule_number e, cells z) ≡ option_map node_of (P.sibling s z)
  sibling-is s e z h = agreed w (P.sibling s z) (M.sibling F s (rule_number e, cells z)) (sibling-agrees s e z h)

  pub parent_is : (e : Expression) (z : Position) → At w Where.here e z → M.parent F (rule_number e, cells z) ≡ option_map node_of (P.parent z)
  parent_is e z h = agreed w (P.parent z) (M.parent F (rule_number e, cells z)) (parent-agrees e z h)

  pub root_is : (s : Side) → M.root F s (rule_number w) ≡ option_map node_of (P.enter s w (Position.start w))
  root_is s = agreed w (P.enter s w (Position.start w)) (M.root F s (rule_number w)) (root-agrees s)
