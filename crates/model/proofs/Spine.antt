-- Moves within a spine: into the hole of a part, and out to the part in whose hole a node stands, on cells as on positions.
-- A right run on top is dropped on the way in and a left run on the way out, as the recursion on positions passes the joins.
-- Assumes nothing.
use Prim.Native.Nat.{ℕ}
use mathlib.Core.Path.{◌≡◌, refl}
use mathlib.Core.List.{◌∷◌}
use Rattle.std.specs.Prelude.{Option, None, Some, option_map}
use Rattle.forest.specs.Expression.{Expression, rule_number}
use Rattle.forest.specs.Place.{Cells, Side, cell_spine, cell_run, representative}
use Rattle.forest.specs.Sides.{pick, other}
use Rattle.forest.specs.Position.{or_else, Position, Located, At, Where, cells, continues}
use Rattle.forest.specs.Good.{Sort}
use Rattle.forest.specs.Position as P
use Rattle.model.specs.Facts.{Facts}
use Rattle.model.specs.Model as M
use Rattle.model.specs.Model.{Node, pop_run, beside_top, turned, continuing, inner_of, under, tail, is_part}
use Rattle.model.proofs.Cells.{Steps, Top, top-standing, turned-step, pop_run-step}
use Rattle.model.proofs.Fit.{Fit, shape, join-steps}
use Rattle.model.proofs.Standing.{Here, whole, says}
use Rattle.model.proofs.Enter.{Agree, found, node_of, Ends, part_end, ends, tree-opened}

-- the move by what is left of the cells without a right run on top
inward_from : Facts → Cells → Cells → Option Node
inward_from F t cs = or_else (beside_top F Side.right t) (option_map (λ (c : ℕ). M.opened F c cs) (M.continuing F t))

-- a turn in a spine comes to the first or last part of the join's other side
turned-agrees : (F : Facts) (w : Expression) (s : Side) (r : ℕ) (b c : Expression) (z : Position) → Steps F s r (rule_number (pick s b c)) → Ends F w (other s) (pick s b c) → At w Where.spine (Expression.join r b c) z → Agree w (Some (part_end (other s) (pick s b c) (Position.join_side s r b c z))) (Some (turned F s r (cells z)))
unfolding turned cells
turned-agrees F w s r b c z g e h = rw g.leads (e (Position.join_side s r b c z) (At.join s h))

module _ (F : Facts) (w : Expression) (g : Fit F Sort.row w) where
  fill-inward : (r : ℕ) (b c : Expression) (y p : Position) → Fit F Sort.tree (Expression.fill r b c) → At w Where.tree c p → Agree w (Some (P.opened c p)) (inward_from F (pop_run Side.right ((cell_spine, r, 0, 0) ∷ cells y)) (cells p))
  unfolding inward_from pop_run cell_run beside_top other or_else continuing inner_of rule_number shape
  fill-inward r b c y p (Fit.fill t gb gc) h = rw t.rule (tree-opened F w c p gc h)

  left-inward : (r : ℕ) (b c : Expression) (y : Position) (cs : Cells) → Fit F Sort.spine (Expression.join r b c) → At w Where.spine (Expression.join r b c) y → Agree w (Some (P.opened c (Position.join_side Side.right r b c y))) (inward_from F (pop_run Side.right (cells (Position.join_side Side.left r b c y))) cs)
  unfolding inward_from cells other pick part_end or_else rule_number
  left-inward r b c y cs (Fit.join t gb gc) h =
      rw (turned-step F Side.right r (rule_number b) (cells y) (says F w g Where.spine (Expression.join r b c) y h) (join-steps F Side.left r b c (Fit.join t gb gc)))
      (turned-agrees F w Side.right r b c y (join-steps F Side.right r b c (Fit.join t gb gc)) (ends F w Side.left c gc) h)

  -- the root of the tree in the hole of the part at p; z is p without some of its joins
  inward-from : (e : Expression) (z p : Position) → At w Where.spine e z → ((c : Expression) → continues z ≡ Some c → At w Where.tree c p) → Agree w (P.inward p z) (inward_from F (pop_run Side.right (cells z)) (cells p))
  unfolding P.inward cells continues
  inward-from e z p (At.fill {r} {b} {c} {z = y} h) k = fill-inward r b c y p (whole F w g Where.tree (Expression.fill r b c) y h) (k c refl)
  inward-from e z p (At.join {r} {b} {c} {z = y} Side.left h) k =
      left-inward r b c y (cells p) (whole F w g Where.spine (Expression.join r b c) y h).0 h
  inward-from e z p (At.join {r} {b} {c} {z = y} Side.right h) k =
      rw pop_run-step (inward-from (Expression.join r b c) y p h k)

  part-spine : (r a : ℕ) (b c : Expression) (z : Position) → At w Where.here (Expression.part r a b c) z → At w Where.spine (Expression.part r a b c) z
  part-spine r a b c z (At.part h) = h

  pub inwards : (r a : ℕ) (b c : Expression) (z : Position) → At w Where.here (Expression.part r a b c) z → Agree w (P.inward z z) (M.inward F (cells z))
  unfolding M.inward M.beside inward_from
  inwards r a b c z h = inward-from (Expression.part r a b c) z z (part-spine r a b c z h) (λ x q. At.hole h q)

-- a part; the last part of a spine is one
pub data IsPart : Expression → Type 0 where
  is_a_part : {r a : ℕ} {b c : Expression} → IsPart (Expression.part r a b c)

last-is-part : (F : Facts) (e : Expression) (z : Position) → Fit F Sort.spine e → IsPart (P.last_part e z).0
unfolding P.last_part
last-is-part F e z (Fit.part t gb gc) = is_a_part
last-is-part F e z (Fit.join {r} {b} {c} t gb gc) = last-is-part F c (Position.join_side Side.right r b c z) gc

-- the node at z stands in the hole of a part; or its tree stands in a row
pub data Out (F : Facts) (w : Expression) (z : Position) : Type 0 where
  inside : (x : Located) → IsPart x.0 → At w Where.here x.0 x.1 → P.outward z ≡ Some x → M.outward F (cells z) ≡ Some (node_of x) → Out F w z
  alone : (e : Expression) → At w Where.row e (P.row_of z) → P.outward z ≡ None → M.outward F (cells z) ≡ None → under (cells z) ≡ cells (P.row_of z) → Out F w z

-- the same of what a tree at z stands on
data On (F : Facts) (w : Expression) (z : Position) : Type 0 where
  part_below : (x : Located) → IsPart x.0 → At w Where.here x.0 x.1 → P.part_at z ≡ Some x → M.part_at F (cells z) ≡ Some (node_of x) → On F w z
  row_below : (e : Expression) → At w Where.row e z → P.part_at z ≡ None → M.part_at F (cells z) ≡ None → On F w z

got : (w : Expression) (x : Located) (y : Option Node) → Agree w (Some x) y → At w Where.here x.0 x.1 × (y ≡ Some (node_of x))
got w x y (found h) = (h, refl)

row-no-part : (w e : Expression) (z : Position) → At w Where.row e z → P.part_at z ≡ None
unfolding P.part_at
row-no-part w e z At.start = refl
row-no-part w e z (At.side s h u v) = refl
row-no-part w e z (At.only_right {r} {b} {c} h u) = row-no-part w (Expression.pair r b c) z h
row-no-part w e z (At.only_left {r} {b} {c} h u v) = row-no-part w (Expression.pair r b c) z h
row-no-part w e z (At.under h) = refl
row-no-part w e z (At.arm s h) = refl

spine-part : (w e : Expression) (z : Position) → At w Where.spine e z → P.part_at z ≡ Some (e, z)
unfolding P.part_at
spine-part w e z (At.fill h) = refl
spine-part w e z (At.join s h) = refl

tree-no-part : (F : Facts) (e : Expression) (cs : Cells) → Fit F Sort.tree e → Top F (representative e) cs → M.part_at F cs ≡ None
unfolding M.part_at is_part shape rule_number representative
tree-no-part F e cs (Fit.node {r} t gc) h = rw (top-standing F r cs h, t.rule)
tree-no-part F e cs (Fit.fill {r} t gb gc) h = rw (top-standing F r cs h, t.rule)

part-at : (F : Facts) (r a : ℕ) (b c : Expression) (cs : Cells) → Here F (Expression.part r a b c) → Top F r cs → M.part_at F cs ≡ Some (r, cs)
unfolding M.part_at is_part shape rule_number
part-at F r a b c cs (Here.part t gb gc) h = rw (top-standing F r cs h, t.rule)

module _ (F : Facts) (w : Expression) (g : Fit F Sort.row w) where
  stands_on : (e : Expression) (z : Position) → At w Where.tree e z → On F w z
  unfolding rule_number
  stands_on e z (At.tree_node {r} {a} {c} h) =
      row_below (Expression.node r a c) h (row-no-part w (Expression.node r a c) z h)
      (tree-no-part F (Expression.node r a c) (cells z) (whole F w g Where.tree (Expression.node r a c) z (At.tree_node h)) (says F w g Where.row (Expression.node r a c) z h))
  stands_on e z (At.tree_fill {r} {b} {c} h) =
      row_below (Expression.fill r b c) h (row-no-part w (Expression.fill r b c) z h)
      (tree-no-part F (Expression.fill r b c) (cells z) (whole F w g Where.tree (Expression.fill r b c) z (At.tree_fill h)) (says F w g Where.row (Expression.fill r b c) z h))
  stands_on e z (At.hole {r} {a} {b} {c} h q) =
      part_below (Expression.part r a b c, z) is_a_part h (spine-part w (Expression.part r a b c) z (part-spine F w g r a b c z h))
      (part-at F r a b c (cells z) (whole F w g Where.here (Expression.part r a b c) z h).0 (says F w g Where.here (Expression.part r a b c) z h))

  node-out : (r a : ℕ) (c : Expression) (z : Position) → On F w z → Out F w (Position.node_spine r a c z)
  unfolding P.outward P.row_of M.outward M.beside cells pop_run cell_run beside_top other or_else under tail
  node-out r a c z (part_below x i h p q) = inside x i h p q
  node-out r a c z (row_below e h p q) = alone e h p q refl

  fill-out : (r : ℕ) (b c : Expression) (z : Position) → On F w z → Out F w (Position.fill_spine r b c z)
  unfolding P.outward P.row_of M.outward M.beside cells pop_run cell_run beside_top other or_else under tail
  fill-out r b c z (part_below x i h p q) = inside x i h p q
  fill-out r b c z (row_below e h p q) = alone e h p q refl

  left_out : (r : ℕ) (b c : Expression) (z : Position) → Out F w z → Out F w (Position.join_side Side.left r b c z)
  unfolding P.outward P.row_of M.outward M.beside cells under
  left_out r b c z (inside x i h p q) = inside x i h p (rw pop_run-step q)
  left_out r b c z (alone e h p q u) = alone e h p (rw pop_run-step q) (rw pop_run-step u)

  right-out : (r : ℕ) (b c : Expression) (z : Position) → Fit F Sort.spine (Expression.join r b c) → At w Where.spine (Expression.join r b c) z → Out F w (Position.join_side Side.right r b c z)
  unfolding P.outward M.outward M.beside under cells other pick part_end or_else rule_number
  right-out r b c z (Fit.join t gb gc) h =
      let x = got w (P.last_part b (Position.join_side Side.left r b c z)) (Some (turned F Side.left r (cells z))) (turned-agrees F w Side.left r b c z (join-steps F Side.left r b c (Fit.join t gb gc)) (ends F w Side.right b gb) h) in
      inside (P.last_part b (Position.join_side Side.left r b c z)) (last-is-part F b (Position.join_side Side.left r b c z) gb) x.0 refl
      (rw (turned-step F Side.left r (rule_number c) (cells z) (says F w g Where.spine (Expression.join r b c) z h) (join-steps F Side.right r b c (Fit.join t gb gc))) x.1)

  spine-out : (e : Expression) (z : Position) → At w Where.spine e z → Out F w z
  spine-out e z (At.fill {r} {b} {c} {z = y} h) = fill-out r b c y (stands_on (Expression.fill r b c) y h)
  spine-out e z (At.join {r} {b} {c} {z = y} Side.left h) = left_out r b c y (spine-out (Expression.join r b c) y h)
  spine-out e z (At.join {r} {b} {c} {z = y} Side.right h) = right-out r b c y (whole F w g Where.spine (Expression.join r b c) y h).0 h

  -- the part in whose hole a node stands, on cells as on positions
  pub outwards : (e : Expression) (z : Position) → At w Where.here e z → Out F w z
  outwards e z (At.node {r} {a} {c} {z = y} h) = node-out r a c y (stands_on (Expression.node r a c) y h)
  outwards e z (At.part {r} {a} {b} {c} h) = spine-out (Expression.part r a b c) z h
