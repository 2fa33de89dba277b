-- Entering a row and opening a tree on cells is what it is on positions: a longest run from a rule is the run of the steps
-- down its expression, since a step after a step grows one run.
-- Assumes nothing.
use Prim.Native.Nat.{ℕ}
use mathlib.Core.Path.{◌≡◌, refl}
use mathlib.Core.Bool.{false, cond}
use mathlib.Core.List.{◌∷◌}
use Rattle.std.specs.Prelude.{Option, None, Some, option_map}
use Rattle.forest.specs.Expression.{Expression, rule_number}
use Rattle.forest.specs.Place.{Cells, Side, cell_spine, is_empty, representative}
use Rattle.forest.specs.Sides.{pick}
use Rattle.forest.specs.Good.{Sort}
use Rattle.forest.specs.Position as P
use Rattle.forest.specs.Position.{Position, Located, At, Where, cells}
use Rattle.model.specs.Facts.{Facts, last, depth}
use Rattle.model.specs.Model as M
use Rattle.model.specs.Model.{Node, run}
use Rattle.model.proofs.Cells.{Steps, run_step}
use Rattle.forest.proofs.Cases.{by_bool}
use Rattle.model.proofs.Fit.{Fit, Tells, picked, pair-steps, join-steps, node-outer, fill-outer}

-- a move on positions and a move on cells come to the same node
pub data Agree (w : Expression) : Option Located → Option Node → Type 0 where
  nowhere : Agree w None None
  found : {e : Expression} {z : Position} → At w Where.here e z → Agree w (Some (e, z)) (Some (rule_number e, cells z))

-- a node as the walker on cells knows it
abbrev pub node_of : Located → Node
node_of x = (rule_number x.0, cells x.1)

pub agreed : (w : Expression) (x : Option Located) (y : Option Node) → Agree w x y → y ≡ option_map node_of x
agreed w x y nowhere = refl
agreed w x y (found h) = refl

-- a run of no steps
run_none : (F : Facts) (s : Side) (a : ℕ) (cs : Cells) → F.depth s a ≡ 0 → run F s a cs ≡ cs
unfolding run
run_none F s a cs z = rw z

-- the first (left) or last (right) part of a spine
unfoldable pub part_end : Side → Expression → Position → Located
part_end Side.left e z = P.opened e z
part_end Side.right e z = P.last_part e z

part_end_lem : (s : Side) (r a : ℕ) (b c : Expression) (z : Position) → part_end s (Expression.part r a b c) z ≡ (Expression.part r a b c, z)
unfolding part_end P.opened P.last_part
part_end_lem Side.left r a b c z = refl
part_end_lem Side.right r a b c z = refl

join-end : (s : Side) (r : ℕ) (b c : Expression) (z : Position) → part_end s (Expression.join r b c) z ≡ part_end s (pick s b c) (Position.join_side s r b c z)
unfolding part_end P.opened P.last_part pick
join-end Side.left r b c z = refl
join-end Side.right r b c z = refl

abbrev pub Ends : Facts → Expression → Side → Expression → Type 0
Ends F w s e = (z : Position) → At w Where.spine e z → Agree w (Some (part_end s e z)) (Some (F.last s (rule_number e), run F s (rule_number e) (cells z)))

part-ends : (F : Facts) (w : Expression) (s : Side) (r a : ℕ) (b c : Expression) → Tells F (Expression.part r a b c) → Ends F w s (Expression.part r a b c)
unfolding rule_number last depth
part-ends F w s r a b c t z h = rw (part_end_lem s r a b c z, t.ends s, run_none F s r (cells z) (t.deep s)) (found (At.part h))

join-ends : (F : Facts) (w : Expression) (s : Side) (r : ℕ) (b c : Expression) → Steps F s r (rule_number (pick s b c)) → Ends F w s (pick s b c) → Ends F w s (Expression.join r b c)
unfolding rule_number cells
join-ends F w s r b c g ih z h =
    rw (join-end s r b c z, g.ends, ← (run_step F s r (rule_number (pick s b c)) (cells z) g))
    (ih (Position.join_side s r b c z) (At.join s h))

-- the first or last part of a spine is the end of the longest run from its rule
pub ends : (F : Facts) (w : Expression) (s : Side) (e : Expression) → Fit F Sort.spine e → Ends F w s e
ends F w s e (Fit.part {r} {a} {b} {c} t gb gc) = part-ends F w s r a b c t
ends F w s e (Fit.join {r} {b} {c} t gb gc) =
    join-ends F w s r b c (join-steps F s r b c (Fit.join t gb gc)) (picked (Ends F w s) s b c (ends F w s b gb) (ends F w s c gc))

-- the root of a tree
node-opened : (F : Facts) (w : Expression) (r a : ℕ) (c : Expression) (z : Position) → Tells F (Expression.node r a c) → At w Where.tree (Expression.node r a c) z → Agree w (Some (P.opened (Expression.node r a c) z)) (Some (M.opened F r (cells z)))
unfolding P.opened M.opened rule_number last depth cells
node-opened F w r a c z t h =
    rw (node-outer F r a c t, t.ends Side.left, run_none F Side.left r ((cell_spine, r, 0, 0) ∷ cells z) (t.deep Side.left)) (found (At.node h))

fill-opened : (F : Facts) (w : Expression) (r : ℕ) (b c : Expression) (z : Position) → Tells F (Expression.fill r b c) → Ends F w Side.left b → At w Where.tree (Expression.fill r b c) z → Agree w (Some (P.opened (Expression.fill r b c) z)) (Some (M.opened F r (cells z)))
unfolding P.opened M.opened part_end cells
fill-opened F w r b c z t ih h = rw (fill-outer F r b c t) (ih (Position.fill_spine r b c z) (At.fill h))

pub tree-opened : (F : Facts) (w : Expression) (e : Expression) (z : Position) → Fit F Sort.tree e → At w Where.tree e z → Agree w (Some (P.opened e z)) (Some (M.opened F (rule_number e) (cells z)))
unfolding rule_number
tree-opened F w e z (Fit.node {r} {a} {c} t gc) h = node-opened F w r a c z t h
tree-opened F w e z (Fit.fill {r} {b} {c} t gb gc) h = fill-opened F w r b c z t (ends F w Side.left b gb) h

-- entering the row of e at z
unfoldable pub entered : Facts → Side → Expression → Cells → Option Node
entered F s e cs = cond (is_empty e) None (Some (M.opened F (F.last s (representative e)) (run F s (representative e) cs)))

abbrev pub Enters : Facts → Expression → Side → Expression → Type 0
Enters F w s e = (z : Position) → At w Where.row e z → Agree w (P.enter s e z) (entered F s e (cells z))

pair-entered : (s : Side) (r : ℕ) (b c : Expression) (z : Position) → pick s (P.enter s b (Position.pair_side Side.left r b c z)) (P.enter s c (Position.pair_side Side.right r b c z)) ≡ P.enter s (pick s b c) (Position.pair_side s r b c z)
unfolding pick
pair-entered Side.left r b c z = refl
pair-entered Side.right r b c z = refl

two-enters : (F : Facts) (w : Expression) (s : Side) (r : ℕ) (b c : Expression) → Steps F s r (representative (pick s b c)) → is_empty b ≡ false → is_empty c ≡ false → Enters F w s (pick s b c) → Enters F w s (Expression.pair r b c)
unfolding P.enter entered cells is_empty representative
two-enters F w s r b c g u v ih z h =
    rw (u, v, pair-entered s r b c z, g.ends, ← (run_step F s r (representative (pick s b c)) (cells z) g))
    (rw (picked (λ e. is_empty e ≡ false) s b c u v) at (ih (Position.pair_side s r b c z) (At.side s h u v)))

pair-enters : (F : Facts) (w : Expression) (s : Side) (r : ℕ) (b c : Expression) → Fit F Sort.row (Expression.pair r b c) → Enters F w s b → Enters F w s c → Enters F w s (Expression.pair r b c)
unfolding P.enter entered is_empty representative
pair-enters F w s r b c g hb hc z h =
    by_bool (is_empty b) (λ u. rw u (hc z (At.only_right h u)))
    (λ u. by_bool (is_empty c)
    (λ v. rw (u, v) (rw u at (hb z (At.only_left h u v))))
    (λ v. two-enters F w s r b c (pair-steps F s r b c g u v) u v (picked (Enters F w s) s b c hb hc) z h))

tree-enters : (F : Facts) (w : Expression) (s : Side) (e : Expression) → Fit F Sort.tree e → Enters F w s e
unfolding P.enter entered is_empty representative rule_number last depth
tree-enters F w s e (Fit.node {r} {a} {c} t gc) z h =
    rw (t.ends s, run_none F s r (cells z) (t.deep s)) (tree-opened F w (Expression.node r a c) z (Fit.node t gc) (At.tree_node h))
tree-enters F w s e (Fit.fill {r} {b} {c} t gb gc) z h =
    rw (t.ends s, run_none F s r (cells z) (t.deep s)) (tree-opened F w (Expression.fill r b c) z (Fit.fill t gb gc) (At.tree_fill h))

pub enters : (F : Facts) (w : Expression) (s : Side) (e : Expression) → Fit F Sort.row e → Enters F w s e
unfolding P.enter entered is_empty
enters F w s e (Fit.empty t) z h = nowhere
enters F w s e (Fit.pair {r} {b} {c} t gb gc) z h = pair-enters F w s r b c (Fit.pair t gb gc) (enters F w s b gb) (enters F w s c gc) z h
enters F w s e (Fit.grown g) z h = tree-enters F w s e g z h
