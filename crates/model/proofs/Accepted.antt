-- The test of stored cells accepts the cells of every node. By recursion on how the position was reached: the state after its
-- cells is what stands there, the kind of its last cell, and what its spine continues in.
-- Assumes nothing.
use Prim.Native.Nat.{ℕ, suc, ◌+◌, ◌-◌}
use native.Mathlib.Omega.{arith}
use mathlib.Core.Path.{◌≡◌, refl, ap, ◌∙◌}
use mathlib.Core.Bool.{Bool, true, false, cond, not, ◌&&◌, and-eq-true_iff}
use mathlib.Core.List.{[], ◌∷◌}
use Rattle.std.specs.Prelude.{Option, None, Some, option_map}
use lib.Dec.{eqb, ltb, lt→ltb}
use Rattle.rule.specs.declared.Rule.{Rule}
use Rattle.forest.specs.Expression.{Expression, rule_number}
use Rattle.forest.specs.Place.{Cells, Side, cell_row, cell_spine, cell_run, row_of_node, row_of_part, is_empty, representative, step}
use Rattle.forest.specs.Sides.{pick}
use Rattle.forest.specs.Good.{Sort}
use Rattle.forest.specs.Position.{Position, At, Where, cells, continues}
use Rattle.forest.proofs.Cases.{is_true}
use Rattle.model.specs.Facts.{Facts}
use Rattle.model.specs.Model.{along, outer, inner_of}
use Rattle.model.specs.Stored as S
use Rattle.model.specs.Stored.{State, form_of, next, state_after, row_in, row_under, after_row, after_run, reaches, kept_by, spine_in, spine_at, is_that, is_node, ends_well, accepts}
use Rattle.model.proofs.Cells.{Steps, Top, Grows, begins, grows, top-grows, top_kind, top_kind-step, step-begins, step-grows, eqb_same}
use Rattle.model.proofs.Fit.{Fit, Tells, tells, shape, picked, pick-map, pair-steps, join-steps, node-outer, fill-outer}
use Rattle.model.proofs.Standing.{Here, whole, says, pair-says, pair-itself}

-- a cell of each form
pub run-form : (s : Side) (a b : ℕ) → form_of (cell_run s, a, b, 0) ≡ S.run s a b
unfolding form_of cell_run
run-form Side.left a b = refl
run-form Side.right a b = refl

-- a run that steps lead along reaches its end
pub reached : (F : Facts) (s : Side) (a b j : ℕ) → along F s (suc j) a ≡ b → F.depth s a ≡ suc j + F.depth s b → reaches F s a b ≡ true
unfolding reaches
reached F s a b j e d =
    (and-eq-true_iff (ltb (F.depth s b) (F.depth s a)) (eqb (along F s (F.depth s a - F.depth s b) a) b)).1 (
      is_true (ltb (F.depth s b) (F.depth s a)) (lt→ltb (F.depth s b) (F.depth s a) (omega arith)),
      rw (let k : F.depth s a - F.depth s b ≡ suc j = omega arith in k, e) (eqb_same b),
    )

pub taken : (b : Bool) (x : State) (p k : ℕ) (o : Option ℕ) → cond b x State.wrong ≡ State.at p k o → (b ≡ true) × (x ≡ State.at p k o)
taken true x p k o q = (refl, q)
taken false x p k o q = (cc, cc)

pub kept-kept : (s : Side) (o : Option ℕ) → kept_by s (kept_by s o) ≡ kept_by s o
unfolding kept_by
kept-kept Side.left o = refl
kept-kept Side.right o = refl

-- where a run cell has led to one rule, it leads to every rule that the run reaches
regrown : (F : Facts) (st : State) (s : Side) (x a k : ℕ) (o : Option ℕ) → after_run F st s x a ≡ State.at a k o → (v : ℕ) → reaches F s x v ≡ true → after_run F st s x v ≡ State.at v (cell_run s) (kept_by s o)
unfolding after_run
regrown F State.above s x a k o q v h = cc
regrown F State.wrong s x a k o q v h = cc
regrown F (State.at p i o') s x a k o q v h =
    let t = taken (not (eqb i (cell_run s)) && eqb p x && reaches F s x a) (State.at a (cell_run s) (kept_by s o')) a k o q in
    let f : not (eqb i (cell_run s)) && eqb p x ≡ true = ((and-eq-true_iff (not (eqb i (cell_run s)) && eqb p x) (reaches F s x a)).0 t.0).0 in
    let e : State.at a (cell_run s) (kept_by s o') ≡ State.at a k o = t.1 in
    let d : kept_by s o' ≡ o = cc in
    rw (f, h, ← d, kept-kept s o')

-- the state after a step
pub state-step : (F : Facts) (r : ℕ) (s : Side) (a v : ℕ) (cs : Cells) (o : Option ℕ) → Top F a cs → Steps F s a v → state_after F r cs ≡ State.at a (top_kind cs) o → state_after F r (step s a v cs) ≡ State.at v (cell_run s) (kept_by s o)
unfolding state_after next along top_kind after_run
state-step F r s a v cs o h g = go cs (top-grows F s a cs h)
  where
    go : (cs : Cells) → Grows F s a cs → state_after F r cs ≡ State.at a (top_kind cs) o → state_after F r (step s a v cs) ≡ State.at v (cell_run s) (kept_by s o)
    go cs (begins u) q = rw (step-begins s a v cs u, run-form, q, u, eqb_same a, reached F s a v 0 g.leads (omega (arith, g.deep)))
    go cs (grows {x} {t} j e d) q =
        rw (step-grows, run-form)
        (regrown F (state_after F r t) s x a (cell_run s) o (rw run-form at q) v (reached F s x v (suc j) (ap (F.toward s) e ∙ g.leads) (omega (arith, g.deep))))

-- the state after a position's cells, by what stands there
abbrev pub Seen : Facts → ℕ → Where → Expression → Position → Type 0
Seen F r Where.row e z =
    (state_after F r (cells z) ≡ State.at (representative e) (top_kind (cells z)) None) × (eqb (top_kind (cells z)) cell_spine ≡ false)
Seen F r Where.tree e z = spine_in F (state_after F r (cells z)) (rule_number e) ≡ true
Seen F r Where.spine e z =
    state_after F r (cells z) ≡ State.at (rule_number e) (top_kind (cells z)) (option_map rule_number (continues z))
Seen F r Where.here e z =
    (state_after F r (cells z) ≡ State.at (rule_number e) (top_kind (cells z)) (option_map rule_number (continues z))) × (is_node (F.rule (rule_number e)) (top_kind (cells z)) ≡ true)

-- the state after a row's opening
row-state : (F : Facts) (r : ℕ) (d : ℕ) (e : Expression) (cs : Cells) → Tells F e → row_in F r (state_after F r cs) d ≡ Some (rule_number e) → (state_after F r ((cell_row, d, representative e, 0) ∷ cs) ≡ State.at (representative e) cell_row None)
unfolding state_after next form_of after_row
row-state F r d e cs t q = rw (q, t.represents, eqb_same (representative e))

pub kept-none : (s : Side) → kept_by s None ≡ None
unfolding kept_by
kept-none Side.left = refl
kept-none Side.right = refl

pub run-no-spine : (s : Side) → eqb (cell_run s) cell_spine ≡ false
unfolding cell_run
run-no-spine Side.left = refl
run-no-spine Side.right = refl

side-seen : (F : Facts) (r : ℕ) (s : Side) (x : ℕ) (b c : Expression) (z : Position) → Steps F s x (representative (pick s b c)) → Top F x (cells z) → state_after F r (cells z) ≡ State.at x (top_kind (cells z)) None → Seen F r Where.row (pick s b c) (Position.pair_side s x b c z)
unfolding cells
side-seen F r s x b c z g h q =
    rw top_kind-step (state-step F r s x (representative (pick s b c)) (cells z) None h g q ∙ rw kept-none, run-no-spine s)

right-seen : (F : Facts) (r x : ℕ) (b c : Expression) (z : Position) → is_empty b ≡ true → Seen F r Where.row (Expression.pair x b c) z → Seen F r Where.row c z
unfolding representative
right-seen F r x b c z u q = rw u at q

left-seen : (F : Facts) (r x : ℕ) (b c : Expression) (z : Position) → is_empty b ≡ false → is_empty c ≡ true → Seen F r Where.row (Expression.pair x b c) z → Seen F r Where.row b z
unfolding representative
left-seen F r x b c z u v q = rw (u, v) at q

tree-seen : (F : Facts) (r : ℕ) (e : Expression) (z : Position) → Fit F Sort.tree e → Seen F r Where.row e z → Seen F r Where.tree e z
unfolding spine_in spine_at shape rule_number representative
tree-seen F r e z (Fit.node {r = x} t gc) q = rw (q.0, t.rule, q.1, eqb_same x)
tree-seen F r e z (Fit.fill {r = x} t gb gc) q = rw (q.0, t.rule, q.1, eqb_same x)

spine-state : (F : Facts) (r x : ℕ) (cs : Cells) → spine_in F (state_after F r cs) x ≡ true → state_after F r ((cell_spine, x, 0, 0) ∷ cs) ≡ State.at (outer F x) cell_spine (inner_of (F.rule x))
unfolding state_after next form_of
spine-state F r x cs q = rw q

node_seen : (F : Facts) (r x a : ℕ) (c : Expression) (z : Position) → Fit F Sort.tree (Expression.node x a c) → Seen F r Where.tree (Expression.node x a c) z → Seen F r Where.here (Expression.node x a c) (Position.node_spine x a c z)
unfolding cells continues top_kind is_node shape rule_number inner_of
node_seen F r x a c z (Fit.node t gc) q =
    (spine-state F r x (cells z) q ∙ rw (node-outer F x a c t, t.rule), rw t.rule)

fill-seen : (F : Facts) (r x : ℕ) (b c : Expression) (z : Position) → Fit F Sort.tree (Expression.fill x b c) → Seen F r Where.tree (Expression.fill x b c) z → Seen F r Where.spine b (Position.fill_spine x b c z)
unfolding cells continues top_kind shape rule_number inner_of
fill-seen F r x b c z (Fit.fill t gb gc) q = spine-state F r x (cells z) q ∙ rw (fill-outer F x b c t, t.rule)

under-seen : (F : Facts) (r x a : ℕ) (c : Expression) (z : Position) → Here F (Expression.node x a c) → Seen F r Where.here (Expression.node x a c) z → Seen F r Where.row c (Position.node_row x a c z)
unfolding cells top_kind row_in row_under shape rule_number is_node
under-seen F r x a c z (Here.node t gc) q =
    (row-state F r row_of_node c (cells z) (tells F Sort.row c gc) (rw (q.0, t.rule, let k : eqb (top_kind (cells z)) cell_spine ≡ true = rw t.rule at q.1 in k)), refl)

arm-row : (s : Side) (x b c k : ℕ) → row_under (Rule.Part x b c) k (row_of_part s) ≡ Some (pick s b c)
unfolding row_under row_of_part pick
arm-row Side.left x b c k = refl
arm-row Side.right x b c k = refl

arm-seen : (F : Facts) (r : ℕ) (s : Side) (x a : ℕ) (b c : Expression) (z : Position) → Here F (Expression.part x a b c) → Seen F r Where.here (Expression.part x a b c) z → Seen F r Where.row (pick s b c) (Position.part_row s x a b c z)
unfolding cells top_kind row_in shape rule_number
arm-seen F r s x a b c z (Here.part t gb gc) q =
    (row-state F r (row_of_part s) (pick s b c) (cells z) (tells F Sort.row (pick s b c) (picked (Fit F Sort.row) s b c gb gc)) (rw (q.0, t.rule, arm-row, pick-map rule_number s b c)), refl)

pub kept-continues : (s : Side) (x : ℕ) (b c : Expression) (z : Position) → kept_by s (option_map rule_number (continues z)) ≡ option_map rule_number (continues (Position.join_side s x b c z))
unfolding kept_by continues
kept-continues Side.left x b c z = refl
kept-continues Side.right x b c z = refl

join-seen : (F : Facts) (r : ℕ) (s : Side) (x : ℕ) (b c : Expression) (z : Position) → Steps F s x (rule_number (pick s b c)) → Top F x (cells z) → Seen F r Where.spine (Expression.join x b c) z → Seen F r Where.spine (pick s b c) (Position.join_side s x b c z)
unfolding cells rule_number
join-seen F r s x b c z g h q =
    rw (top_kind-step, ← (kept-continues s x b c z)) (state-step F r s x (rule_number (pick s b c)) (cells z) (option_map rule_number (continues z)) h g q)

part-seen : (F : Facts) (r x a : ℕ) (b c : Expression) (z : Position) → Here F (Expression.part x a b c) → Seen F r Where.spine (Expression.part x a b c) z → Seen F r Where.here (Expression.part x a b c) z
unfolding is_node shape rule_number
part-seen F r x a b c z (Here.part t gb gc) q = (q, rw t.rule)

hole-seen : (F : Facts) (r x a : ℕ) (b c e : Expression) (z : Position) → Here F (Expression.part x a b c) → Seen F r Where.here (Expression.part x a b c) z → continues z ≡ Some e → Seen F r Where.tree e z
unfolding spine_in spine_at is_that shape rule_number
hole-seen F r x a b c e z (Here.part t gb gc) q h = rw (q.0, t.rule, h, eqb_same (rule_number e))

start_seen : (F : Facts) (w : Expression) → Fit F Sort.row w → Seen F (rule_number w) Where.row w (Position.start w)
unfolding cells top_kind row_in state_after
start_seen F w g = (row-state F (rule_number w) row_of_node w [] (tells F Sort.row w g) refl, refl)

module _ (F : Facts) (w : Expression) (g : Fit F Sort.row w) where
  -- the state after the cells of any position
  pub seen : (k : Where) (e : Expression) (z : Position) → At w k e z → Seen F (rule_number w) k e z
  unfolding rule_number
  seen k e z At.start = start_seen F w g
  seen k e z (At.side {r} {b} {c} {z = y} s h u v) =
      side-seen F (rule_number w) s r b c y (pair-steps F s r b c (whole F w g Where.row (Expression.pair r b c) y h) u v) (pair-says F w g r b c y h u v)
      (rw (pair-itself r b c u v) at (seen Where.row (Expression.pair r b c) y h).0)
  seen k e z (At.only_right {r} {b} {c} h u) = right-seen F (rule_number w) r b c z u (seen Where.row (Expression.pair r b c) z h)
  seen k e z (At.only_left {r} {b} {c} h u v) = left-seen F (rule_number w) r b c z u v (seen Where.row (Expression.pair r b c) z h)
  seen k e z (At.tree_node {r} {a} {c} h) =
      tree-seen F (rule_number w) (Expression.node r a c) z (whole F w g Where.tree (Expression.node r a c) z (At.tree_node h)) (seen Where.row (Expression.node r a c) z h)
  seen k e z (At.tree_fill {r} {b} {c} h) =
      tree-seen F (rule_number w) (Expression.fill r b c) z (whole F w g Where.tree (Expression.fill r b c) z (At.tree_fill h)) (seen Where.row (Expression.fill r b c) z h)
  seen k e z (At.node {r} {a} {c} {z = y} h) =
      node_seen F (rule_number w) r a c y (whole F w g Where.tree (Expression.node r a c) y h) (seen Where.tree (Expression.node r a c) y h)
  seen k e z (At.under {r} {a} {c} {z = y} h) =
      under-seen F (rule_number w) r a c y (whole F w g Where.here (Expression.node r a c) y h).0 (seen Where.here (Expression.node r a c) y h)
  seen k e z (At.fill {r} {b} {c} {z = y} h) =
      fill-seen F (rule_number w) r b c y (whole F w g Where.tree (Expression.fill r b c) y h) (seen Where.tree (Expression.fill r b c) y h)
  seen k e z (At.join {r} {b} {c} {z = y} s h) =
      join-seen F (rule_number w) s r b c y (join-steps F s r b c (whole F w g Where.spine (Expression.join r b c) y h).0) (says F w g Where.spine (Expression.join r b c) y h)
      (seen Where.spine (Expression.join r b c) y h)
  seen k e z (At.part {r} {a} {b} {c} h) =
      part-seen F (rule_number w) r a b c z (whole F w g Where.here (Expression.part r a b c) z (At.part h)).0 (seen Where.spine (Expression.part r a b c) z h)
  seen k e z (At.arm {r} {a} {b} {c} {z = y} s h) =
      arm-seen F (rule_number w) s r a b c y (whole F w g Where.here (Expression.part r a b c) y h).0 (seen Where.here (Expression.part r a b c) y h)
  seen k e z (At.hole {r} {a} {b} {c} h q) =
      hole-seen F (rule_number w) r a b c e z (whole F w g Where.here (Expression.part r a b c) z h).0 (seen Where.here (Expression.part r a b c) z h) q

  -- the test accepts the cells of every node
  pub accepts-node : (e : Expression) (z : Position) → At w Where.here e z → accepts F (rule_number w) (cells z) ≡ true
  unfolding accepts ends_well
  accepts-node e z h = let q : Seen F (rule_number w) Where.here e z = seen Where.here e z h in rw q.0 q.1
