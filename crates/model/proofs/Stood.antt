-- What a state of the test of stored cells means: a position that has these cells. A run cell is so many steps of its side,
-- and each step is down a two-sided pair or a join, since nothing else has depth.
-- Assumes nothing.
use Prim.Native.Nat.{ℕ, zero, suc, ◌+◌, ◌-◌, ◌<◌, ◌≤◌}
use native.Mathlib.Omega.{arith}
use mathlib.Core.Path.{◌≡◌, refl, sym}
use mathlib.Core.Bool.{Bool, true, false, cond, not, ◌&&◌, and-eq-true_iff}
use mathlib.Core.List.{[], ◌∷◌}
use Rattle.std.specs.Prelude.{Option, None, option_map}
use lib.Dec.{eqb, ltb, ltb→lt, eqb→eq}
use Rattle.forest.specs.Expression.{Expression, rule_number}
use Rattle.forest.specs.Place.{Cells, Side, cell_spine, cell_run, is_empty, representative, step}
use Rattle.forest.specs.Sides.{pick}
use Rattle.forest.specs.Good.{Sort}
use Rattle.forest.specs.Position.{Position, At, Where, cells, continues}
use Rattle.model.specs.Facts.{Facts, depth}
use Rattle.model.specs.Model.{along}
use Rattle.model.specs.Stored.{State, after_run, reaches, kept_by}
use Rattle.model.proofs.Cells.{Steps, top_kind, top_kind-step, step-begins, step-grows}
use Rattle.forest.proofs.Cases.{by_bool}
use Rattle.model.proofs.Fit.{Fit, Tells, picked, pair-steps, join-steps}
use Rattle.model.proofs.Accepted.{kept-kept, kept-none, kept-continues, run-no-spine}

-- what stands at a row position, by the number of its representative: nothing, a two-sided pair, or a tree
pub data Row (F : Facts) (w : Expression) (z : Position) : ℕ → Type 0 where
  hollow : {r : ℕ} → Tells F (Expression.empty r) → Row F w z r
  two : {r : ℕ} {b c : Expression} → Fit F Sort.row (Expression.pair r b c) → At w Where.row (Expression.pair r b c) z → is_empty b ≡ false → is_empty c ≡ false → Row F w z r
  tree : {e : Expression} → Fit F Sort.tree e → At w Where.tree e z → Row F w z (rule_number e)

pair_row : (F : Facts) (w : Expression) (z : Position) (r : ℕ) (b c : Expression) → Fit F Sort.row (Expression.pair r b c) → At w Where.row (Expression.pair r b c) z → (At w Where.row b z → Row F w z (representative b)) → (At w Where.row c z → Row F w z (representative c)) → Row F w z (representative (Expression.pair r b c))
unfolding representative
pair_row F w z r b c g h hb hc =
    by_bool (is_empty b) (λ u. rw u (hc (At.only_right h u)))
    (λ u. by_bool (is_empty c) (λ v. rw (u, v) (hb (At.only_left h u v))) (λ v. rw (u, v) (two g h u v)))

tree-row : (F : Facts) (w : Expression) (z : Position) (e : Expression) → Fit F Sort.tree e → At w Where.row e z → Row F w z (representative e)
unfolding representative rule_number
tree-row F w z e (Fit.node t gc) h = tree (Fit.node t gc) (At.tree_node h)
tree-row F w z e (Fit.fill t gb gc) h = tree (Fit.fill t gb gc) (At.tree_fill h)

pub row_of : (F : Facts) (w : Expression) (z : Position) (e : Expression) → Fit F Sort.row e → At w Where.row e z → Row F w z (representative e)
unfolding representative
row_of F w z e (Fit.empty t) h = hollow t
row_of F w z e (Fit.pair {r} {b} {c} t gb gc) h = pair_row F w z r b c (Fit.pair t gb gc) h (row_of F w z b gb) (row_of F w z c gc)
row_of F w z e (Fit.grown g) h = tree-row F w z e g h

-- a state and the cells that lead to it, with the position that has these cells
pub data Stood (F : Facts) (w : Expression) : State → Cells → Type 0 where
  nowhere : Stood F w State.above []
  in_row : {v : ℕ} {z : Position} → Row F w z v → eqb (top_kind (cells z)) cell_spine ≡ false → Stood F w (State.at v (top_kind (cells z)) None) (cells z)
  in_spine : {e : Expression} {z : Position} → Fit F Sort.spine e → At w Where.spine e z → Stood F w (State.at (rule_number e) (top_kind (cells z)) (option_map rule_number (continues z))) (cells z)
  at_node : {r a : ℕ} {c : Expression} {z : Position} → Tells F (Expression.node r a c) → Fit F Sort.row c → At w Where.tree (Expression.node r a c) z → Stood F w (State.at r cell_spine None) ((cell_spine, r, 0, 0) ∷ cells z)

-- one step on: where there is depth, it leads down a two-sided pair or a join
record Stepped (F : Facts) (w : Expression) (s : Side) (p : ℕ) (o : Option ℕ) (cs : Cells) : Type 0 where
  there : Stood F w (State.at (F.toward s p) (cell_run s) (kept_by s o)) (step s p (F.toward s p) cs)
  deep : F.depth s p ≡ suc (F.depth s (F.toward s p))

two-stepped : (F : Facts) (w : Expression) (s : Side) (r : ℕ) (b c : Expression) (z : Position) → Fit F Sort.row (Expression.pair r b c) → At w Where.row (Expression.pair r b c) z → is_empty b ≡ false → is_empty c ≡ false → Fit F Sort.row (pick s b c) → Stepped F w s r None (cells z)
unfolding cells
two-stepped F w s r b c z g h u v k =
    let q : Steps F s r (representative (pick s b c)) = pair-steps F s r b c g u v in
    record {
      there =
          rw (q.leads, kept-none s)
          (rw top_kind-step at (in_row {z = Position.pair_side s r b c z} (row_of F w (Position.pair_side s r b c z) (pick s b c) k (At.side s h u v)) (rw top_kind-step (run-no-spine s))));
      deep = rw q.leads q.deep;
    }

join-stepped : (F : Facts) (w : Expression) (s : Side) (r : ℕ) (b c : Expression) (z : Position) → Fit F Sort.spine (Expression.join r b c) → At w Where.spine (Expression.join r b c) z → Fit F Sort.spine (pick s b c) → Stepped F w s r (option_map rule_number (continues z)) (cells z)
unfolding cells
join-stepped F w s r b c z g h k =
    let q : Steps F s r (rule_number (pick s b c)) = join-steps F s r b c g in
    record {
      there =
          rw (q.leads, kept-continues s r b c z)
          (rw top_kind-step at (in_spine {z = Position.join_side s r b c z} k (At.join s h)));
      deep = rw q.leads q.deep;
    }

no-depth : (n : ℕ) → n ≡ 0 → 0 < n → ⊥
no-depth n e h = omega arith

row-stepped : (F : Facts) (w : Expression) (s : Side) (v : ℕ) (z : Position) → Row F w z v → 0 < F.depth s v → Stepped F w s v None (cells z)
unfolding rule_number depth
row-stepped F w s v z (hollow t) h = absurd (no-depth (F.depth s v) (t.deep s) h)
row-stepped F w s v z (two {r} {b} {c} (Fit.pair t gb gc) k x y) h = two-stepped F w s r b c z (Fit.pair t gb gc) k x y (picked (Fit F Sort.row) s b c gb gc)
row-stepped F w s v z (tree (Fit.node t gc) k) h = absurd (no-depth (F.depth s v) (t.deep s) h)
row-stepped F w s v z (tree (Fit.fill t gb gc) k) h = absurd (no-depth (F.depth s v) (t.deep s) h)
row-stepped F w s v z (two {b = b} {c = c} (Rattle.model.proofs.Fit.grown x10) k x y) h = elim x10 [ ]

spine-stepped : (F : Facts) (w : Expression) (s : Side) (e : Expression) (z : Position) → Fit F Sort.spine e → At w Where.spine e z → 0 < F.depth s (rule_number e) → Stepped F w s (rule_number e) (option_map rule_number (continues z)) (cells z)
unfolding rule_number depth
spine-stepped F w s e z (Fit.part {r} t gb gc) k h = absurd (no-depth (F.depth s r) (t.deep s) h)
spine-stepped F w s e z (Fit.join {r} {b} {c} t gb gc) k h = join-stepped F w s r b c z (Fit.join t gb gc) k (picked (Fit F Sort.spine) s b c gb gc)

stepped : (F : Facts) (w : Expression) (s : Side) (p k : ℕ) (o : Option ℕ) (cs : Cells) → Stood F w (State.at p k o) cs → 0 < F.depth s p → Stepped F w s p o cs
unfolding rule_number depth
stepped F w s p k o cs (in_row {v} {z} x u) h = row-stepped F w s v z x h
stepped F w s p k o cs (in_spine {e} {z} g x) h = spine-stepped F w s e z g x h
stepped F w s p k o cs (at_node {r} t gc x) h = absurd (no-depth (F.depth s r) (t.deep s) h)

-- so many steps make one run cell
record Ran (F : Facts) (w : Expression) (s : Side) (a b j : ℕ) (o : Option ℕ) (cs : Cells) : Type 0 where
  there : Stood F w (State.at b (cell_run s) (kept_by s o)) ((cell_run s, a, b, 0) ∷ cs)
  deep : F.depth s a ≡ j + F.depth s b

ran-one : (F : Facts) (w : Expression) (s : Side) (a : ℕ) (o : Option ℕ) (cs : Cells) → eqb (top_kind cs) (cell_run s) ≡ false → Stepped F w s a o cs → Ran F w s a (F.toward s a) 1 o cs
ran-one F w s a o cs u x = record { there = rw (step-begins s a (F.toward s a) cs u) at x.there; deep = omega (arith, x.deep) }

ran-more : (F : Facts) (w : Expression) (s : Side) (a b j : ℕ) (o : Option ℕ) (cs : Cells) → F.depth s a ≡ suc j + F.depth s b → Stepped F w s b (kept_by s o) ((cell_run s, a, b, 0) ∷ cs) → Ran F w s a (F.toward s b) (suc (suc j)) o cs
ran-more F w s a b j o cs d x =
    record {
      there = rw (kept-kept s o, step-grows s b (F.toward s b) a b cs) at x.there;
      deep = omega (arith, x.deep);
    }

ran : (F : Facts) (w : Expression) (s : Side) (a k : ℕ) (o : Option ℕ) (cs : Cells) → Stood F w (State.at a k o) cs → eqb (top_kind cs) (cell_run s) ≡ false → (j : ℕ) → suc j ≤ F.depth s a → Ran F w s a (along F s (suc j) a) (suc j) o cs
unfolding along
ran F w s a k o cs h u zero l = ran-one F w s a o cs u (stepped F w s a k o cs h (omega arith))
ran F w s a k o cs h u (suc j) l =
    let x : Ran F w s a (along F s (suc j) a) (suc j) o cs = ran F w s a k o cs h u j (omega arith) in
    ran-more F w s a (along F s (suc j) a) j o cs x.deep
    (stepped F w s (along F s (suc j) a) (cell_run s) (kept_by s o) ((cell_run s, a, along F s (suc j) a, 0) ∷ cs) x.there (omega (arith, x.deep)))

-- the state is not wrong
abbrev pub Fine : State → Type 0
Fine State.above = Unit {0}
Fine (State.at p k o) = Unit {0}
Fine State.wrong = ⊥

pub fine-taken : (b : Bool) (x : State) → Fine (cond b x State.wrong) → b ≡ true
fine-taken true x f = refl
fine-taken false x f = absurd f

stood-kind : (F : Facts) (w : Expression) (p k : ℕ) (o : Option ℕ) (cs : Cells) → Stood F w (State.at p k o) cs → top_kind cs ≡ k
unfolding top_kind
stood-kind F w p k o cs (in_row x u) = refl
stood-kind F w p k o cs (in_spine g x) = refl
stood-kind F w p k o cs (at_node t gc x) = refl

not-true : (b : Bool) → not b ≡ true → b ≡ false
not-true true u = sym u
not-true false u = refl

-- a run cell
run_end : (F : Facts) (w : Expression) (s : Side) (a b k : ℕ) (o : Option ℕ) (cs : Cells) → Stood F w (State.at a k o) cs → eqb k (cell_run s) ≡ false → F.depth s b < F.depth s a → along F s (F.depth s a - F.depth s b) a ≡ b → Stood F w (State.at b (cell_run s) (kept_by s o)) ((cell_run s, a, b, 0) ∷ cs)
run_end F w s a b k o cs h u l e =
    let j : ℕ = F.depth s a - F.depth s b - 1 in
    let q : F.depth s a - F.depth s b ≡ suc j = omega arith in
    let x : Ran F w s a (along F s (suc j) a) (suc j) o cs = ran F w s a k o cs h (rw (stood-kind F w a k o cs h) u) j (omega arith) in
    rw (let p : along F s (suc j) a ≡ b = rw (sym q) e in p) at x.there

pub run-stood : (F : Facts) (w : Expression) (st : State) (s : Side) (a b : ℕ) (cs : Cells) → Stood F w st cs → Fine (after_run F st s a b) → Stood F w (after_run F st s a b) ((cell_run s, a, b, 0) ∷ cs)
unfolding after_run reaches
run-stood F w State.above s a b cs h f = absurd f
run-stood F w State.wrong s a b cs h f = absurd f
run-stood F w (State.at p k o) s a b cs h f =
    let u = fine-taken (not (eqb k (cell_run s)) && eqb p a && reaches F s a b) (State.at b (cell_run s) (kept_by s o)) f in
    let v = ((and-eq-true_iff (not (eqb k (cell_run s)) && eqb p a) (reaches F s a b)).0 u).0 in
    let x = ((and-eq-true_iff (not (eqb k (cell_run s)) && eqb p a) (reaches F s a b)).0 u).1 in
    let e : p ≡ a = eqb→eq p a (rw ((and-eq-true_iff (not (eqb k (cell_run s))) (eqb p a)).0 v).1 tt) in
    rw u
    (run_end F w s a b k o cs (rw e at h) (not-true (eqb k (cell_run s)) ((and-eq-true_iff (not (eqb k (cell_run s))) (eqb p a)).0 v).0)
    (ltb→lt (F.depth s b) (F.depth s a) (rw ((and-eq-true_iff (ltb (F.depth s b) (F.depth s a)) (eqb (along F s (F.depth s a - F.depth s b) a) b)).0 x).0 tt))
    (eqb→eq (along F s (F.depth s a - F.depth s b) a) b (rw ((and-eq-true_iff (ltb (F.depth s b) (F.depth s a)) (eqb (along F s (F.depth s a - F.depth s b) a) b)).0 x).1 tt)))
