-- The test of stored cells accepts only the cells of nodes: cell by cell from the first, the position is rebuilt, since a
-- cell passes only where the position can be opened or stepped on so.
-- Assumes nothing.
use Prim.Native.Nat.{ℕ}
use mathlib.Core.Path.{◌≡◌, refl}
use mathlib.Core.Bool.{true, false, not, ◌&&◌, false≢true, and-eq-true_iff}
use mathlib.Core.List.{[], ◌∷◌}
use Rattle.std.specs.Prelude.{Option, None, Some, option_map}
use lib.Dec.{eqb, eqb→eq}
use Rattle.rule.specs.declared.Rule.{Rule}
use Rattle.forest.specs.Expression.{Expression, rule_number}
use Rattle.forest.specs.Place.{Cell, Cells, Side, cell_row, cell_spine, cell_run, row_of_node, row_of_part, representative}
use Rattle.forest.specs.Sides.{pick}
use Rattle.forest.specs.Good.{Sort}
use Rattle.forest.specs.Position.{Position, At, Where, cells, continues}
use Rattle.model.specs.Facts.{Facts}
use Rattle.model.specs.Model.{outer, inner_of}
use Rattle.model.specs.Stored.{State, Form, form_of, next, state_after, row_in, row_under, after_row, after_run, spine_in, spine_at, is_that, is_node, ends_well, accepts}
use Rattle.model.proofs.Cells.{top_kind}
use Rattle.forest.proofs.Cases.{by_bool}
use Rattle.model.proofs.Fit.{Fit, Tells, tells, shape, node-outer, fill-outer}
use Rattle.model.proofs.Standing.{whole}
use Rattle.model.proofs.Stood.{Row, hollow, two, tree, row_of, Stood, nowhere, in_row, in_spine, at_node, Fine, fine-taken, run-stood}

-- a cell is of the form that it has
data Formed : Cell → Form → Type 0 where
  row_cell : {c : Cell} {d v : ℕ} → c ≡ (cell_row, d, v, 0) → Formed c (Form.row d v)
  spine_cell : {c : Cell} {a : ℕ} → c ≡ (cell_spine, a, 0, 0) → Formed c (Form.spine a)
  at_run_cell : {c : Cell} {a b : ℕ} (s : Side) → c ≡ (cell_run s, a, b, 0) → Formed c (Form.run s a b)
  no_form : {c : Cell} → Formed c Form.formless

cell-is : (c : Cell) (k b : ℕ) → eqb c.0 k ≡ true → c.2 ≡ b → eqb c.3 0 ≡ true → c ≡ (k, c.1, b, 0)
cell-is c k b u e v =
    let p : c.0 ≡ k = eqb→eq c.0 k (rw u tt) in
    let q : c.3 ≡ 0 = eqb→eq c.3 0 (rw v tt) in
    λ i. (p i, c.1, e i, q i)

formed : (c : Cell) → Formed c (form_of c)
unfolding form_of
formed c =
    by_bool (eqb c.3 0)
    (λ v. rw v
    (by_bool (eqb c.0 cell_row) (λ u. rw u (row_cell (cell-is c cell_row c.2 u refl v)))
    (λ x. rw x
    (by_bool (eqb c.0 cell_spine)
    (λ u. rw u (by_bool (eqb c.2 0) (λ t. rw t (spine_cell (cell-is c cell_spine 0 u (eqb→eq c.2 0 (rw t tt)) v))) (λ t. rw t no_form)))
    (λ y. rw y
    (by_bool (eqb c.0 (cell_run Side.left)) (λ u. rw u (at_run_cell Side.left (cell-is c (cell_run Side.left) c.2 u refl v)))
    (λ z. rw z
    (by_bool (eqb c.0 (cell_run Side.right)) (λ u. rw u (at_run_cell Side.right (cell-is c (cell_run Side.right) c.2 u refl v))) (λ t. rw t no_form)))))))))
    (λ v. rw v no_form)

-- a row's opening
opens : (F : Facts) (w e : Expression) (z : Position) (d v : ℕ) (cs : Cells) (o : Option ℕ) → Fit F Sort.row e → At w Where.row e z → cells z ≡ (cell_row, d, representative e, 0) ∷ cs → o ≡ Some (rule_number e) → Fine (after_row F o v) → Stood F w (after_row F o v) ((cell_row, d, v, 0) ∷ cs)
unfolding after_row top_kind
opens F w e z d v cs o g h q p f =
    let t : Tells F e = tells F Sort.row e g in
    let u : eqb v (representative e) ≡ true = fine-taken (eqb v (representative e)) (State.at v cell_row None) (rw (p, t.represents) at f) in
    let x : v ≡ representative e = eqb→eq v (representative e) (rw u tt) in
    rw (p, t.represents, u, x) (rw q at (in_row (row_of F w z e g h) (rw q)))

start-opens : (F : Facts) (w : Expression) → Fit F Sort.row w → (d v : ℕ) → Fine (after_row F (row_in F (rule_number w) State.above d) v) → Stood F w (after_row F (row_in F (rule_number w) State.above d) v) ((cell_row, d, v, 0) ∷ [])
unfolding row_in cells after_row
start-opens F w g d v f =
    by_bool (eqb d row_of_node)
    (λ u. rw (eqb→eq d row_of_node (rw u tt)) (opens F w w (Position.start w) row_of_node v [] (Some (rule_number w)) g At.start refl refl (rw u at f)))
    (λ u. absurd (rw u at f))

row-opens-none : (F : Facts) (w : Expression) (z : Position) (p : ℕ) (k d v : ℕ) → Row F w z p → eqb k cell_spine ≡ false → Fine (after_row F (row_under (F.rule p) k d) v) → ⊥
unfolding row_under after_row shape rule_number
row-opens-none F w z p k d v (hollow t) u f = rw t.rule at f
row-opens-none F w z p k d v (two (Fit.pair t gb gc) h x y) u f = rw t.rule at f
row-opens-none F w z p k d v (tree (Fit.node t gc) h) u f = rw (t.rule, u) at f
row-opens-none F w z p k d v (tree (Fit.fill t gb gc) h) u f = rw t.rule at f
row-opens-none F w z p k d v (two {b = b} {c = c} (Rattle.model.proofs.Fit.grown x11) h x y) u f = elim x11 [ ]

part-opens : (F : Facts) (w : Expression) (z : Position) (r a : ℕ) (b c : Expression) (k d v : ℕ) → Tells F (Expression.part r a b c) → Fit F Sort.row b → Fit F Sort.row c → At w Where.here (Expression.part r a b c) z → Fine (after_row F (row_under (Rule.Part a (rule_number b) (rule_number c)) k d) v) → Stood F w (after_row F (row_under (Rule.Part a (rule_number b) (rule_number c)) k d) v) ((cell_row, d, v, 0) ∷ cells z)
unfolding row_under cells pick after_row
part-opens F w z r a b c k d v t gb gc h f =
    by_bool (eqb d (row_of_part Side.left))
    (λ u. rw (eqb→eq d (row_of_part Side.left) (rw u tt))
    (opens F w b (Position.part_row Side.left r a b c z) (row_of_part Side.left) v (cells z) (Some (rule_number b)) gb (At.arm Side.left h) refl refl (rw u at f)))
    (λ u. by_bool (eqb d (row_of_part Side.right))
    (λ x. rw (eqb→eq d (row_of_part Side.right) (rw x tt))
    (opens F w c (Position.part_row Side.right r a b c z) (row_of_part Side.right) v (cells z) (Some (rule_number c)) gc (At.arm Side.right h) refl refl (rw (u, x) at f)))
    (λ x. absurd (rw (u, x) at f)))

spine-opens : (F : Facts) (w : Expression) (e : Expression) (z : Position) (k d v : ℕ) → Fit F Sort.spine e → At w Where.spine e z → Fine (after_row F (row_under (F.rule (rule_number e)) k d) v) → Stood F w (after_row F (row_under (F.rule (rule_number e)) k d) v) ((cell_row, d, v, 0) ∷ cells z)
unfolding shape rule_number
spine-opens F w e z k d v (Fit.part {r} {a} {b} {c} t gb gc) h f = rw t.rule (part-opens F w z r a b c k d v t gb gc (At.part h) (rw t.rule at f))
spine-opens F w e z k d v (Fit.join {r} {b} {c} t gb gc) h f = absurd (unfold row_under after_row in (rw t.rule at f))

node_opens : (F : Facts) (w : Expression) (z : Position) (r a : ℕ) (c : Expression) (d v : ℕ) → Tells F (Expression.node r a c) → Fit F Sort.row c → At w Where.tree (Expression.node r a c) z → Fine (after_row F (row_under (F.rule r) cell_spine d) v) → Stood F w (after_row F (row_under (F.rule r) cell_spine d) v) ((cell_row, d, v, 0) ∷ (cell_spine, r, 0, 0) ∷ cells z)
unfolding row_under cells after_row shape rule_number
node_opens F w z r a c d v t gc h f =
    by_bool (eqb d row_of_node)
    (λ u. rw (t.rule, eqb→eq d row_of_node (rw u tt))
    (opens F w c (Position.node_row r a c (Position.node_spine r a c z)) row_of_node v ((cell_spine, r, 0, 0) ∷ cells z) (Some (rule_number c)) gc (At.under (At.node h)) refl refl (rw (t.rule, u) at f)))
    (λ u. absurd (rw (t.rule, u) at f))

row-stood : (F : Facts) (w : Expression) → Fit F Sort.row w → (st : State) (cs : Cells) → Stood F w st cs → (d v : ℕ) → Fine (after_row F (row_in F (rule_number w) st d) v) → Stood F w (after_row F (row_in F (rule_number w) st d) v) ((cell_row, d, v, 0) ∷ cs)
unfolding row_in
row-stood F w g st cs nowhere d v f = start-opens F w g d v f
row-stood F w g st cs (in_row {v = p} {z} x u) d v f = absurd (row-opens-none F w z p (top_kind (cells z)) d v x u f)
row-stood F w g st cs (in_spine {e} {z} k x) d v f = spine-opens F w e z (top_kind (cells z)) d v k x f
row-stood F w g st cs (at_node {r} {a} {c} {z} t gc x) d v f = node_opens F w z r a c d v t gc x f

-- a spine's opening
tree-spine : (F : Facts) (w e : Expression) (z : Position) → Fit F Sort.tree e → At w Where.tree e z → Stood F w (State.at (outer F (rule_number e)) cell_spine (inner_of (F.rule (rule_number e)))) ((cell_spine, rule_number e, 0, 0) ∷ cells z)
unfolding rule_number shape inner_of cells top_kind continues
tree-spine F w e z (Fit.node {r} {a} {c} t gc) h = rw (node-outer F r a c t, t.rule) (at_node t gc h)
tree-spine F w e z (Fit.fill {r} {b} {c} t gb gc) h = rw (fill-outer F r b c t, t.rule) (in_spine {z = Position.fill_spine r b c z} gb (At.fill h))

abbrev Opened : Facts → Expression → ℕ → Cells → Type 0
Opened F w a cs = Stood F w (State.at (outer F a) cell_spine (inner_of (F.rule a))) ((cell_spine, a, 0, 0) ∷ cs)

tree_opens : (F : Facts) (w e : Expression) (z : Position) (k a : ℕ) → Fit F Sort.tree e → At w Where.tree e z → not (eqb k cell_spine) && eqb (rule_number e) a ≡ true → Opened F w a (cells z)
tree_opens F w e z k a g h u =
    rw (eqb→eq (rule_number e) a (rw ((and-eq-true_iff (not (eqb k cell_spine)) (eqb (rule_number e) a)).0 u).1 tt)) at (tree-spine F w e z g h)

row-spine : (F : Facts) (w : Expression) (z : Position) (p k a : ℕ) (o : Option ℕ) → Row F w z p → spine_at (F.rule p) p k o a ≡ true → Opened F w a (cells z)
unfolding spine_at shape rule_number
row-spine F w z p k a o (hollow t) q = absurd (false≢true (rw t.rule at q))
row-spine F w z p k a o (two (Fit.pair t gb gc) h x y) q = absurd (false≢true (rw t.rule at q))
row-spine F w z p k a o (tree (Fit.node {r} {a = l} {c} t gc) h) q = tree_opens F w (Expression.node r l c) z k a (Fit.node t gc) h (rw t.rule at q)
row-spine F w z p k a o (tree (Fit.fill {r} {b} {c} t gb gc) h) q = tree_opens F w (Expression.fill r b c) z k a (Fit.fill t gb gc) h (rw t.rule at q)
row-spine F w z p k a o (two {b = b} {c = c} (Rattle.model.proofs.Fit.grown x10) h x y) q = elim x10 [ ]

that : (x : Option Expression) (a : ℕ) → is_that (option_map rule_number x) a ≡ true → (c : Expression) × (x ≡ Some c) × (rule_number c ≡ a)
unfolding is_that
that None a q = absurd (false≢true q)
that (Some c) a q = (c, refl, eqb→eq (rule_number c) a (rw q tt))

module _ (F : Facts) (w : Expression) (g : Fit F Sort.row w) where
  hole-spine : (r l : ℕ) (b c : Expression) (z : Position) (a : ℕ) → At w Where.here (Expression.part r l b c) z → (x : Expression) × (continues z ≡ Some x) × (rule_number x ≡ a) → Opened F w a (cells z)
  hole-spine r l b c z a h x =
      let k : At w Where.tree x.0 z = At.hole h x.1 in
      rw x.2 at (tree-spine F w x.0 z (whole F w g Where.tree x.0 z k) k)

  part-spines : (e : Expression) (z : Position) (k a : ℕ) → Fit F Sort.spine e → At w Where.spine e z → spine_at (F.rule (rule_number e)) (rule_number e) k (option_map rule_number (continues z)) a ≡ true → Opened F w a (cells z)
  unfolding spine_at shape rule_number
  part-spines e z k a (Fit.part {r} {a = l} {b} {c} t gb gc) h q = hole-spine r l b c z a (At.part h) (that (continues z) a (rw t.rule at q))
  part-spines e z k a (Fit.join t gb gc) h q = absurd (false≢true (rw t.rule at q))

  spine-stood : (st : State) (cs : Cells) → Stood F w st cs → (a : ℕ) → spine_in F st a ≡ true → Opened F w a cs
  unfolding spine_in spine_at shape rule_number
  spine-stood st cs nowhere a q = absurd (false≢true q)
  spine-stood st cs (in_row {v = p} {z} x u) a q = row-spine F w z p (top_kind (cells z)) a None x q
  spine-stood st cs (in_spine {e} {z} k x) a q = part-spines e z (top_kind (cells z)) a k x q
  spine-stood st cs (at_node t gc x) a q = absurd (false≢true (rw t.rule at q))

  -- the next cell
  next-stood : (st : State) (cs : Cells) → Stood F w st cs → (c : Cell) (x : Form) → Formed c x → Fine (next F (rule_number w) st x) → Stood F w (next F (rule_number w) st x) (c ∷ cs)
  unfolding next
  next-stood st cs h c x (row_cell {d} {v} q) f = rw q (row-stood F w g st cs h d v f)
  next-stood st cs h c x (spine_cell {a} q) f =
      let u = fine-taken (spine_in F st a) (State.at (outer F a) cell_spine (inner_of (F.rule a))) f in
      rw (q, u) (spine-stood st cs h a u)
  next-stood st cs h c x (at_run_cell {a} {b} s q) f = rw q (run-stood F w st s a b cs h f)
  next-stood st cs h c x no_form f = absurd f

  was-fine : (st : State) (x : Form) → Fine (next F (rule_number w) st x) → Fine st
  unfolding next row_in after_row spine_in after_run
  was-fine State.above x f = tt
  was-fine (State.at p k o) x f = tt
  was-fine State.wrong (Form.row d v) f = f
  was-fine State.wrong (Form.spine a) f = f
  was-fine State.wrong (Form.run s a b) f = f
  was-fine State.wrong Form.formless f = f

  -- cells that are not wrong are those of a position
  stood : (cs : Cells) → Fine (state_after F (rule_number w) cs) → Stood F w (state_after F (rule_number w) cs) cs
  unfolding state_after
  stood [] f = nowhere
  stood (c ∷ cs) f =
      next-stood (state_after F (rule_number w) cs) cs (stood cs (was-fine (state_after F (rule_number w) cs) (form_of c) f)) c (form_of c) (formed c) f

-- the cells of a node
pub record NodeWith (w : Expression) (cs : Cells) : Type 0 where
  pub expression : Expression
  pub position : Position
  pub there : At w Where.here expression position
  pub equal_cells : cells position ≡ cs

row-not-node : (F : Facts) (w : Expression) (z : Position) (p k : ℕ) → Row F w z p → eqb k cell_spine ≡ false → is_node (F.rule p) k ≡ true → ⊥
unfolding is_node shape rule_number
row-not-node F w z p k (hollow t) u q = false≢true (rw t.rule at q)
row-not-node F w z p k (two (Fit.pair t gb gc) h x y) u q = false≢true (rw t.rule at q)
row-not-node F w z p k (tree (Fit.node t gc) h) u q = false≢true (rw (t.rule, u) at q)
row-not-node F w z p k (tree (Fit.fill t gb gc) h) u q = false≢true (rw t.rule at q)
row-not-node F w z p k (two {b = b} {c = c} (Rattle.model.proofs.Fit.grown x11) h x y) u q = elim x11 [ ]

spine-node : (F : Facts) (w : Expression) (e : Expression) (z : Position) (k : ℕ) → Fit F Sort.spine e → At w Where.spine e z → is_node (F.rule (rule_number e)) k ≡ true → NodeWith w (cells z)
unfolding is_node shape rule_number
spine-node F w e z k (Fit.part {r} {a} {b} {c} t gb gc) h q = record { expression = Expression.part r a b c; position = z; there = At.part h; equal_cells = refl }
spine-node F w e z k (Fit.join t gb gc) h q = absurd (false≢true (rw t.rule at q))

ends-node : (F : Facts) (w : Expression) (st : State) (cs : Cells) → Stood F w st cs → ends_well F st ≡ true → NodeWith w cs
unfolding ends_well cells
ends-node F w st cs nowhere q = absurd (false≢true q)
ends-node F w st cs (in_row {v = p} {z} x u) q = absurd (row-not-node F w z p (top_kind (cells z)) x u q)
ends-node F w st cs (in_spine {e} {z} k x) q = spine-node F w e z (top_kind (cells z)) k x q
ends-node F w st cs (at_node {r} {a} {c} {z} t gc x) q =
    record { expression = Expression.node r a c; position = Position.node_spine r a c z; there = At.node x; equal_cells = refl }

ends-fine : (F : Facts) (st : State) → ends_well F st ≡ true → Fine st
unfolding ends_well
ends-fine F State.above q = tt
ends-fine F (State.at p k o) q = tt
ends-fine F State.wrong q = false≢true q

-- what the test accepts are the cells of a node
pub accepted-node : (F : Facts) (w : Expression) → Fit F Sort.row w → (cs : Cells) → accepts F (rule_number w) cs ≡ true → NodeWith w cs
unfolding accepts
accepted-node F w g cs q =
    ends-node F w (state_after F (rule_number w) cs) cs (stood F w g cs (ends-fine F (state_after F (rule_number w) cs) q)) q
