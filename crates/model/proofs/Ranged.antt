-- The numbers that stand in a position's cells, and the number of what stands there, are those of rules inside the walked
-- expression: whatever holds of all of these holds of them. By recursion on how the position was reached.
-- Assumes nothing.
use Prim.Native.Nat.{ℕ}
use mathlib.Core.Path.{◌≡◌}
use mathlib.Core.List.{[], ◌∷◌}
use Rattle.std.specs.Prelude.{Some}
use Rattle.std.proofs.lemmas.Option.{none-some, same_Some}
use Rattle.forest.specs.Expression.{Expression, rule_number}
use Rattle.forest.specs.Place.{Cells, Side, cell_row, cell_spine, cell_run, is_empty, representative, step}
use Rattle.forest.specs.Sides.{pick}
use Rattle.forest.specs.Position.{Position, At, Where, cells, continues}
use Rattle.forest.proofs.Cases.{by_bool}
use Rattle.model.proofs.Fit.{picked}

-- P holds of the number of every rule inside e
pub data Every (P : ℕ → Type 0) : Expression → Type 0 where
  empty : {r : ℕ} → P r → Every P (Expression.empty r)
  pair : {r : ℕ} {b c : Expression} → P r → Every P b → Every P c → Every P (Expression.pair r b c)
  node : {r a : ℕ} {c : Expression} → P r → Every P c → Every P (Expression.node r a c)
  fill : {r : ℕ} {b c : Expression} → P r → Every P b → Every P c → Every P (Expression.fill r b c)
  part : {r a : ℕ} {b c : Expression} → P r → Every P b → Every P c → Every P (Expression.part r a b c)
  join : {r : ℕ} {b c : Expression} → P r → Every P b → Every P c → Every P (Expression.join r b c)

-- P holds of every rule's number in the cells
pub data Numbers (P : ℕ → Type 0) : Cells → Type 0 where
  none : Numbers P []
  row : {d v : ℕ} {cs : Cells} → P v → Numbers P cs → Numbers P ((cell_row, d, v, 0) ∷ cs)
  spine : {a : ℕ} {cs : Cells} → P a → Numbers P cs → Numbers P ((cell_spine, a, 0, 0) ∷ cs)
  run : {a b : ℕ} {cs : Cells} (s : Side) → P a → P b → Numbers P cs → Numbers P ((cell_run s, a, b, 0) ∷ cs)

pub number_in : (P : ℕ → Type 0) (e : Expression) → Every P e → P (rule_number e)
unfolding rule_number
number_in P e (empty p) = p
number_in P e (pair p b c) = p
number_in P e (node p c) = p
number_in P e (fill p b c) = p
number_in P e (part p b c) = p
number_in P e (join p b c) = p

pair-number : (P : ℕ → Type 0) (r : ℕ) (b c : Expression) → P r → P (representative b) → P (representative c) → P (representative (Expression.pair r b c))
unfolding representative
pair-number P r b c p pb pc = by_bool (is_empty b) (λ u. rw u pc) (λ u. by_bool (is_empty c) (λ v. rw (u, v) pb) (λ v. rw (u, v) p))

pub representative-in : (P : ℕ → Type 0) (e : Expression) → Every P e → P (representative e)
unfolding representative
representative-in P e (empty p) = p
representative-in P e (pair {r} {b} {c} p hb hc) = pair-number P r b c p (representative-in P b hb) (representative-in P c hc)
representative-in P e (node p c) = p
representative-in P e (fill p b c) = p
representative-in P e (part p b c) = p
representative-in P e (join p b c) = p

step-numbers : (P : ℕ → Type 0) (s : Side) (a b : ℕ) (cs : Cells) → P a → P b → Numbers P cs → Numbers P (step s a b cs)
unfolding step cell_run
step-numbers P s a b cs p q none = run s p q none
step-numbers P Side.left a b cs p q (row x h) = run Side.left p q (row x h)
step-numbers P Side.right a b cs p q (row x h) = run Side.right p q (row x h)
step-numbers P Side.left a b cs p q (spine x h) = run Side.left p q (spine x h)
step-numbers P Side.right a b cs p q (spine x h) = run Side.right p q (spine x h)
step-numbers P Side.left a b cs p q (run Side.left x y h) = run Side.left x q h
step-numbers P Side.left a b cs p q (run Side.right x y h) = run Side.left p q (run Side.right x y h)
step-numbers P Side.right a b cs p q (run Side.left x y h) = run Side.right p q (run Side.left x y h)
step-numbers P Side.right a b cs p q (run Side.right x y h) = run Side.right x q h

-- what stands at a position, what its spine continues in, and its cells
record Ranged (P : ℕ → Type 0) (e : Expression) (z : Position) : Type 0 where
  here : Every P e
  ahead : (c : Expression) → continues z ≡ Some c → Every P c
  numbers : Numbers P (cells z)

module _ (P : ℕ → Type 0) where
  sides : (s : Side) (r : ℕ) (b c : Expression) → Every P (Expression.pair r b c) → Every P (pick s b c)
  sides s r b c (pair p hb hc) = picked (Every P) s b c hb hc

  start-ranged : (w : Expression) → Every P w → Ranged P w (Position.start w)
  unfolding continues cells
  start-ranged w h = record { here = h; ahead = λ c q. absurd (none-some c q); numbers = row (representative-in P w h) none }

  side-ranged : (s : Side) (r : ℕ) (b c : Expression) (z : Position) → Ranged P (Expression.pair r b c) z → Ranged P (pick s b c) (Position.pair_side s r b c z)
  unfolding continues cells rule_number
  side-ranged s r b c z h =
      let k : Every P (pick s b c) = sides s r b c h.here in
      record {
        here = k;
        ahead = λ x q. absurd (none-some x q);
        numbers = step-numbers P s r (representative (pick s b c)) (cells z) (number_in P (Expression.pair r b c) h.here) (representative-in P (pick s b c) k) h.numbers;
      }

  only-ranged : (s : Side) (r : ℕ) (b c : Expression) (z : Position) → Ranged P (Expression.pair r b c) z → Ranged P (pick s b c) z
  only-ranged s r b c z h = record { here = sides s r b c h.here; ahead = h.ahead; numbers = h.numbers }

  node-ranged : (r a : ℕ) (c : Expression) (z : Position) → Ranged P (Expression.node r a c) z → Ranged P (Expression.node r a c) (Position.node_spine r a c z)
  unfolding continues cells rule_number
  node-ranged r a c z h =
      record { here = h.here; ahead = λ x q. absurd (none-some x q); numbers = spine (number_in P (Expression.node r a c) h.here) h.numbers }

  fill-ranged : (r : ℕ) (b c : Expression) (z : Position) → Every P (Expression.fill r b c) → Numbers P (cells z) → Ranged P b (Position.fill_spine r b c z)
  unfolding continues cells
  fill-ranged r b c z (fill p hb hc) h =
      record { here = hb; ahead = λ x q. rw (same_Some c x q) at hc; numbers = spine p h }

  under-ranged : (r a : ℕ) (c : Expression) (z : Position) → Every P (Expression.node r a c) → Numbers P (cells z) → Ranged P c (Position.node_row r a c z)
  unfolding continues cells
  under-ranged r a c z (node p hc) h = record { here = hc; ahead = λ x q. absurd (none-some x q); numbers = row (representative-in P c hc) h }

  arm-ranged : (s : Side) (r a : ℕ) (b c : Expression) (z : Position) → Every P (Expression.part r a b c) → Numbers P (cells z) → Ranged P (pick s b c) (Position.part_row s r a b c z)
  unfolding continues cells
  arm-ranged s r a b c z (part p hb hc) h =
      let k : Every P (pick s b c) = picked (Every P) s b c hb hc in
      record { here = k; ahead = λ x q. absurd (none-some x q); numbers = row (representative-in P (pick s b c) k) h }

  join-ahead : (s : Side) (r : ℕ) (b c : Expression) (z : Position) → ((x : Expression) → continues z ≡ Some x → Every P x) → (x : Expression) → continues (Position.join_side s r b c z) ≡ Some x → Every P x
  unfolding continues
  join-ahead Side.left r b c z h x q = absurd (none-some x q)
  join-ahead Side.right r b c z h x q = h x q

  join-ranged : (s : Side) (r : ℕ) (b c : Expression) (z : Position) → Every P (Expression.join r b c) → Ranged P (Expression.join r b c) z → Ranged P (pick s b c) (Position.join_side s r b c z)
  unfolding cells
  join-ranged s r b c z (join p hb hc) h =
      let k : Every P (pick s b c) = picked (Every P) s b c hb hc in
      record { here = k; ahead = join-ahead s r b c z h.ahead; numbers = step-numbers P s r (rule_number (pick s b c)) (cells z) p (number_in P (pick s b c) k) h.numbers }

  hole-ranged : (x e : Expression) (z : Position) → continues z ≡ Some e → Ranged P x z → Ranged P e z
  hole-ranged x e z q h = record { here = h.ahead e q; ahead = h.ahead; numbers = h.numbers }

  ranged : (w : Expression) → Every P w → (k : Where) (e : Expression) (z : Position) → At w k e z → Ranged P e z
  unfolding pick
  ranged w g k e z At.start = start-ranged w g
  ranged w g k e z (At.side {r} {b} {c} {z = y} s h u v) = side-ranged s r b c y (ranged w g Where.row (Expression.pair r b c) y h)
  ranged w g k e z (At.only_right {r} {b} {c} h u) = only-ranged Side.right r b c z (ranged w g Where.row (Expression.pair r b c) z h)
  ranged w g k e z (At.only_left {r} {b} {c} h u v) = only-ranged Side.left r b c z (ranged w g Where.row (Expression.pair r b c) z h)
  ranged w g k e z (At.tree_node h) = ranged w g Where.row e z h
  ranged w g k e z (At.tree_fill h) = ranged w g Where.row e z h
  ranged w g k e z (At.node {r} {a} {c} {z = y} h) = node-ranged r a c y (ranged w g Where.tree (Expression.node r a c) y h)
  ranged w g k e z (At.under {r} {a} {c} {z = y} h) =
      let x : Ranged P (Expression.node r a c) y = ranged w g Where.here (Expression.node r a c) y h in
      under-ranged r a c y x.here x.numbers
  ranged w g k e z (At.fill {r} {b} {c} {z = y} h) =
      let x : Ranged P (Expression.fill r b c) y = ranged w g Where.tree (Expression.fill r b c) y h in
      fill-ranged r b c y x.here x.numbers
  ranged w g k e z (At.join {r} {b} {c} {z = y} s h) =
      let x : Ranged P (Expression.join r b c) y = ranged w g Where.spine (Expression.join r b c) y h in
      join-ranged s r b c y x.here x
  ranged w g k e z (At.part h) = ranged w g Where.spine e z h
  ranged w g k e z (At.arm {r} {a} {b} {c} {z = y} s h) =
      let x : Ranged P (Expression.part r a b c) y = ranged w g Where.here (Expression.part r a b c) y h in
      arm-ranged s r a b c y x.here x.numbers
  ranged w g k e z (At.hole {r} {a} {b} {c} h q) = hole-ranged (Expression.part r a b c) e z q (ranged w g Where.here (Expression.part r a b c) z h)

  -- whatever holds of every rule inside the walked expression holds of a node's rule and of the numbers in its cells
  pub node-number : (w e : Expression) (z : Position) → Every P w → At w Where.here e z → P (rule_number e)
  node-number w e z g h = number_in P e (ranged w g Where.here e z h).here

  pub cell-numbers : (w e : Expression) (z : Position) → Every P w → At w Where.here e z → Numbers P (cells z)
  cell-numbers w e z g h = (ranged w g Where.here e z h).numbers
