-- A place of a node has at most 3 × n cells, and a row that has a tree one less, since its first tree's place goes on from there. So there is room for
-- the next step and for the tree. Assumes nothing.
use Prim.Native.Nat.{ℕ, ◌+◌, ◌*◌, ◌≤◌, ◌<◌}
use native.Mathlib.Omega.{arith}
use mathlib.Core.Path.{◌≡◌}
use mathlib.Core.Bool.{false}
use mathlib.Core.List.{List}
use Rattle.std.specs.Prelude.{Option, Some}
use lib.ListN.{length}
use lib.Dec.{eqb}
use Rattle.forest.specs.Expression.{Expression, rule_number}
use Rattle.forest.specs.Place.{Cells, Side, is_empty, representative}
use Rattle.forest.specs.Good.{Sort}
use Rattle.forest.specs.Position.{Position, Located, Where, At, cells}
use Rattle.forest.proofs.Bound.{length-step}
use Rattle.forest.proofs.Cases.{by_bool}
use Rattle.model.specs.Facts.{Facts}
use Rattle.model.specs.Model as M
use Rattle.model.specs.Model.{Node, run}
use Rattle.model.specs.Same.{Same}
use Rattle.model.proofs.Fit.{Fit}
use Rattle.model.proofs.Rules.{Agrees, facts-agree}
use Rattle.model.proofs.Standing.{whole}
use Rattle.model.proofs.Enter.{Agree, entered, enters}
use Rattle.work_rows.proofs.Kept.{first-length}
use Rattle.facts.specs.Facts.{row_count, facts_in}
use Rattle.letter_arrival.proofs.Puts.{opened-longer}
use Rattle.letter_moves.specs.Standing.{rules_kept, WalkedRows}
use Rattle.letter_moves.proofs.Valid.{fit, valid-short}
use Rattle.transfer_path.specs.Spot.{Spot, tops}
use Rattle.transfer_path.proofs.Spots.{tops-empty}
use Rattle.transfer_seek.specs.Seek.{NodeAt}
use Rattle.transfer_climb.specs.Climb.{meaning}

run-longer : (F : Facts) (s : Side) (a : ℕ) (cs : Cells) → length cs ≤ length (run F s a cs)
unfolding run
run-longer F s a cs = by_bool (eqb (F.depth s a) 0) (λ u. rw u (omega arith)) (λ u. rw u (length-step s a (F.last s a) cs).0)

-- trees make it not empty
pub some_tree : (e : Expression) {i : ℕ} → i < tops e → is_empty e ≡ false
some_tree e l = by_bool (is_empty e) (λ u. absurd (let n : ⊥ = omega (arith, tops-empty e u) in n)) (λ u. u)

module _ {t : List ℕ} {start : ℕ} (T : WalkedRows start t) where
  agrees : (k : ℕ) → k < length (rules_kept t) → Agrees (facts_in t) (rules_kept t) k
  agrees k h = rw T.facts_are (facts-agree (rules_kept t) k)

  -- the facts are those of what stands anywhere in the walked forest
  pub walked-fit : Fit (facts_in t) Sort.row (meaning t start)
  walked-fit = fit T.sound T.closed (facts_in t) agrees

  pub row-fit : {e : Expression} {z : Position} → At (meaning t start) Where.row e z → Fit (facts_in t) Sort.row e
  row-fit {e} {z} h = whole (facts_in t) (meaning t start) walked-fit Where.row e z h

  short : {e : Expression} {z : Position} → At (meaning t start) Where.here e z → length (cells z) ≤ 3 * row_count t
  short {e} {z} h =
      let many = first-length t (row_count t) in
      let few = valid-short T.sound T.closed (facts_in t) agrees (rule_number e, cells z) (record { position = Some (e, z); same = Same.at h }) in
      omega arith

  pub node-short : {x : Spot} {n : Node} → NodeAt (meaning t start) x n → length n.1 ≤ 3 * row_count t
  node-short k = rw k.node_is (short k.here)

  agreed-short : {x : Option Located} (n : Node) → Agree (meaning t start) x (Some n) → length n.1 ≤ 3 * row_count t
  agreed-short n (Agree.found h) = short h

  pub row-short : {e : Expression} {z : Position} → At (meaning t start) Where.row e z → is_empty e ≡ false → length (cells z) + 1 ≤ 3 * row_count t
  unfolding entered
  row-short {e} {z} h u =
      let F = facts_in t in
      let down = run F Side.left (representative e) (cells z) in
      let few = agreed-short (M.opened F (F.last Side.left (representative e)) down) (rw u at (enters F (meaning t start) Side.left e (row-fit h) z h)) in
      omega (arith, few, opened-longer F (F.last Side.left (representative e)) down, run-longer F Side.left (representative e) (cells z))
