-- What cases 4 and 5 read as d and w: at a node where moving up fails and the row ends on a side, the row's opening lies on top once a
-- run to that side is dropped, and below it what lies below the row. Any step to the other side would have a tree beside it.
-- Assumes nothing.
use Prim.Native.Nat.{ℕ}
use mathlib.Core.Path.{◌≡◌, refl, sym, ◌∙◌}
use mathlib.Core.Bool.{false}
use mathlib.Core.List.{[], ◌∷◌}
use Rattle.std.specs.Prelude.{Option, None, Some}
use Rattle.std.proofs.lemmas.Option.{none-some}
use Rattle.forest.specs.Expression.{Expression, rule_number}
use Rattle.forest.specs.Place.{Cells, Side, cell_row, cell_run, row_of_node, row_of_part, is_empty, representative}
use Rattle.forest.specs.Sides.{pick, other}
use Rattle.forest.specs.Position.{Position, At, Where, cells}
use Rattle.forest.specs.Good.{Sort}
use Rattle.model.specs.Facts.{Facts}
use Rattle.model.specs.Model.{Node, pop_run, beside_top, beside, under, outward, below_row}
use Rattle.model.specs.Neighbour.{up, across, row_end}
use Rattle.model.proofs.Cells.{turned-step, pop_run-step, below_row-step}
use Rattle.model.proofs.Fit.{Fit, pair-steps}
use Rattle.model.proofs.Standing.{whole, pair-says}
use Rattle.model.proofs.Spine.{Out, inside, alone, outwards}

-- a row's opening on these cells
pub data Opens (below : Cells) : Cells → Type 0 where
  opens : {d v : ℕ} → Opens below ((cell_row, d, v, 0) ∷ below)

opening : (s : Side) (d v : ℕ) (t : Cells) → Opens (below_row ((cell_row, d, v, 0) ∷ t)) (pop_run s ((cell_row, d, v, 0) ∷ t))
unfolding pop_run cell_run below_row
opening Side.left d v t = opens
opening Side.right d v t = opens

Ends : Facts → Side → Cells → Type 0
Ends F s cs = beside_top F s (pop_run s cs) ≡ None → Opens (below_row cs) (pop_run s cs)

module _ (F : Facts) (w : Expression) (g : Fit F Sort.row w) where
  turn-goes-on : (s : Side) (r : ℕ) (b c : Expression) (z : Position) → At w Where.row (Expression.pair r b c) z → is_empty b ≡ false → is_empty c ≡ false → ¬ (beside_top F s (pop_run s (cells (Position.pair_side (other s) r b c z))) ≡ None)
  unfolding cells
  turn-goes-on s r b c z h x y e =
      let f : Fit F Sort.row (Expression.pair r b c) = whole F w g Where.row (Expression.pair r b c) z h in
      none-some _ (sym e ∙ turned-step F s r (representative (pick (other s) b c)) (cells z) (pair-says F w g r b c z h x y) (pair-steps F (other s) r b c f x y))

  step-ends : (s u : Side) (r : ℕ) (b c : Expression) (z : Position) → At w Where.row (Expression.pair r b c) z → is_empty b ≡ false → is_empty c ≡ false → Ends F s (cells z) → Ends F s (cells (Position.pair_side u r b c z))
  unfolding Ends cells other
  step-ends Side.left Side.left r b c z h x y k = rw (pop_run-step, below_row-step) k
  step-ends Side.left Side.right r b c z h x y k = λ e. absurd (turn-goes-on Side.left r b c z h x y e)
  step-ends Side.right Side.left r b c z h x y k = λ e. absurd (turn-goes-on Side.right r b c z h x y e)
  step-ends Side.right Side.right r b c z h x y k = rw (pop_run-step, below_row-step) k

  ends : (s : Side) (e : Expression) (z : Position) → At w Where.row e z → Ends F s (cells z)
  unfolding Ends cells
  ends s e z At.start = λ _. opening s row_of_node (representative w) []
  ends s e z (At.side {r} {b} {c} {z = y} u h x v) = step-ends s u r b c y h x v (ends s (Expression.pair r b c) y h)
  ends s e z (At.only_right {r} {b} {c} h u) = ends s (Expression.pair r b c) z h
  ends s e z (At.only_left {r} {b} {c} h u v) = ends s (Expression.pair r b c) z h
  ends s e z (At.under {r} {a} {c} {z = y} h) = λ _. opening s row_of_node (representative c) (cells y)
  ends s e z (At.arm {r} {a} {b} {c} {z = y} u h) = λ _. opening s (row_of_part u) (representative (pick u b c)) (cells y)

  out-ends : (s : Side) (p : ℕ) (z : Position) → Out F w z → up F (p, cells z) ≡ None → across F s (p, cells z) ≡ None → Opens (below_row (under (cells z))) (row_end s (p, cells z))
  unfolding up across row_end beside Ends
  out-ends s p z (inside x i h u v) k e = absurd (none-some _ (sym k ∙ v))
  out-ends s p z (alone y h u v q) k e = rw q (ends s y _ h (rw q at e))

  -- where the row ends, its number is d and what lies below it w
  pub row_ends : (s : Side) (e : Expression) (z : Position) → At w Where.here e z → up F (rule_number e, cells z) ≡ None → across F s (rule_number e, cells z) ≡ None → Opens (below_row (under (cells z))) (row_end s (rule_number e, cells z))
  row_ends s e z h = out-ends s (rule_number e) z (outwards F w g e z h)
