-- What 17 asks of a path, number by number. Where a number grows or a level is put on it, a path that isn't carried stays so, and that is all
-- that one cell more does to a spot; so 17 may be told as soon as it is seen. Assumes nothing.
use Prim.Native.Nat.{ℕ, zero, suc, ◌+◌, ◌≤◌, ◌<◌}
use native.Mathlib.Omega.{arith}
use mathlib.Core.Path.{◌≡◌, refl, sym, ◌∙◌}
use mathlib.Core.Bool.{true, false, and-eq-true_iff, true≢false}
use mathlib.Core.List.{List, [], ◌∷◌}
use lib.ListN.{length}
use lib.Dec.{leb, eqb}
use borrow.Author.Tests.{leb-true, leb-false, le-leb}
use Rattle.rule.specs.declared.Rule.{Rule}
use Rattle.forest.specs.Expression.{Expression}
use Rattle.forest.specs.Place.{Cell, Cells, Side, cell_row, cell_spine, cell_run}
use Rattle.forest.specs.Reference.{Path}
use Rattle.forest.proofs.Cases.{by_bool}
use Rattle.model.specs.Facts.{Facts}
use Rattle.model.specs.Run.{along}
use Rattle.model.specs.Pieces.{standing}
use Rattle.transfer_path.specs.Follow.{most_levels, most_place, few_beside, carried}
use Rattle.transfer_path.specs.Spot.{Spot, path_to, tops, through, threaded}
use Rattle.transfer_path.specs.CellSpot.{row_spot, spine_spot, step_spot, right_steps, steps_between, cell_spot, spot_in}

-- what a path that is carried has: few levels above its deepest number, that number small, and the rest of it carried
pub record Carries (i : ℕ) (p : Path) : Type 0 where
  pub levels : length p < most_levels
  pub small : i ≤ most_place
  pub above : carried p ≡ true

pub carried-has : (i : ℕ) (p : Path) → carried (i ∷ p) ≡ true → Carries i p
unfolding carried few_beside
carried-has i p h =
    let x = (and-eq-true_iff (leb (length (i ∷ p)) most_levels) (few_beside (i ∷ p))).0 h in
    let y = (and-eq-true_iff (leb i most_place) (few_beside p)).0 x.1 in
    let l : length (i ∷ p) ≤ most_levels = leb-true (length (i ∷ p)) most_levels x.0 in
    record {
      levels = omega arith;
      small = leb-true i most_place y.0;
      above = (and-eq-true_iff (leb (length p) most_levels) (few_beside p)).1 (le-leb (length p) most_levels (omega arith), y.1);
    }

pub has-carried : (i : ℕ) (p : Path) → Carries i p → carried (i ∷ p) ≡ true
unfolding carried few_beside
has-carried i p h =
    let x = (and-eq-true_iff (leb (length p) most_levels) (few_beside p)).0 h.above in
    (and-eq-true_iff (leb (length (i ∷ p)) most_levels) (few_beside (i ∷ p))).1 (
      le-leb (length (i ∷ p)) most_levels (omega (arith, h.levels)),
      (and-eq-true_iff (leb i most_place) (few_beside p)).1 (le-leb i most_place h.small, x.1),
    )

-- where y's path is carried, so is x's
abbrev pub Nearer : Spot → Spot → Type 0
Nearer x y = carried (path_to y) ≡ true → carried (path_to x) ≡ true

pub not_carried : (x y : Spot) → Nearer x y → carried (path_to x) ≡ false → carried (path_to y) ≡ false
not_carried x y n h = by_bool (carried (path_to y)) (λ e. absurd (true≢false (sym (n e) ∙ h))) (λ e. e)

nearer-both : (x y z : Spot) → Nearer x y → Nearer y z → Nearer x z
nearer-both x y z f g h = f (g h)

-- a level put on it, and a number grown
pub nearer-under : (x : Spot) (i : ℕ) → Nearer x (i, path_to x)
nearer-under x i h = (carried-has (suc i) (path_to x) h).above

pub nearer-beside : (i j : ℕ) (p : Path) → i ≤ j → Nearer (i, p) (j, p)
nearer-beside i j p l h =
    let c : Carries (suc j) p = carried-has (suc j) p h in
    has-carried (suc i) p (record { levels = c.levels; small = omega (arith, c.small); above = c.above })

pub nearer-through : (e : Expression) (x : Spot) → Nearer x (through e x)
unfolding through
nearer-through (Expression.empty r) x = λ h. h
nearer-through (Expression.pair r b c) x = λ h. h
nearer-through (Expression.node r a c) x = λ h. h
nearer-through (Expression.fill r b c) x = λ h. h
nearer-through (Expression.part r a b c) x = nearer-under x (tops b)
nearer-through (Expression.join r b c) x =
    nearer-both x (through b x) (through c (through b x)) (nearer-through b x) (nearer-through c (through b x))

pub nearer-threaded : (is : List ℕ) (x : Spot) → Nearer x (threaded is x)
unfolding threaded
nearer-threaded [] x = λ h. h
nearer-threaded (i ∷ is) x = nearer-both x (i, path_to x) (threaded is (i, path_to x)) (nearer-under x i) (nearer-threaded is (i, path_to x))

-- one cell more
module _ (F : Facts) (E : ℕ → Expression) where
  nearer-spine : (q : Rule) (x : Spot) → Nearer x (spine_spot E q x)
  unfolding spine_spot
  nearer-spine Rule.Empty x = λ h. h
  nearer-spine (Rule.Pair b c) x = λ h. h
  nearer-spine (Rule.Node a c) x = λ h. h
  nearer-spine (Rule.Fill b c) x = λ h. h
  nearer-spine (Rule.Part a b c) x = nearer-under x (tops (E b))
  nearer-spine (Rule.Join b c) x = λ h. h

  pub nearer-step : (q : Rule) (x : Spot) → Nearer x (step_spot E q x)
  unfolding step_spot
  nearer-step Rule.Empty x = λ h. h
  nearer-step (Rule.Pair b c) x = nearer-beside x.0 _ x.1 (omega arith)
  nearer-step (Rule.Node a c) x = λ h. h
  nearer-step (Rule.Fill b c) x = λ h. h
  nearer-step (Rule.Part a b c) x = λ h. h
  nearer-step (Rule.Join b c) x = nearer-through (E b) x

  -- more steps of a run
  pub nearer-further : (i j a : ℕ) (x : Spot) → i ≤ j → Nearer (right_steps F E i a x) (right_steps F E j a x)
  unfolding right_steps
  nearer-further i zero a x l = λ h. rw (let e : i ≡ 0 = omega arith in e) h
  nearer-further i (suc j) a x l =
      by_bool (leb i j)
      (λ u.
      nearer-both (right_steps F E i a x) (right_steps F E j a x) (right_steps F E (suc j) a x) (nearer-further i j a x (leb-true i j u))
      (nearer-step (F.rule (along F Side.right j a)) (right_steps F E j a x)))
      (λ u. λ h. rw (let e : i ≡ suc j = omega (arith, leb-false i j u) in e) h)

  nearer-cell : (c d : Cell) (cs : Cells) (x : Spot) → Nearer x (cell_spot F E c (d ∷ cs) x)
  unfolding cell_spot row_spot right_steps
  nearer-cell c d cs x =
      by_bool (eqb c.0 cell_row)
      (λ u. rw u (nearer-under x _))
      (λ u. by_bool (eqb c.0 cell_spine)
      (λ v. rw (u, v) (nearer-spine (F.rule (standing F (d ∷ cs))) x))
      (λ v. by_bool (eqb c.0 (cell_run Side.right))
      (λ w. rw (u, v, w) (nearer-further 0 (steps_between F c.1 c.2) c.1 x (omega arith)))
      (λ w. rw (u, v, w) (λ h. h))))

  pub nearer-spot : (c : Cell) (cs : Cells) → Nearer (spot_in F E cs) (spot_in F E (c ∷ cs))
  unfolding spot_in carried few_beside
  nearer-spot c [] = λ h. refl
  nearer-spot c (d ∷ cs) = nearer-cell c d cs (spot_in F E (d ∷ cs))

  -- a path that isn't carried after some cells isn't after one more
  pub cell-carried : (c : Cell) (cs : Cells) → carried (path_to (spot_in F E cs)) ≡ false → carried (path_to (spot_in F E (c ∷ cs))) ≡ false
  cell-carried c cs h = not_carried (spot_in F E cs) (spot_in F E (c ∷ cs)) (nearer-spot c cs) h
