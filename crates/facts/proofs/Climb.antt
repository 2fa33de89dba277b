-- Climbing: a jump and a step both lead to a rule further on the way and fewer steps from its end, so what is left to climb from
-- there is what was left before. The rows of a plan's rules can be climbed, and are known as the plan's facts. Assumes nothing.
use Prim.Native.Nat.{ℕ, suc, ◌-◌, ◌≤◌, ◌<◌}
use native.Mathlib.Omega.{arith}
use mathlib.Core.Path.{◌≡◌, refl, sym, ap, ◌∙◌}
use mathlib.Core.List.{List}
use Rattle.forest.specs.Place.{Side}
use Rattle.model.specs.Facts.{Facts}
use Rattle.model.specs.Run.{along}
use Rattle.facts.specs.Facts.{link_in, In, facts_in, Climbs}
use Rattle.facts.proofs.Along.{along-add}

-- y is further on the way of side s from x
pub record Onward (t : List ℕ) (s : Side) (x y : ℕ) : Type 0 where
  pub inside : In t y
  pub fewer : (facts_in t).depth s y < (facts_in t).depth s x
  pub ahead : y ≡ along (facts_in t) s ((facts_in t).depth s x - (facts_in t).depth s y) x

module _ {t : List ℕ} (C : Climbs t) (s : Side) (x : ℕ) (i : In t x) (goes : 0 < (facts_in t).depth s x) where
  pub jump-onward : (y : ℕ) → y ≡ (link_in t s x).jump → Onward t s x y
  jump-onward y e =
      let j = C.jumps s x i in
      rw e (record { inside = j.inside; fewer = (j.ahead goes).0; ahead = (j.ahead goes).1 })

  pub step_falls : (y : ℕ) → y ≡ (facts_in t).toward s x → (facts_in t).depth s x ≡ suc ((facts_in t).depth s y)
  step_falls y e = rw e (C.falls s x i goes)

  pub step-onward : (y : ℕ) → y ≡ (facts_in t).toward s x → Onward t s x y
  unfolding along
  step-onward y e =
      let f : (facts_in t).depth s x ≡ suc ((facts_in t).depth s ((facts_in t).toward s x)) = C.falls s x i goes in
      let one : (facts_in t).depth s x - (facts_in t).depth s ((facts_in t).toward s x) ≡ 1 = omega arith in
      rw e (record { inside = C.inside s x i; fewer = omega arith; ahead = rw one refl })

-- what is left to climb to a rule h steps from the end is the same from there
pub still : (t : List ℕ) (s : Side) (h x y : ℕ) → Onward t s x y → h ≤ (facts_in t).depth s y
    → along (facts_in t) s ((facts_in t).depth s x - h) x ≡ along (facts_in t) s ((facts_in t).depth s y - h) y
still t s h x y o low =
    let F : Facts = facts_in t in
    let f : F.depth s y < F.depth s x = o.fewer in
    ap (λ (m : ℕ). along F s m x) (omega arith)
    ∙ along-add F s (F.depth s y - h) (F.depth s x - F.depth s y) x
    ∙ ap (along F s (F.depth s y - h)) (sym o.ahead)
