-- What a client sees and what is taken out weigh together what the forest weighs (document 02, Note 8), whatever a label weighs. One
-- induction over the forest. Assumes nothing.
use Prim.Native.Nat.{ℕ, ◌+◌}
use native.Mathlib.Omega.{arith}
use mathlib.Core.Bool.{Bool}
use mathlib.Core.Path.{◌≡◌, refl}
use Rattle.forest.specs.Forest.{Forest, append, weigh}
use Rattle.forest.proofs.Cases.{by_bool}
use Rattle.copy_variants.specs.Visible.{visible, taken_out}

module _ (w : ℕ → ℕ) where
  pub weigh-append : (f g : Forest ℕ) → weigh w (append f g) ≡ weigh w f + weigh w g
  unfolding weigh append
  weigh-append Forest.none g = omega arith
  weigh-append (Forest.tree a c f) g = rw (weigh-append f g) (omega arith)

  pub weigh-parted : (v : ℕ → Bool) (g : Forest ℕ) → weigh w (visible v g) + weigh w (taken_out v g) ≡ weigh w g
  unfolding visible taken_out weigh
  weigh-parted v Forest.none = refl
  weigh-parted v (Forest.tree a c f) =
      let p = weigh-parted v c in
      let q = weigh-parted v f in
      by_bool (v a) (λ u. rw (u, weigh-append (taken_out v c) (taken_out v f)) (omega (arith, p, q))) (λ u. rw u (omega (arith, p, q)))
