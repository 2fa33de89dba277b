-- What is shown of a hedge goes through concatenation and substitution without a condition: a node that is gone loses its hole, so filling
-- it does nothing. Each law is one induction over a hedge. Assumes nothing.
use Prim.Native.Nat.{ℕ}
use mathlib.Core.Bool.{Bool, true, false, cond}
use native.Mathlib.Omega.{arith}
use mathlib.Core.Path.{◌≡◌, refl, ap, ◌∙◌}
use Rattle.forest.specs.Algebra.{Hedge, ◌·◌, ◌⟨◌⟩}
use Rattle.forest.specs.Sizes.{holes}
use Rattle.forest.specs.Forest.{trees}
use Rattle.copy_variants.specs.Visible.{visible}

-- what is visible of a hedge: a hole under a node that is gone is gone with it
unfoldable pub shown : (ℕ → Bool) → Hedge → Hedge
shown v Hedge.ε = Hedge.ε
shown v (Hedge.hole f) = Hedge.hole (shown v f)
shown v (Hedge.node a c f) = cond (v a) (Hedge.node a (shown v c) (shown v f)) (shown v f)

-- a test goes through what is done to both answers
through : {A B : Type 0} (h : A → B) (t : Bool) (a b : A) → h (cond t a b) ≡ cond t (h a) (h b)
through h true a b = refl
through h false a b = refl

module _ (v : ℕ → Bool) where
  pub shown-concat : (f g : Hedge) → shown v (f · g) ≡ shown v f · shown v g
  unfolding shown ◌·◌
  shown-concat Hedge.ε g = refl
  shown-concat (Hedge.hole f) g = ap Hedge.hole (shown-concat f g)
  shown-concat (Hedge.node a c f) g =
      rw (through (λ (h : Hedge). h · shown v g) (v a) (Hedge.node a (shown v c) (shown v f)) (shown v f), shown-concat f g)

  pub shown-⟨⟩ : (f g : Hedge) → shown v (f ⟨ g ⟩) ≡ shown v f ⟨ shown v g ⟩
  unfolding shown ◌⟨◌⟩
  shown-⟨⟩ Hedge.ε g = refl
  shown-⟨⟩ (Hedge.hole f) g = shown-concat g (f ⟨ g ⟩) ∙ ap (λ h. shown v g · h) (shown-⟨⟩ f g)
  shown-⟨⟩ (Hedge.node a c f) g =
      rw (through (λ (h : Hedge). h ⟨ shown v g ⟩) (v a) (Hedge.node a (shown v c) (shown v f)) (shown v f), shown-⟨⟩ c g, shown-⟨⟩ f g)

  pub trees-shown : (h : Hedge) → trees (shown v h) ≡ visible v (trees h)
  unfolding shown visible trees
  trees-shown Hedge.ε = refl
  trees-shown (Hedge.hole f) = trees-shown f
  trees-shown (Hedge.node a c f) = rw (through trees (v a) (Hedge.node a (shown v c) (shown v f)) (shown v f), trees-shown c, trees-shown f)

  -- where there is no hole, none is shown
  seen-holes : (t : Bool) (a : ℕ) (c f : Hedge) → holes c ≡ 0 → holes f ≡ 0 → holes (cond t (Hedge.node a c f) f) ≡ 0
  unfolding holes
  seen-holes true a c f p q = omega (arith, p, q)
  seen-holes false a c f p q = q

  pub shown-closed : (h : Hedge) → holes h ≡ 0 → holes (shown v h) ≡ 0
  unfolding shown holes
  shown-closed Hedge.ε q = refl
  shown-closed (Hedge.hole f) q = absurd (omega (arith, q))
  shown-closed (Hedge.node a c f) q = seen-holes (v a) a (shown v c) (shown v f) (shown-closed c (omega (arith, q))) (shown-closed f (omega (arith, q)))
