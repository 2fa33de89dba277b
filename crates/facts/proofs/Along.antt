-- Steps along the way of one side, and when a rule may stand as another's jump: the rule itself next to it, a rule that copies its way,
-- or over two jumps one after the other. Steps add up, so each is one count. Assumes nothing.
use Prim.Native.Nat.{ℕ, zero, suc, ◌+◌, ◌-◌, ◌<◌}
use native.Mathlib.Nat.{suc-add, zero-add}
use native.Mathlib.Omega.{arith}
use mathlib.Core.Path.{◌≡◌, refl, sym, ap, ◌∙◌}
use Rattle.forest.specs.Place.{Side}
use Rattle.model.specs.Facts.{Facts}
use Rattle.model.specs.Run.{along}
use Rattle.facts.specs.Facts.{Leads}

pub leads-more : {F : Facts} {Done Done' : ℕ → Type 0} {s : Side} {r j : ℕ} → ((k : ℕ) → Done k → Done' k) → Leads F Done s r j → Leads F Done' s r j
leads-more {j = j} more h = record { inside = more j h.inside; ahead = h.ahead }

module _ (F : Facts) (s : Side) where
  -- the first step may be taken first
  pub along-from : (j a : ℕ) → along F s (suc j) a ≡ along F s j (F.toward s a)
  unfolding along
  along-from zero a = refl
  along-from (suc j) a = ap (F.toward s) (along-from j a)

  pub along-add : (i j a : ℕ) → along F s (i + j) a ≡ along F s i (along F s j a)
  unfolding along
  along-add zero j a = ap (λ (k : ℕ). along F s k a) (zero-add j)
  along-add (suc i) j a = rw suc-add (ap (F.toward s) (along-add i j a))

  -- rules with the same next have the same way
  along-same : (m a b : ℕ) → 0 < m → F.toward s a ≡ F.toward s b → along F s m a ≡ along F s m b
  along-same zero a b z e = absurd (omega arith)
  along-same (suc m) a b z e = along-from m a ∙ ap (along F s m) e ∙ sym (along-from m b)

  module _ {Done : ℕ → Type 0} {r : ℕ} where
    pub leads-copy : (k j : ℕ) → F.toward s r ≡ F.toward s k → F.depth s r ≡ F.depth s k → Leads F Done s k j → Leads F Done s r j
    leads-copy k j e d h =
        record {
          inside = h.inside;
          ahead =
              λ z. let a = h.ahead (omega arith) in (
                omega (arith, a.0),
                a.1
                    ∙ ap (λ (m : ℕ). along F s m k) (omega (arith, d))
                    ∙ along-same (F.depth s r - F.depth s j) k r (omega (arith, a.0)) (sym e),
              );
        }

    pub leads-next : (p : ℕ) → F.toward s r ≡ p → F.depth s r ≡ suc (F.depth s p) → Done p → Leads F Done s r p
    unfolding along
    leads-next p e d h =
        record {
          inside = h;
          ahead = λ z. let one : F.depth s r - F.depth s p ≡ 1 = omega arith in (omega arith, rw one (sym e));
        }

    pub leads-over : (p j k : ℕ) → F.toward s r ≡ p → F.depth s r ≡ suc (F.depth s p) → Leads F Done s p j → Leads F Done s j k
        → F.depth s j < F.depth s p → F.depth s j + F.depth s j ≡ F.depth s p + F.depth s k → Leads F Done s r k
    leads-over p j k e d hj hk below equal =
        record {
          inside = hk.inside;
          ahead =
              λ z. let first = hj.ahead (omega arith) in
              let second = hk.ahead (omega arith) in (
                omega arith,
                second.1
                    ∙ ap (along F s (F.depth s j - F.depth s k)) first.1
                    ∙ sym (along-add (F.depth s j - F.depth s k) (F.depth s p - F.depth s j) p)
                    ∙ ap (along F s (F.depth s j - F.depth s k + (F.depth s p - F.depth s j))) (sym e)
                    ∙ sym (along-from (F.depth s j - F.depth s k + (F.depth s p - F.depth s j)) r)
                    ∙ ap (λ (m : ℕ). along F s m r) (omega arith),
              );
        }
