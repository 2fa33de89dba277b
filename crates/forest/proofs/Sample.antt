-- The hypotheses are not vacuous: the eight rules of document 01's sample plan are sound, the rank being the rule's number, and
-- the start rule 7 is closed. Each is computed rule by rule. Assumes nothing.
use Prim.Native.Nat.{ℕ, zero, suc, ◌<◌}
use native.Mathlib.Omega.{arith}
use mathlib.Core.Bool.{Bool, true, ◌&&◌}
use mathlib.Core.List.{List, [], ◌∷◌}
use lib.ListN.{length}
use lib.Dec.{T, ltb}
use Rattle.rule.specs.declared.Rule.{Rule}
use Rattle.rule.specs.Rule.{every, sorts, closed, labelled}
use Rattle.rule.specs.Sound.{rule, kind_in, Sound, Closed}
use Rattle.rule.proofs.Names.{T-left, T-right}

-- "0 empty; 1 node 97 over 0; 2 node 98 over 0; 3 pair 1 2; 4 node 99 over 3, hole, 2; 5 = 4 filled by 4; 6 = 5 filled by 1;
-- 7 pair 6 3"
unfoldable pub sample : List Rule
sample =
    Rule.Empty
    ∷ Rule.Node 97 0
    ∷ Rule.Node 98 0
    ∷ Rule.Pair 1 2
    ∷ Rule.Part 99 3 2
    ∷ Rule.Join 4 4
    ∷ Rule.Fill 5 1
    ∷ Rule.Pair 6 3
    ∷ []

-- a test that every number below n passes
all-below : (ℕ → Bool) → ℕ → Bool
all-below p zero = true
all-below p (suc n) = p zero && all-below (λ k. p (suc k)) n

each_below : (p : ℕ → Bool) (n : ℕ) → T (all-below p n) → (r : ℕ) → r < n → T (p r)
unfolding all-below
each_below p zero t r h = absurd (omega arith)
each_below p (suc n) t zero h = T-left (p zero) (all-below (λ k. p (suc k)) n) t
each_below p (suc n) t (suc r) h = each_below (λ k. p (suc k)) n (T-right (p zero) (all-below (λ k. p (suc k)) n) t) r (omega arith)

pub sample-sound : Sound sample (λ r. r)
unfolding sample all-below rule kind_in every sorts labelled
sample-sound =
    record {
      in_range = each_below (λ r. every (λ k. ltb k (length sample)) (rule sample r)) (length sample) tt;
      falls = each_below (λ r. every (λ k. ltb k r) (rule sample r)) (length sample) tt;
      ranked = λ r h. h;
      sorted = each_below (λ r. sorts (kind_in sample) (rule sample r)) (length sample) tt;
      labels = each_below (λ r. labelled (rule sample r)) (length sample) tt;
    }

pub sample-closed : Closed sample 7
unfolding sample kind_in closed
sample-closed = record { below = omega arith; closed_kind = tt }
