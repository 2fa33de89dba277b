-- After the pass the rows hold the variants of the rules in them, where the rules are sound and the words in their last column tell what may be
-- seen; the rules and their order are as before, and what is written past the rows leaves the variants. Assumes nothing.
use Prim.Native.Nat.{ℕ, ◌+◌, ◌*◌, ◌≤◌, ◌<◌}
use native.Mathlib.Omega.{arith}
use mathlib.Core.Bool.{Bool, true, false, cond}
use mathlib.Core.Path.{◌≡◌, sym, ap, ◌∙◌}
use mathlib.Core.List.{List}
use lib.Dec.{eqb}
use lib.ListN.{length}
use Rattle.rule.specs.declared.Rule.{Rule}
use Rattle.rule.specs.Sound.{rule, Sound}
use Rattle.forest.proofs.Unfold.{named-below}
use Rattle.work_rows.specs.Rows.{row_length, put_field, rule_in, first_rules, Within}
use Rattle.work_rows.proofs.Rows.{field-same, within-rule, within-rule_at}
use Rattle.work_rows.proofs.Kept.{first-length, first-rule}
use Rattle.count_passes.specs.Tally.{Ready}
use Rattle.count_passes.proofs.Ordered.{rules-besides, ready-besides}
use Rattle.copy_variants.specs.Variants.{seen_in, Varied, variants}
use Rattle.copy_variants.proofs.Table.{from-same, varied}
use Rattle.copy_rows.specs.Table.{at_whole, at_shut, at_seen, seen_at, variants_at, SeenColumn, Recurs, VariedRows}
use Rattle.copy_rows.proofs.Varying.{variants-same}

-- the rules and their order are as before the pass
pub varied-rules : {n : ℕ} {s t : List ℕ} → VariedRows n s t → first_rules t n ≡ first_rules s n
varied-rules p = rules-besides p.besides (omega arith)

module _ (v : ℕ → Bool) {rank : ℕ → ℕ} (s : List ℕ) (n : ℕ) (S : Sound (first_rules s n) rank) where
  -- the variants of the rules obey the recurrence
  recurs : SeenColumn v s n → Recurs s n (variants v (first_rules s n))
  recurs told r below =
      let long : length (first_rules s n) ≡ n = first-length s n in
      let same : rule (first_rules s n) r ≡ rule_in s r = first-rule s n r below in
      let e = varied v S r (omega arith) in
      e ∙ rw (same, told r below)

  -- so they are what the rows hold
  pub rows-variants : {t : List ℕ} → SeenColumn v s n → VariedRows n s t → (r : ℕ) → r < n → variants_at t r ≡ variants v (first_rules s n) r
  rows-variants told p r below = p.table (variants v (first_rules s n)) (recurs told) r below

-- writes past the rows
pub variants-past : {a e : ℕ} {s t : List ℕ} (n : ℕ) → row_length * n ≤ a → Within a e s t → (k : ℕ) → k < n → variants_at t k ≡ variants_at s k
variants-past {a} {e} {s} {t} n past w k below =
    variants-same s t k (within-rule w k (λ h. absurd (omega arith))) (within-rule_at w k at_whole (λ h. absurd (omega arith)))
    (within-rule_at w k at_shut (λ h. absurd (omega arith)))
