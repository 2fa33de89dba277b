-- The column holds the trees of each rule's expression: those of expressions obey the recurrence, and a pass leaves the rules as they are.
-- Assumes nothing.
use Prim.Native.Nat.{ℕ, ◌+◌}
use native.Mathlib.Omega.{arith}
use mathlib.Core.Path.{◌≡◌, refl, ap, ◌∙◌}
use mathlib.Core.List.{List}
use lib.ListN.{length}
use Rattle.rule.specs.declared.Rule.{Rule}
use Rattle.rule.specs.Sound.{rule, Sound}
use Rattle.forest.specs.Expression.{Expression, expression, rhs}
use Rattle.forest.proofs.Unfold.{unfolding-equation}
use Rattle.work_rows.specs.Rows.{first_rules}
use Rattle.work_rows.proofs.Kept.{first-length, first-rule}
use Rattle.count_passes.proofs.Ordered.{rules-besides}
use Rattle.transfer_path.specs.Spot.{tops}
use Rattle.tops_rows.specs.Tops.{tops_of, TopsRecur, Topped, TopsKept}

tops-rhs : (r : ℕ) (x : Rule) (E : ℕ → Expression) → tops (rhs r x E) ≡ tops_of ◌+◌ (λ k. tops (E k)) x
unfolding tops rhs tops_of
tops-rhs r Rule.Empty E = refl
tops-rhs r (Rule.Pair b c) E = refl
tops-rhs r (Rule.Node a c) E = refl
tops-rhs r (Rule.Fill b c) E = refl
tops-rhs r (Rule.Part a b c) E = refl
tops-rhs r (Rule.Join b c) E = refl

tops-recur : {rank : ℕ → ℕ} (s : List ℕ) (n : ℕ) → Sound (first_rules s n) rank → TopsRecur s n (λ k. tops (expression (first_rules s n) k))
tops-recur s n S r below =
    let long : length (first_rules s n) ≡ n = first-length s n in
    rw (← (first-rule s n r below))
    (ap tops (unfolding-equation S r (omega arith)) ∙ tops-rhs r (rule (first_rules s n) r) (expression (first_rules s n)))

-- the rules are as before the pass
pub topped-rules : {n : ℕ} {s t : List ℕ} → Topped n s t → first_rules t n ≡ first_rules s n
topped-rules p = rules-besides p.besides (omega arith)

-- so after it the column holds the trees of expressions
pub tops-kept : {rank : ℕ → ℕ} {s t : List ℕ} {n : ℕ} → Sound (first_rules s n) rank → Topped n s t → TopsKept t n
tops-kept {s = s} {n = n} S p =
    record { tells = λ k below. rw (topped-rules p) (p.column (λ j. tops (expression (first_rules s n) j)) (tops-recur s n S) k below) }
