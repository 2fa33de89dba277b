-- The rules in the rows as a list: as long as there are rows, with the rule of each row in its place. So rows that hold the rules R keep the
-- list R, and rows with the same rules the same list. Assumes nothing.
use Prim.Native.Nat.{ℕ, zero, suc, ◌+◌, ◌<◌}
use native.Mathlib.Nat.{zero-add}
use native.Mathlib.Omega.{arith}
use mathlib.Core.Path.{◌≡◌, refl, sym, ap, ◌∙◌}
use mathlib.Core.List.{List}
use lib.ListN.{length}
use lib.Seq.{ext_get_or}
use Rattle.rule.specs.declared.Rule.{Rule}
use Rattle.rule.specs.Sound.{rule}
use Rattle.work_rows.specs.Rows.{rule_in, Holds, rules_from, first_rules}

from-length : (t : List ℕ) (i n : ℕ) → length (rules_from t i n) ≡ n
unfolding rules_from
from-length t i zero = refl
from-length t i (suc n) = ap suc (from-length t (suc i) n)

from-rule : (t : List ℕ) (i n k : ℕ) → k < n → rule (rules_from t i n) k ≡ rule_in t (i + k)
unfolding rules_from rule
from-rule t i zero k h = absurd (omega arith)
from-rule t i (suc n) zero h = ap (rule_in t) (omega arith)
from-rule t i (suc n) (suc k) h = from-rule t (suc i) n k (omega arith) ∙ ap (rule_in t) (omega arith)

pub first-length : (t : List ℕ) (n : ℕ) → length (first_rules t n) ≡ n
unfolding first_rules
first-length t n = from-length t 0 n

pub first-rule : (t : List ℕ) (n k : ℕ) → k < n → rule (first_rules t n) k ≡ rule_in t k
unfolding first_rules
first-rule t n k below = from-rule t 0 n k below ∙ ap (rule_in t) (zero-add k)

pub first_holds : (t : List ℕ) (n : ℕ) → Holds (first_rules t n) t n
unfolding Holds
first_holds t n k below = sym (first-rule t n k below)

-- rows that hold rules keep them, and keep the same where they hold the same
pub holds-first : (R : List Rule) (t : List ℕ) (n : ℕ) → length R ≡ n → Holds R t n → first_rules t n ≡ R
unfolding Holds rule
holds-first R t n long h =
    ext_get_or Rule.Empty (first_rules t n) R (first-length t n ∙ sym long)
    (λ k below. let l = first-length t n in first-rule t n k (omega arith) ∙ h k (omega arith))

pub first-same : (s t : List ℕ) (n : ℕ) → ((k : ℕ) → k < n → rule_in t k ≡ rule_in s k) → first_rules t n ≡ first_rules s n
unfolding Holds
first-same s t n same = holds-first (first_rules s n) t n (first-length s n) (λ k below. same k below ∙ sym (first-rule s n k below))
