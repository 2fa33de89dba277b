-- The recurrence over rules is that over expressions, so the counts kept for a rule are those of its expression. Assumes nothing.
use Rattle.std.proofs.Common.{◌≡◌, ℕ, ◌<◌, List, refl}
use Rattle.rule.specs.declared.Rule.{Rule}
use Rattle.forest.specs.Expression.{Expression, rhs}
use Rattle.work_rows.specs.Rows.{rule_in}
use Rattle.count_all.specs.declared.Counts.{Counts}
use Rattle.count_all.specs.Counts.{counts_of, counts_in}
use Rattle.count_all.specs.Rows.{counts_at, AllCounted, Counted}

counts-rhs : (r : ℕ) (E : ℕ → Expression) (x : Rule) → counts_in (rhs r x E) ≡ counts_of (λ k. counts_in (E k)) x
unfolding counts_in counts_of rhs
counts-rhs r E Rule.Empty = refl
counts-rhs r E (Rule.Pair b c) = refl
counts-rhs r E (Rule.Node a c) = refl
counts-rhs r E (Rule.Fill b c) = refl
counts-rhs r E (Rule.Part a b c) = refl
counts-rhs r E (Rule.Join b c) = refl

pub counted : {n r : ℕ} {c : Counts} {s t : List ℕ} → r < n → AllCounted n s t → c ≡ counts_at t n r → Counted n r c s t
counted {n} {r} {c} {s} below p e =
    record {
      kept = p.kept;
      counts = λ E u.
          rw e (p.counts (λ k. counts_in (E k)) (λ k inside. rw (u.unfolds k inside) (counts-rhs k E (rule_in s k))) r below);
    }
