-- Where the counts lie: a row's tops and levels behind its rule, its nodes and entries behind the order, so what is written for one rule leaves
-- the rules, the order and the counts of the others. Assumes nothing.
use Rattle.std.proofs.Common.{◌≡◌, ℕ, ◌+◌, ◌*◌, ◌<◌, ◌≤◌, List, length, sym, refl, ap, ◌∙◌, inl, inr, arith}
use Rattle.words.specs.Number.{number}
use Rattle.words.specs.Put.{put}
use Rattle.words.proofs.Laws.{length-put, put_same, put_other}
use Rattle.rule.specs.declared.Rule.{Rule}
use Rattle.rule.specs.Sound.{rule}
use Rattle.work_rows.specs.Rows.{work_length, rule_in}
use Rattle.work_rows.proofs.Rows.{within_none, within_both, within_wider, within-number, within-number-put, within-rule}
use Rattle.work_rows.proofs.Kept.{first-rule, first-same}
use Rattle.work_rows.proofs.Order.{order-kept}
use Rattle.count_capped.specs.Count.{count_limit}
use Rattle.count_all.specs.declared.Counts.{Counts}
use Rattle.count_all.specs.Rows.{long_length, tops_at, behind_at, counts_at, TwoPut, RulesKept, CountsPut, Passable}

-- two numbers, one after another
pub two-put : (s : List ℕ) {t u : List ℕ} (at a b : ℕ) → at + long_length + long_length ≤ length s → a < count_limit → b < count_limit → t ≡ put long_length s at a
    → u ≡ put long_length t (at + long_length) b → TwoPut at a b s u
two-put s {t} {u} at a b fits small-a small_b p q =
    let long : length t ≡ length s = ap length p ∙ length-put long_length s at a in
    rw q
    (record {
      first =
          put_other long_length long_length t (at + long_length) b at (λ h. absurd (omega arith))
          ∙ ap (λ (l : List ℕ). number long_length l at) p
          ∙ put_same long_length s at a (omega arith) small-a;
      second = put_same long_length t (at + long_length) b (omega arith) small_b;
      within =
          within_both
          (rw p (within-number-put long_length s at a at (at + long_length + long_length) (omega arith) (omega arith)))
          (within-number-put long_length t (at + long_length) b at (at + long_length + long_length) (omega arith) (omega arith));
    })

-- what is kept
pub kept-none : (n : ℕ) (s : List ℕ) → RulesKept n s s
kept-none n s = record { rules = refl; order = refl; within = within_none 0 (work_length * n) s }

pub kept-both : {n : ℕ} {s t u : List ℕ} → RulesKept n s t → RulesKept n t u → RulesKept n s u
kept-both p q = record { rules = q.rules ∙ p.rules; order = q.order ∙ p.order; within = within_both p.within q.within }

pub kept_rule_lem : {n : ℕ} {s t : List ℕ} → RulesKept n s t → (r : ℕ) → r < n → rule_in t r ≡ rule_in s r
kept_rule_lem {n} {s} {t} p r below = sym (first-rule t n r below) ∙ ap (λ (R : List Rule). rule R r) p.rules ∙ first-rule s n r below

pub kept-passable : {n : ℕ} {s t : List ℕ} → RulesKept n s t → Passable s n → Passable t n
kept-passable {n} {s} {t} p a =
    let long : length t ≡ length s = p.within.same_length in
    record {
      ready =
          record {
            room = omega (arith, a.ready.room);
            ranged = rw p.rules a.ready.ranged;
            order = rw (p.rules, p.order) a.ready.order;
          };
      room = omega (arith, a.room);
    }

-- the four counts of a rule, written behind the order and into the row
module _ {n r : ℕ} {c : Counts} {s t u : List ℕ} (below : r < n) (p : TwoPut (behind_at n r) c.nodes c.entries s t) (q : TwoPut (tops_at r) c.tops c.levels t u) where
  behind-kept : (at : ℕ) → behind_at n r ≤ at → number long_length u at ≡ number long_length t at
  behind-kept at h = within-number q.within long_length at (λ l. omega arith)

  counts-written : counts_at u n r ≡ c
  unfolding counts_at
  counts-written = λ i.
      record {
        nodes = (behind-kept (behind_at n r) (omega arith) ∙ p.first) i;
        entries = (behind-kept (behind_at n r + long_length) (omega arith) ∙ p.second) i;
        tops = q.first i;
        levels = q.second i;
      }

  -- a number that lies apart from both
  number-kept : (at : ℕ) → (behind_at n r < at + long_length → behind_at n r + long_length + long_length ≤ at)
      → (tops_at r < at + long_length → tops_at r + long_length + long_length ≤ at) → number long_length u at ≡ number long_length s at
  number-kept at f g = within-number q.within long_length at g ∙ within-number p.within long_length at f

  counts-others : (k : ℕ) → k < n → (k ≡ r → ⊥) → counts_at u n k ≡ counts_at s n k
  unfolding counts_at
  counts-others k inside ne = λ i.
      record {
        nodes = number-kept (behind_at n k) (λ h. omega arith) (λ h. omega arith) i;
        entries = number-kept (behind_at n k + long_length) (λ h. omega arith) (λ h. omega arith) i;
        tops = number-kept (tops_at k) (λ h. absurd (omega arith)) (λ h. omega arith) i;
        levels = number-kept (tops_at k + long_length) (λ h. absurd (omega arith)) (λ h. omega arith) i;
      }

  rules-kept : RulesKept n s u
  rules-kept =
      record {
        rules =
            first-same s u n
            (λ k inside. within-rule q.within k (λ h. omega arith) ∙ within-rule p.within k (λ h. absurd (omega arith)));
        order = order-kept q.within n (inl (omega arith)) ∙ order-kept p.within n (inr (omega arith));
        within =
            within_both (within_wider 0 (work_length * n) (omega arith) (omega arith) p.within)
            (within_wider 0 (work_length * n) (omega arith) (omega arith) q.within);
      }

  pub counts-put : CountsPut n r c s u
  counts-put = record { written = counts-written; others = counts-others; kept = rules-kept }

-- the four counts of a rule, read where they lie
pub counts-read : (t : List ℕ) (n r : ℕ) {at x y z w : ℕ} → at ≡ behind_at n r → x ≡ number long_length t at → y ≡ number long_length t (at + long_length)
    → z ≡ number long_length t (tops_at r) → w ≡ number long_length t (tops_at r + long_length)
    → record { nodes = x; entries = y; tops = z; levels = w } ≡ counts_at t n r
unfolding counts_at
counts-read t n r e p q u v = λ i.
    record {
      nodes = (p ∙ ap (number long_length t) e) i;
      entries = (q ∙ ap (λ (m : ℕ). number long_length t (m + long_length)) e) i;
      tops = u i;
      levels = v i;
    }
