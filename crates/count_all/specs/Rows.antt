-- Where the counts lie, and what the pass over the rows leaves: a row's tops and levels behind its rule, and behind the order the nodes and
-- entries of each rule.
use Rattle.std.specs.Prelude.{◌≡◌, ℕ, ◌+◌, ◌*◌, ◌<◌, ◌≤◌, List, length, ◌≢◌}
use Rattle.words.specs.Number.{number}
use Rattle.rule.specs.declared.Rule.{Rule}
use Rattle.rule.specs.Names.{Names}
use Rattle.forest.specs.Expression.{Expression}
use Rattle.work_rows.specs.Rows.{work_length, row_length, own_end, rule_in, first_rules, Within}
use Rattle.work_rows.specs.Order.{order_end, order_in}
use Rattle.count_passes.specs.Tally.{Ready, Unfolds}
use Rattle.count_all.specs.declared.Counts.{Counts}
use Rattle.count_all.specs.Counts.{counts_of, counts_in}
use Rattle.count_all.specs.Kept.{Keeps}

-- the bytes of a 64-bit number
abbrev pub long_length : ℕ
long_length = 8

-- where the tops of rule r lie, and its nodes; each with another number behind
abbrev pub tops_at : ℕ → ℕ
tops_at r = row_length * r + own_end

abbrev pub behind_at : ℕ → ℕ → ℕ
behind_at n r = order_end n + (long_length + long_length) * r

-- where the counts of n rules end
abbrev pub counts_end : ℕ → ℕ
counts_end n = behind_at n n

-- the counts of rule r
unfoldable pub counts_at : List ℕ → ℕ → ℕ → Counts
unfolding number
counts_at t n r =
    record {
      nodes = number long_length t (behind_at n r);
      entries = number long_length t (behind_at n r + long_length);
      tops = number long_length t (tops_at r);
      levels = number long_length t (tops_at r + long_length);
    }

-- two numbers from an offset on, and nothing else has changed
pub record TwoPut (at a b : ℕ) (s t : List ℕ) : Type 0 where
  pub first : number long_length t at ≡ a
  pub second : number long_length t (at + long_length) ≡ b
  pub within : Within at (at + long_length + long_length) s t

-- the rules in the rows and their order are as they were, and nothing past the work of n rules has changed
pub record RulesKept (n : ℕ) (s t : List ℕ) : Type 0 where
  pub rules : first_rules t n ≡ first_rules s n
  pub order : order_in t n ≡ order_in s n
  pub within : Within 0 (work_length * n) s t

-- rule r has the counts c; those of the other rules, and the rules, are as they were
pub record CountsPut (n r : ℕ) (c : Counts) (s t : List ℕ) : Type 0 where
  pub written : counts_at t n r ≡ c
  pub others : (k : ℕ) → k < n → (k ≢ r) → counts_at t n k ≡ counts_at s n k
  pub kept : RulesKept n s t

-- the counts of the rules that x names lie in t
pub record Readable (t : List ℕ) (n : ℕ) (x : Rule) : Type 0 where
  pub room : counts_end n ≤ length t
  pub named : (k : ℕ) → Names x k → k < n

-- c is kept of the rule's counts, where those of the rules that it names are kept in t
pub record OfRule (t : List ℕ) (n : ℕ) (x : Rule) (c : Counts) : Type 0 where
  pub keeps : (f : ℕ → Counts) → ((k : ℕ) → Names x k → Keeps (counts_at t n k) (f k)) → Keeps c (counts_of f x)

-- the rows of n rules lie in t with their order, and there is room for the counts
pub record Passable (t : List ℕ) (n : ℕ) : Type 0 where
  pub ready : Ready t n
  pub room : work_length * n ≤ length t

-- and r is one of the rules
pub record Countable (t : List ℕ) (n r : ℕ) : Type 0 where
  pub passable : Passable t n
  pub below : r < n

-- row r has the counts of its rule
pub record RowCounted (n r : ℕ) (s t : List ℕ) : Type 0 where
  pub counts : Counts
  pub put : CountsPut n r counts s t
  pub of_rule : OfRule s n (rule_in s r) counts

-- every rule has its counts: whatever obeys the recurrence of counts is kept
pub record AllCounted (n : ℕ) (s t : List ℕ) : Type 0 where
  pub kept : RulesKept n s t
  pub counts : (f : ℕ → Counts) → ((r : ℕ) → r < n → f r ≡ counts_of f (rule_in s r)) → (r : ℕ) → r < n → Keeps (counts_at t n r) (f r)

-- c is kept of rule r's counts, whatever expressions unfold the rules in the rows
pub record Counted (n r : ℕ) (c : Counts) (s t : List ℕ) : Type 0 where
  pub kept : RulesKept n s t
  pub counts : (E : ℕ → Expression) → Unfolds s n E → Keeps c (counts_in (E r))
