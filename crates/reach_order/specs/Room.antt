-- The room that a search is lent: a mark for each of n rules, then n words more.
use Rattle.std.specs.Prelude.{ℕ, suc, ◌+◌, ◌-◌, ◌*◌, ◌≤◌, ◌<◌, ◌≡◌, List, length}
use Rattle.words.specs.Number.{number}
use Rattle.words.specs.Within.{Within}
use Rattle.record.specs.declared.Format.{Format}
use Rattle.record.specs.declared.RuleRecords.{RuleRecords}
use Rattle.record.specs.Format.{length_of_record}
use Rattle.record.specs.Records.{records_from}
use Rattle.rule.specs.declared.Rule.{Rule}
use Rattle.rule.specs.Rule.{rules_in}
use Rattle.reach.specs.Order.{Ranged}
use Rattle.reach_order.specs.Named.{Named, In}

-- n rules whose records begin at an offset
abbrev pub rules_at : Format → List ℕ → ℕ → ℕ → List Rule
rules_at format s first n = rules_in format (records_from format s first n)

-- those that are lent together
abbrev pub rules_lent : RuleRecords → List Rule
rules_lent r = rules_at r.format r.bytes.now r.first r.n

-- the mark of rule i
unfoldable pub mark_in : List ℕ → ℕ → ℕ
mark_in t i = number 2 t (2 * i)

-- The words past the marks: from their front on one after another, and from their back. The order grows from the front and the stack from
-- the back: they never meet, since a rule is in one of them alone.
unfoldable pub front_in : ℕ → List ℕ → ℕ → ℕ
front_in n t j = number 2 t (2 * n + 2 * j)

unfoldable pub back_in : ℕ → List ℕ → ℕ → ℕ
back_in n t j = number 2 t (4 * n - 2 * suc j)

-- the named rules have marks
abbrev pub Marked : Named → List ℕ → Type 0
Marked d t = (k : ℕ) → In d k → 2 * k + 2 ≤ length t

-- what every search asks for: the records lie in the slice, the rules name rules, and there is room for two words a rule
pub record Ready (format : Format) (s : List ℕ) (first n : ℕ) (room : List ℕ) : Type 0 where
  pub lies : first + length_of_record format * n ≤ length s
  pub few : n ≤ 16384
  pub ranged : Ranged (rules_at format s first n)
  pub fits : 4 * n ≤ length room

abbrev pub ReadyFor : RuleRecords → List ℕ → Type 0
ReadyFor r room = Ready r.format r.bytes.now r.first r.n room

-- rule k has the mark v, the word at an offset is k, and no other mark or word has changed
pub record Placed (n k v at : ℕ) (t u : List ℕ) : Type 0 where
  pub own : mark_in u k ≡ v
  pub others : (i : ℕ) → i < n → (i ≡ k → ⊥) → mark_in u i ≡ mark_in t i
  pub word : number 2 u at ≡ k
  pub words : (b : ℕ) → 2 * n ≤ b → (at < b + 2 → at + 2 ≤ b) → number 2 u b ≡ number 2 t b
  pub within : Within 0 (4 * n) t u
