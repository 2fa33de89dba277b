-- The plans that the bench trials are run on (document 02, Note 14): "every byte-label plan without cover with n of 1 to 3, labels only 0,
-- whose rules name lower rules only".
use Rattle.std.specs.Prelude.{ℕ, ◌+◌, ◌*◌, ◌≤◌, ◌<◌, ◌≡◌, List, length, get_or, T, Ok}
use Rattle.words.specs.Number.{base}
use Rattle.record.specs.declared.Format.{Format}
use Rattle.record.specs.Format.{length_of_record}
use Rattle.rule.specs.Rule.{labelled_to}
use Rattle.rule.specs.Sound.{rule, Lower}
use Rattle.plan.specs.Check.{trailer_length, format_of, rules_of, checked}

-- "n of 1 to 3"
abbrev pub most_listed : ℕ
most_listed = 3

pub record Small (s : List ℕ) : Type 0 where
  pub n : ℕ
  pub start : ℕ
  -- "plan": bytes that check accepts, so with n of at least 1
  pub bytes : (i : ℕ) → get_or s i 0 < base
  pub accepted : checked s ≡ Ok (record { n = n; start = start })
  pub few : n ≤ most_listed
  -- "byte-label": the format whose labels are a byte
  pub byte_label : format_of s ≡ Format.Narrow
  -- "without cover"
  pub no_prefix : length s ≡ length_of_record (format_of s) * n + trailer_length
  -- "labels only 0"
  pub zero_labels : (r : ℕ) → r < length (rules_of s) → T (labelled_to 0 (rule (rules_of s) r))
  -- "whose rules name lower rules only"
  pub lower : Lower (rules_of s)
