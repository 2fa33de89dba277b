-- Document 02, Note 6: "A client of class c must not see entries of a higher class": a word of each row of work says whether its rule's
-- label may be seen. Note 8: "grams per entry": another has the label's grams.
use Rattle.std.specs.Prelude.{ℕ, ◌+◌, ◌*◌, ◌≤◌, ◌<◌, ◌≡◌, cond, List, length, T, leb, Ok}
use Rattle.record.specs.Format.{word_length}
use Rattle.rule.specs.Rule.{labelled}
use Rattle.label_rows.specs.declared.LabelRow.{LabelRow}
use Rattle.label_rows.specs.Coverage.{coverage}
use Rattle.label_rows.specs.Class.{grams_of}
use Rattle.work_rows.specs.Rows.{row_length, field, put_field, rule_in}
use Rattle.count_passes.specs.Tally.{Besides}
use Rattle.count_weights.specs.Weights.{at_weight, weight_at, own_weight}
use Rattle.copy_variants.specs.Visible.{seen_by}
use Rattle.copy_variants.specs.Variants.{seen_in}
pub use Rattle.copy_rows.specs.Table.{at_seen}

-- "a sound list", where there is a row to look up for, and n rows whose rules have labels that it knows
pub record Annotatable (rows : List LabelRow) (n : ℕ) (s : List ℕ) : Type 0 where
  pub sound : 0 < n → coverage rows ≡ Ok tt
  pub room : row_length * n ≤ length s
  pub labels : (r : ℕ) → r < n → T (labelled (rule_in s r))

-- s with both words in row r, whose rule's label, if it has one, is of the class found and has these grams
abbrev pub marked : List ℕ → ℕ → ℕ → ℕ → ℕ → List ℕ
marked s r found grams c =
    put_field word_length (put_field word_length s r at_weight (own_weight (λ a. grams) (rule_in s r))) r at_seen
    (cond (seen_in (λ a. leb found c) (rule_in s r)) 1 0)

-- Each row below n has 1 where its rule's label may be seen by a client of class c, or there is none, and 0 where it may not; and the
-- grams of its rule's label, 0 where there is none.
pub record Annotated (rows : List LabelRow) (c n : ℕ) (s t : List ℕ) : Type 0 where
  pub besides : Besides at_weight (word_length + word_length) n s t
  pub seen : (r : ℕ) → r < n → field word_length t r at_seen ≡ cond (seen_in (seen_by rows c) (rule_in s r)) 1 0
  pub grams : (r : ℕ) → r < n → weight_at t r ≡ own_weight (grams_of rows) (rule_in s r)
