-- Document 02, Note 5: what it means that rows in label order cover the labels below some label, each once, and what each answer of the
-- check then says (proofs/Once.antt, proofs/Told.antt).
use Rattle.std.specs.Prelude.{◌≡◌, ℕ, ◌+◌, ◌<◌, ◌≤◌, true, false, cond, List, [], ◌∷◌, length, get_or, take, nat_lt, slice_index_or, Result, Ok, Err}
use Rattle.refusal.specs.declared.Refusal.{Refusal}
use Rattle.rule.specs.Rule.{largest_label}
use Rattle.label_rows.specs.declared.LabelRow.{LabelRow}
use Rattle.label_rows.specs.Coverage.{invalid}
use Rattle.label_rows.specs.Class.{covers, no_row}

-- the rows that cover a label
unfoldable pub covering : List LabelRow → ℕ → List LabelRow
covering [] x = []
covering (r ∷ rs) x = cond (covers r x) (r ∷ covering rs x) (covering rs x)

-- each row of a list has a property
pub data Each (P : LabelRow → Type 0) : List LabelRow → Type 0 where
  none : Each P []
  more : {r : LabelRow} {rs : List LabelRow} → P r → Each P rs → Each P (r ∷ rs)

-- "lowest above highest, highest above 16,777,215 or class above 3": none of these
abbrev pub Valid : LabelRow → Type 0
Valid r = invalid r ≡ false

-- "in label order": no row after a row begins below it
pub data InOrder : List LabelRow → Type 0 where
  none : InOrder []
  more : {r : LabelRow} {rs : List LabelRow} → Each (λ s. r.lowest ≤ s.lowest) rs → InOrder rs → InOrder (r ∷ rs)

-- valid rows in label order that cover the labels below `next`, each once, and no other
pub record Covers (next : ℕ) (rows : List LabelRow) : Type 0 where
  pub valid : Each Valid rows
  pub order : InOrder rows
  pub once : (x : ℕ) → length (covering rows x) ≡ cond (nat_lt x next) 1 0

-- What an answer says of a list: the rows before the one named cover the labels below some label once, and the row named is wrong by
-- itself (13), or valid and begins above that label, or isn't there (14), or valid and begins below it (15).
pub data Told (rows : List LabelRow) : Result Unit Refusal → Type 0 where
  whole : Covers (largest_label + 1) rows → Told rows (Ok tt)
  row : (i next : ℕ) → i < length rows → Covers next (take i rows) → invalid (slice_index_or rows i no_row) ≡ true
      → Told rows (Err (Refusal.Row i))
  gap : (i next : ℕ) → i < length rows → Covers next (take i rows) → Valid (slice_index_or rows i no_row) → next < (get_or rows i no_row).lowest
      → Told rows (Err (Refusal.Gap i))
  end : (next : ℕ) → Covers next rows → next ≤ largest_label → Told rows (Err (Refusal.Gap (length rows)))
  overlap : (i next : ℕ) → i < length rows → Covers next (take i rows) → Valid (slice_index_or rows i no_row) → (get_or rows i no_row).lowest < next
      → Told rows (Err (Refusal.Overlap i))
