-- Document 02, Notes 5 and 8: the class and the grams that a list of rows gives a label.
use Rattle.std.specs.Prelude.{ℕ, Bool, cond, ◌&&◌, List, [], ◌∷◌, nat_le, Result, Ok, Err}
use Rattle.refusal.specs.declared.Refusal.{Refusal}
use Rattle.rule.specs.Rule.{largest_label}
use Rattle.label_rows.specs.declared.LabelRow.{LabelRow}
use Rattle.label_rows.specs.Coverage.{coverage}

-- whether a row covers a label: "lowest label, highest label"
unfoldable pub covers : LabelRow → ℕ → Bool
covers r x = nat_le r.lowest x && nat_le x r.highest

-- what stands for a row where there is none
abbrev pub no_row : LabelRow
no_row = record { lowest = 0; highest = 0; class = 0; grams = 0 }

-- the row of a label: the first that covers it
unfoldable pub row_of : List LabelRow → ℕ → LabelRow
row_of [] x = no_row
row_of (r ∷ rs) x = cond (covers r x) r (row_of rs x)

-- Note 8: "Each row of Note 5 gains grams per entry": those of an entry with a label
unfoldable pub grams_of : List LabelRow → ℕ → ℕ
unfolding row_of
grams_of rows x = (row_of rows x).grams

-- "a label above 16,777,215 is then refused with 4 at position 0"
unfoldable pub label_judged : Result Unit Refusal → ℕ → Result Unit Refusal
label_judged (Ok _) x = cond (nat_le x largest_label) (Ok tt) (Err (Refusal.Malformed 0))
label_judged (Err why) x = Err why

unfoldable pub class_in : Result Unit Refusal → List LabelRow → ℕ → Result ℕ Refusal
class_in (Ok _) rows x = Ok (row_of rows x).class
class_in (Err why) rows x = Err why

-- "It answers the class of any label when the list is sound"
unfoldable pub classed : List LabelRow → ℕ → Result ℕ Refusal
classed rows x = class_in (label_judged (coverage rows) x) rows x
