-- Document 02, Note 5: "a list of rows: lowest label, highest label, class 0 to 3": the check of such a list, row by row.
use Rattle.std.specs.Prelude.{ℕ, ◌+◌, Bool, cond, ◌||◌, List, [], ◌∷◌, nat_le, nat_lt, Result, Ok, Err}
use Rattle.refusal.specs.declared.Refusal.{Refusal}
use Rattle.rule.specs.Rule.{largest_label}
use Rattle.label_rows.specs.declared.LabelRow.{LabelRow}

-- "class 0 to 3"
abbrev pub largest_class : ℕ
largest_class = 3

-- "13, lowest above highest, highest above 16,777,215 or class above 3"
unfoldable pub invalid : LabelRow → Bool
invalid r = nat_lt r.highest r.lowest || (nat_lt largest_label r.highest || nat_lt largest_class r.class)

-- Row i, where the rows before it cover the labels below `next`, each once: "14, a gap, at the row after it .. 15, an overlap with
-- labels already covered; in each row 13 first". "The check names the first row at fault, counted from 0": a row at fault stays.
unfoldable pub extended : Result ℕ Refusal → ℕ → LabelRow → Result ℕ Refusal
extended (Ok next) i r =
    cond (invalid r) (Err (Refusal.Row i))
    (cond (nat_lt next r.lowest) (Err (Refusal.Gap i))
    (cond (nat_lt r.lowest next) (Err (Refusal.Overlap i))
    (Ok (r.highest + 1))))
extended (Err why) i r = Err why

-- past the last of n rows: "14, a gap, .. or at the number of rows"
unfoldable pub ended : Result ℕ Refusal → ℕ → Result Unit Refusal
ended (Ok next) n = cond (nat_le next largest_label) (Err (Refusal.Gap n)) (Ok tt)
ended (Err why) n = Err why

-- the rows from row i on
unfoldable pub coverage_from : Result ℕ Refusal → ℕ → List LabelRow → Result Unit Refusal
coverage_from f i [] = ended f i
coverage_from f i (r ∷ rs) = coverage_from (extended f i r) (i + 1) rs

-- "The rows are records in a lent list, in label order, and together they must cover 0 to 16,777,215 once."
unfoldable pub coverage : List LabelRow → Result Unit Refusal
coverage rows = coverage_from (Ok 0) 0 rows
