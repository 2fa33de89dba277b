-- The order in which the rules are gone through, kept behind the rows: a word for each place, so that each rule comes after those that
-- it names.
use Rattle.std.specs.Prelude.{ℕ, ◌+◌, ◌*◌, List}
use Rattle.words.specs.Words.{words_at}
use Rattle.record.specs.Record.{word_length}
use Rattle.work_rows.specs.Rows.{row_length}

-- where the order begins and ends: behind the rows, and behind a word a rule that a search uses
abbrev pub order_at : ℕ → ℕ
order_at n = row_length * n + word_length * n

abbrev pub order_end : ℕ → ℕ
order_end n = order_at n + word_length * n

-- the order of n rules
unfoldable pub order_in : List ℕ → ℕ → List ℕ
order_in t n = words_at t (order_at n) n
