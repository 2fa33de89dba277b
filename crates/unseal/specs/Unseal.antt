-- Document 01, "Unseal"; document 02, Note 2 (wide plans).
use Rattle.std.specs.Prelude.{ℕ, ◌*◌, cond, List, leb, Result, Ok, Err}
use Rattle.words.specs.Number.{word_count}
use Rattle.record.specs.declared.Format.{Format}
use Rattle.refusal.specs.declared.Refusal.{Refusal}
use Rattle.record.specs.Format.{length_of_record, record_words}
use Rattle.record.specs.Records.{records_bytes}
use Rattle.plan.specs.declared.Checked.{Checked}
use Rattle.plan.specs.Check.{format_of, records_of, checked}
use Rattle.words.specs.Front.{in_front}
use Rattle.unseal.specs.declared.Unsealed.{Unsealed}

-- "As check; 11: output shorter than 4 × n words"; Note 2: "2, 3 and 11 follow the new lengths", "unseal gives that length too" (the
-- record length that seal is told)
unfoldable pub words_roomed : Format → List ℕ → Result Checked Refusal → Result Unsealed Refusal
words_roomed f out (Ok x) =
    cond (leb (record_words f * x.n) (word_count out)) (Ok (record { length = (length_of_record f); n = x.n; start = x.start })) (Err Refusal.Room)
words_roomed f out (Err r) = Err r

unfoldable pub unsealed : List ℕ → List ℕ → Result Unsealed Refusal
unsealed s out = words_roomed (format_of s) out (checked s)

-- "It writes the words and gives n and start; later words stay, and refused, it writes nothing."
unfoldable pub words_after : Result Unsealed Refusal → List ℕ → List ℕ → List ℕ
unfolding in_front
words_after (Ok x) bs out = in_front bs out
words_after (Err r) bs out = out

unfoldable pub unsealed_output : List ℕ → List ℕ → List ℕ
unsealed_output s out = words_after (unsealed s out) (records_bytes (format_of s) (records_of s)) out
