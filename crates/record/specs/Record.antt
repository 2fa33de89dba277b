-- The rule's record (document 01, "A plan's bytes"; document 02, Note 2).
use Rattle.std.specs.Prelude.{ℕ, ◌+◌, ◌*◌, List, ◌++◌}
use Rattle.words.specs.Number.{number, bytes}
use Rattle.record.specs.declared.Format.{Format}
use Rattle.record.specs.declared.Record.{Record}
unfoldable pub use Rattle.record.specs.Format.{word_length, high_length, length_of_record, record_words}

-- the record whose bytes begin at an offset, and a record's bytes
unfoldable pub record_at : Format → List ℕ → ℕ → Record
unfolding number
record_at f s at =
    record {
      kind = number word_length s at;
      one = number word_length s (at + word_length);
      two = number word_length s (at + 2 * word_length);
      three = number word_length s (at + 3 * word_length);
      high = number (high_length f) s (at + 4 * word_length);
    }

unfoldable pub record_bytes : Format → Record → List ℕ
unfolding bytes
record_bytes f w =
    bytes word_length w.kind
    ++ (bytes word_length w.one
    ++ (bytes word_length w.two
    ++ (bytes word_length w.three
    ++ bytes (high_length f) w.high)))
