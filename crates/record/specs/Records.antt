-- Records one after another (document 01, "A plan's bytes": "n rules of 8 bytes", "Rules are numbered from 0").
use Rattle.std.specs.Prelude.{ℕ, zero, suc, ◌+◌, List, [], ◌∷◌, ◌++◌, get_or}
use Rattle.record.specs.declared.Format.{Format}
use Rattle.record.specs.declared.Record.{Record}
use Rattle.record.specs.Format.{length_of_record}
use Rattle.record.specs.Record.{record_at, record_bytes}

-- the records of n rules from an offset on
unfoldable pub records_from : Format → List ℕ → ℕ → ℕ → List Record
unfolding record_at
records_from f s at zero = []
records_from f s at (suc n) = record_at f s at ∷ records_from f s (at + length_of_record f) n

-- the bytes of records
unfoldable pub records_bytes : Format → List Record → List ℕ
unfolding record_bytes
records_bytes f [] = []
records_bytes f (w ∷ ws) = record_bytes f w ++ records_bytes f ws

-- the kind of the record with a number
no_record : Record
no_record = record { kind = 0; one = 0; two = 0; three = 0; high = 0 }

unfoldable pub record_in : List Record → ℕ → Record
unfolding no_record
record_in ws i = get_or ws i no_record

unfoldable pub kind_at : List Record → ℕ → ℕ
unfolding record_in
kind_at ws i = (record_in ws i).kind
