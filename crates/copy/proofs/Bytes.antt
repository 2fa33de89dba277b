-- The bytes that copy wrote, of the length that it gave, are those of the copy's rules. Assumes nothing.
use Rattle.std.specs.Prelude.{Result, Ok}
use Rattle.refusal.specs.declared.Refusal.{Refusal}
use Prim.Native.Nat.{ℕ}
use mathlib.Core.List.{List}
use mathlib.Core.Path.{◌≡◌}
use lib.ListN.{length, take, drop}
use lib.Seq.{take_at}
use Rattle.words.specs.Front.{in_front}
use Rattle.label_rows.specs.declared.LabelRow.{LabelRow}
use Rattle.copy_plan.specs.Bytes.{copy_bytes}
use Rattle.copy.specs.Copy.{Copies}

same_length : {m l : ℕ} {x : Result ℕ Refusal} → x ≡ Ok m → x ≡ Ok l → m ≡ l
same_length e f = cc

module _ {s : List ℕ} {rows : List LabelRow} {c n start : ℕ} {work work' out out' : List ℕ} {x : Result ℕ Refusal} (X : Copies s rows c n start work work' out out' x) where
  pub copy-bytes : {l : ℕ} → x ≡ Ok l → take l out' ≡ copy_bytes X.rules X.top
  unfolding in_front
  copy-bytes {l} e =
      let bs : List ℕ = copy_bytes X.rules X.top in
      rw X.writes (take_at bs (drop (length bs) out) l (same_length X.answer e))
