-- The library's methods on the bytes of a number say what this crate's definitions say: `to_le_bytes` gives the bytes of a number, by the law
-- that dividing twice is dividing by the product, and a part's number is that of the list at its offset. Assumes nothing.
use Prim.Native.Nat.{ℕ, zero, suc, ◌+◌, ◌-◌, ◌/◌, ◌%◌, ◌^◌}
use native.Mathlib.Nat.{zero-add, div-div-eq-div-mul, pow-suc}
use native.Mathlib.Omega.{arith}
use mathlib.Core.Path.{◌≡◌, refl, sym, ap, ap₂, ◌∙◌}
use mathlib.Core.List.{List, ◌∷◌}
use lib.ListN.{take, drop}
use lib.Seq.{get_or-take, get_or-drop}
use Rattle.std.specs.Int.{byte_at, bytes_low_first}
use Rattle.words.specs.Number.{base, number, bytes}
use Rattle.words.proofs.Laws.{number-agrees}

-- the byte with a number, and the bytes from one on
byte : (i v : ℕ) → byte_at i v ≡ v / base ^ i % base
byte zero v = omega arith
byte (suc i) v = refl

bytes-from : (w i v : ℕ) → bytes_low_first i w v ≡ bytes w (v / base ^ i)
unfolding bytes
bytes-from zero i v = refl
bytes-from (suc w) i v =
    let next : v / base ^ suc i ≡ v / base ^ i / base = rw pow-suc (sym (div-div-eq-div-mul v (base ^ i) base)) in
    ap₂ (λ (x : ℕ) (l : List ℕ). x ∷ l) (byte i v) (bytes-from w (suc i) v ∙ ap (bytes w) next)

pub low_first_bytes : (w v : ℕ) → bytes_low_first 0 w v ≡ bytes w v
low_first_bytes w v = bytes-from w 0 v ∙ ap (bytes w) (omega arith)

-- a number in a part of w bytes
pub number-part : (w : ℕ) (s : List ℕ) (at : ℕ) → number w (take (at + w - at) (drop at s)) 0 ≡ number w s at
number-part w s at =
    number-agrees w (take (at + w - at) (drop at s)) s 0 at
    (λ i below. rw zero-add (get_or-take (at + w - at) (drop at s) i 0 (omega arith) ∙ get_or-drop at s i 0))
