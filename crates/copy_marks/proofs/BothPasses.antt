-- Both passes, one after the other: what is written are the rules of the client's copy, and the start's number is the copy's start. Assumes
-- nothing.
use Prim.Native.Nat.{ℕ, ◌<◌}
use native.Mathlib.Omega.{arith}
use mathlib.Core.Path.{◌≡◌}
use mathlib.Core.List.{List}
use lib.ListN.{length, get_or}
use Rattle.words.specs.Front.{in_front}
use Rattle.work_rows.specs.Order.{order_in}
use Rattle.copy_variants.specs.Variants.{threefold, whole_name}
use Rattle.copy_passes.specs.Passes.{Placing, copy_rules, copy_start}
use Rattle.copy_rows.specs.Table.{variants_at}
use Rattle.copy_marks.specs.Marks.{number_in, variants_in, places_in, OnlyMarks, HasMarks, Marked}
use Rattle.copy_marks.specs.Written.{wide_bytes, Written}
use Rattle.copy_marks.proofs.Marks.{kept-list, kept-order}

pub both-passes : {n start m : ℕ} {s t u out out' : List ℕ} (place : ℕ → ℕ) → Placing (variants_in s n) (places_in s n) (threefold place)
    → Marked n (whole_name start) s t → Written n t out m u out' → start < n
    → (out' ≡ in_front (wide_bytes (copy_rules (variants_at s) n (λ i. get_or (order_in s n) i 0) place start)) out)
    × (m ≡ length (copy_rules (variants_at s) n (λ i. get_or (order_in s n) i 0) place start))
    × (number_in u n (whole_name start) ≡ copy_start (variants_at s) n (λ i. get_or (order_in s n) i 0) place start)
unfolding copy_rules copy_start
both-passes {n} {start} {m} {s} {t} {u} {out} {out'} place P a b l =
    let w : OnlyMarks n s t = a.only in
    let P' : Placing (variants_in t n) (places_in t n) (threefold place) = rw (kept-list n w, kept-order n w) P in
    let h : HasMarks n (whole_name start) t t = rw (kept-list n w, kept-order n w) (a.marks (threefold place) P) in
    let (front, counted) = b.rules (whole_name start) (threefold place) P' h in (
      rw (kept-list n w, kept-order n w) at front,
      rw (kept-list n w, kept-order n w) at counted,
      rw (kept-list n w, kept-order n w) at (b.numbers (whole_name start) (threefold place) P' h (omega (arith, l))),
    )
