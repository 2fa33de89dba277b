-- What is printed next of a text: if its rest begins with some bytes, these come next, and the rest of it is left. Assumes nothing.
use Prim.Native.Nat.{ℕ, ◌+◌}
use native.Mathlib.Omega.{arith}
use native.Mathlib.Nat.{zero-add}
use mathlib.Core.Path.{◌≡◌, sym, ap, ◌∙◌}
use mathlib.Core.List.{List, [], ◌++◌, append-nil}
use lib.ListN.{length, take, drop}
use lib.Seq.{drop-drop, drop-append_seam, take_at, take_all, sets-eq}
use Rattle.decimal.specs.Put.{Put, Next}
use Rattle.decimal.proofs.Puts.{put-length}

module _ (text : List ℕ) (done : ℕ) (bytes rest : List ℕ) (e : drop done text ≡ bytes ++ rest) where
  -- what is left after them
  pub next-left : drop (done + length bytes) text ≡ rest
  next-left = sym (drop-drop (length bytes) done text) ∙ ap (drop (length bytes)) e ∙ drop-append_seam bytes rest

  pub next-by : Next text done bytes
  next-by = e ∙ ap (λ (l : List ℕ). bytes ++ l) (sym next-left)

-- a whole text at once
module _ {text bytes : List ℕ} (e : text ≡ bytes) where
  all-at-once : drop 0 text ≡ bytes ++ []
  all-at-once = e ∙ sym (append-nil bytes)

  pub next-all : Next text 0 bytes
  next-all = next-by text 0 bytes [] all-at-once

  pub none_left : {end : ℕ} → end ≡ 0 + length bytes → drop end text ≡ []
  none_left q = ap (λ (k : ℕ). drop k text) q ∙ next-left text 0 bytes [] all-at-once

-- a text put at the front of a slice, read back
pub put_front : {text s t : List ℕ} {end : ℕ} → Put text 0 s t end → take end t ≡ text
put_front {text} {s} {t} {end} P =
    ap (take end) (P.stored ∙ sets-eq text s 0 P.room) ∙ take_at text (drop (0 + length text) s) end (sym (P.ends ∙ zero-add (length text)))

-- and how many bytes that is
pub put-taken : {text s t : List ℕ} {end : ℕ} → Put text 0 s t end → end ≡ length (take end t)
put-taken P = P.ends ∙ zero-add _ ∙ ap length (sym (put_front P))

-- a text that fills the slice
pub put-filled : {text s t : List ℕ} {end : ℕ} → length s ≡ length text → Put text 0 s t end → t ≡ text
put-filled {t = t} {end} e P = let l = put-length P in sym (take_all end t (omega arith)) ∙ put_front P
