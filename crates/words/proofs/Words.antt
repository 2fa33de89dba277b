-- Laws of words one after another: how many, the word with a number, and words that are the same one by one. Assumes nothing.
use Prim.Native.Nat.{ℕ, zero, suc, ◌+◌, ◌*◌, ◌<◌}
use native.Mathlib.Omega.{arith}
use mathlib.Core.Path.{◌≡◌, refl, sym, ap, ap₂, ◌∙◌}
use mathlib.Core.List.{List, ◌∷◌}
use lib.ListN.{length, get_or}
use Rattle.words.specs.Number.{number}
use Rattle.words.specs.Words.{words_at}

pub length-words : (t : List ℕ) (at n : ℕ) → length (words_at t at n) ≡ n
unfolding words_at
length-words t at zero = refl
length-words t at (suc n) = ap suc (length-words t (at + 2) n)

pub word_at : (t : List ℕ) (at n i : ℕ) → i < n → get_or (words_at t at n) i 0 ≡ number 2 t (at + 2 * i)
unfolding words_at
word_at t at zero i l = absurd (omega arith)
word_at t at (suc n) zero l = let e : at + 2 * 0 ≡ at = omega arith in ap (number 2 t) (sym e)
word_at t at (suc n) (suc i) l =
    let e : at + 2 + 2 * i ≡ at + 2 * suc i = omega arith in
    word_at t (at + 2) n i (omega arith) ∙ ap (number 2 t) e

-- words that are the same one by one
pub words_same : (s t : List ℕ) (at n : ℕ) → ((i : ℕ) → i < n → number 2 t (at + 2 * i) ≡ number 2 s (at + 2 * i)) → words_at t at n ≡ words_at s at n
unfolding words_at
words_same s t at zero h = refl
words_same s t at (suc n) h =
    let z : at + 2 * 0 ≡ at = omega arith in
    ap₂ (λ (v : ℕ) (l : List ℕ). v ∷ l) (rw z at (h 0 (omega arith)))
    (words_same s t (at + 2) n (λ i l. let e : at + 2 + 2 * i ≡ at + 2 * suc i = omega arith in rw e (h (suc i) (omega arith))))
