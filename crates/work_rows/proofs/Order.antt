-- The order behind the rows: a word for each place, which stays where nothing there has changed, and one word more of the numbers in
-- their order. Assumes nothing.
use Prim.Native.Nat.{ℕ, zero, suc, ◌+◌, ◌*◌, ◌≤◌, ◌<◌}
use native.Mathlib.Omega.{arith}
use mathlib.Core.Path.{◌≡◌, refl, sym, ap₂, ◌∙◌}
use mathlib.Core.List.{List, ◌∷◌}
use mathlib.Core.Logic.{◌⊎◌, inl, inr}
use native.Mathlib.Decide.{dec_lt}
use lib.ListN.{length, get_or}
use Rattle.words.specs.Number.{number}
use Rattle.words.specs.Put.{put}
use Rattle.record.specs.Record.{word_length}
use Rattle.reach.specs.Order.{numbers_from}
use Rattle.work_rows.specs.Rows.{Within}
use Rattle.words.proofs.Laws.{put_same, put_other}
use Rattle.work_rows.proofs.Rows.{within_none, within_both, within-number, within-number-put}
use Rattle.work_rows.specs.Order.{order_at, order_end, order_in}
use Rattle.words.specs.Words.{words_at}
use Rattle.words.proofs.Words.{length-words, word_at, words_same}

-- words that are given numbers one by one
pub words-numbers : (t : List ℕ) (at k n : ℕ) → ((i : ℕ) → i < n → number word_length t (at + word_length * i) ≡ k + i) → words_at t at n ≡ numbers_from k n
unfolding words_at numbers_from
words-numbers t at k zero h = refl
words-numbers t at k (suc n) h =
    let z : at + word_length * 0 ≡ at = omega arith in
    let y : k + 0 ≡ k = omega arith in
    ap₂ (λ (v : ℕ) (l : List ℕ). v ∷ l) (rw (z, y) at (h 0 (omega arith)))
    (words-numbers t (at + word_length) (suc k) n
    (λ i l. let e : at + word_length + word_length * i ≡ at + word_length * suc i = omega arith in let f : suc k + i ≡ k + suc i = omega arith in rw (e, f) (h (suc i) (omega arith))))

pub order-word : (t : List ℕ) (n i : ℕ) → i < n → get_or (order_in t n) i 0 ≡ number word_length t (order_at n + word_length * i)
unfolding order_in
order-word t n i l = word_at t (order_at n) n i l

-- an order outside a frame stays
pub order-kept : {a e : ℕ} {s t : List ℕ} → Within a e s t → (n : ℕ) → (e ≤ order_at n) ⊎ (order_end n ≤ a) → order_in t n ≡ order_in s n
unfolding order_in
order-kept {a} {e} {s} {t} w n apart =
    words_same s t (order_at n) n (λ i l. within-number w word_length (order_at n + word_length * i) (λ h. outside apart i l h))
  where
    outside : (e ≤ order_at n) ⊎ (order_end n ≤ a) → (i : ℕ) → i < n → a < order_at n + word_length * i + word_length → e ≤ order_at n + word_length * i
    outside (inl q) i l h = omega arith
    outside (inr q) i l h = absurd (omega arith)

-- the first i places of the order hold their numbers, and nothing else has changed
pub record Numbered (n i : ℕ) (s t : List ℕ) : Type 0 where
  pub numbers : (k : ℕ) → k < i → number word_length t (order_at n + word_length * k) ≡ k
  pub within : Within (order_at n) (order_end n) s t

pub numbered-none : (n : ℕ) (s : List ℕ) → Numbered n 0 s s
numbered-none n s = record { numbers = λ k l. absurd (omega arith); within = within_none (order_at n) (order_end n) s }

pub numbered_more : {n i : ℕ} {s t u : List ℕ} → i < n → n ≤ 65536 → order_end n ≤ length s → Numbered n i s t → u ≡ put word_length t (order_at n + word_length * i) i → Numbered n (i + 1) s u
numbered_more {n} {i} {s} {t} {u} l few room z e =
    record {
      numbers = λ k below. rw e (elim (dec_lt k i) as (λ (d : Dec (k < i)). number word_length next (order_at n + word_length * k) ≡ k) [
        | yes q ↦ put_other word_length word_length t (order_at n + word_length * i) i (order_at n + word_length * k) (λ h. absurd (omega arith)) ∙ z.numbers k q
        | no q ↦ let e : k ≡ i = omega arith in rw e (put_same word_length t (order_at n + word_length * i) i (let long = z.within.same_length in omega arith) (omega arith))
      ]);
      within = within_both z.within (rw e (within-number-put word_length t (order_at n + word_length * i) i (order_at n) (order_end n) (omega arith) (omega arith)));
    }
  where
    next : List ℕ
    next = put word_length t (order_at n + word_length * i) i

pub numbered-all : {n : ℕ} {s t : List ℕ} → Numbered n n s t → order_in t n ≡ numbers_from 0 n
unfolding order_in
numbered-all {n} {s} {t} z = words-numbers t (order_at n) 0 n (λ i l. let e : 0 + i ≡ i = omega arith in z.numbers i l ∙ sym e)
