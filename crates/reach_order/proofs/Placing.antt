-- What a write to the room does: a mark and a word are new, all others stay. Assumes nothing.
use Prim.Native.Nat.{ℕ, ◌+◌, ◌*◌, ◌^◌, ◌≤◌, ◌<◌}
use native.Mathlib.Omega.{arith}
use native.Mathlib.Decide.{dec_lt}
use mathlib.Core.Path.{◌≡◌, ◌∙◌}
use mathlib.Core.List.{List}
use lib.ListN.{length}
use Rattle.record.specs.declared.Format.{Format}
use Rattle.words.specs.Number.{base}
use Rattle.words.specs.Put.{put}
use Rattle.words.specs.Within.{Within}
use Rattle.words.proofs.Laws.{length-put, put_same, put_other}
use Rattle.words.proofs.Within.{within_both, within-number-put}
use Rattle.reach_order.specs.Room.{mark_in, Ready, Placed}

-- two numbers that differ
pub apart : (P : Type 0) (i k : ℕ) → (i ≡ k → ⊥) → (i < k → P) → (k < i → P) → P
apart P i k ne low high = elim (dec_lt i k) [ yes l ↦ low l | no l ↦ elim (dec_lt k i) [ yes h ↦ high h | no h ↦ absurd (ne (omega arith)) ] ]

module _ (n k v at : ℕ) (t : List ℕ) (below : k < n) (past : 2 * n ≤ at) (fits : at + 2 ≤ 4 * n) (long : 4 * n ≤ length t) (small : v < base ^ 2) (few : k < base ^ 2) where
  first : List ℕ
  first = put 2 t (2 * k) v

  pub placed : Placed n k v at t (put 2 (put 2 t (2 * k) v) at k)
  unfolding mark_in first
  placed = record {
    own = put_other 2 2 first at k (2 * k) (λ h. absurd (omega arith)) ∙ put_same 2 t (2 * k) v (omega arith) small;
    others = λ i l ne. put_other 2 2 first at k (2 * i) (λ h. absurd (omega arith)) ∙ put_other 2 2 t (2 * k) v (2 * i) (λ h. gap i ne h);
    word = put_same 2 first at k (rw (length-put 2 t (2 * k) v) (omega arith)) few;
    words = λ b l away. put_other 2 2 first at k b away ∙ put_other 2 2 t (2 * k) v b (λ h. omega arith);
    within = within_both (within-number-put 2 t (2 * k) v 0 (4 * n) (omega arith) (omega arith)) (within-number-put 2 first at k 0 (4 * n) (omega arith) fits);
  }
    where
      gap : (i : ℕ) → (i ≡ k → ⊥) → 2 * k < 2 * i + 2 → 2 * k + 2 ≤ 2 * i
      gap i ne h = apart (2 * k + 2 ≤ 2 * i) i k ne (λ l. absurd (omega arith)) (λ l. omega arith)

-- the room stays as long
pub ready-kept : {format : Format} {s : List ℕ} {first n : ℕ} {t u : List ℕ} → Ready format s first n t → Within 0 (4 * n) t u → Ready format s first n u
ready-kept a w = record { lies = a.lies; few = a.few; ranged = a.ranged; fits = let e = w.same_length in omega (arith, a.fits) }
