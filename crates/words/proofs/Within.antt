-- Laws of frames: equal bytes before and after what has changed, so a number that lies outside stays. Assumes nothing.
use Prim.Native.Nat.{ℕ, zero, suc, ◌+◌, ◌-◌, ◌≤◌, ◌<◌}
use mathlib.Core.Path.{◌≡◌, refl, sym, ap, ◌∙◌}
use mathlib.Core.List.{List, ◌++◌}
use native.Mathlib.Omega.{arith}
use native.Mathlib.Decide.{dec_lt}
use lib.ListN.{length, get_or, take, drop, replicate, length-replicate, get_or-replicate, get_or-append}
use lib.Seq.{get_or-take, get_or-drop, take-take, drop-drop, drop_at}
use Rattle.words.specs.Number.{number}
use Rattle.words.specs.Put.{put}
use Rattle.words.specs.Front.{cleared}
use Rattle.words.specs.Within.{Within}
use Rattle.words.proofs.Laws.{number-agrees, length-put, put-take, put-drop}
use Rattle.words.proofs.Front.{length-cleared}

-- the frame: nothing changed, two changes one after the other, a wider frame, one write
pub within_none : (a e : ℕ) (s : List ℕ) → Within a e s s
within_none a e s = record { same_length = refl; same_before = refl; same_after = refl }

pub within_both : {a e : ℕ} {s t u : List ℕ} → Within a e s t → Within a e t u → Within a e s u
within_both p q =
    record {
      same_length = q.same_length ∙ p.same_length;
      same_before = q.same_before ∙ p.same_before;
      same_after = q.same_after ∙ p.same_after;
    }

pub within_wider : {a e : ℕ} {s t : List ℕ} (a' e' : ℕ) → a' ≤ a → e ≤ e' → Within a e s t → Within a' e' s t
within_wider {a} {e} {s} {t} a' e' low high p =
    record {
      same_length = p.same_length;
      same_before = sym (take-take a' a t low) ∙ ap (take a') p.same_before ∙ take-take a' a s low;
      same_after = further t ∙ ap (drop (e' - e)) p.same_after ∙ sym (further s);
    }
  where
    further : (x : List ℕ) → drop e' x ≡ drop (e' - e) (drop e x)
    further x = let k : e + (e' - e) ≡ e' = omega arith in rw (drop-drop (e' - e) e x, k)

pub within-number-put : (w : ℕ) (t : List ℕ) (at v a e : ℕ) → a ≤ at → at + w ≤ e → Within a e t (put w t at v)
within-number-put w t at v a e low high =
    record { same_length = length-put w t at v; same_before = put-take w t at v a low; same_after = put-drop w t at v e high }

-- a byte outside a frame stays, and so does a number
within-byte : {a e : ℕ} {s t : List ℕ} → Within a e s t → (i : ℕ) → (a ≤ i → e ≤ i) → get_or t i 0 ≡ get_or s i 0
within-byte {a} {e} {s} {t} p i apart =
    elim (dec_lt i a) as (λ (d : Dec (i < a)). get_or t i 0 ≡ get_or s i 0) [
      | yes below ↦ sym (get_or-take a t i 0 below) ∙ ap (λ (l : List ℕ). get_or l i 0) p.same_before ∙ get_or-take a s i 0 below
      | no above ↦ let past : e ≤ i = apart (omega arith) in let k : e + (i - e) ≡ i = omega arith in
          ap (λ (j : ℕ). get_or t j 0) (sym k)
          ∙ sym (get_or-drop e t (i - e) 0)
          ∙ ap (λ (l : List ℕ). get_or l (i - e) 0) p.same_after
          ∙ get_or-drop e s (i - e) 0
          ∙ ap (λ (j : ℕ). get_or s j 0) k
    ]

pub within-number : {a e : ℕ} {s t : List ℕ} → Within a e s t → (w at : ℕ) → (a < at + w → e ≤ at) → number w t at ≡ number w s at
within-number {a} {e} {s} {t} p w at apart = number-agrees w t s at at (λ i below. within-byte p (at + i) (λ h. let f : e ≤ at = apart (omega arith) in omega arith))

-- zeros at the front: nothing past them has changed, and numbers among them are 0
pub within-cleared : (m : ℕ) (s : List ℕ) → m ≤ length s → Within 0 m s (cleared m s)
unfolding cleared
within-cleared m s fits =
    record { same_length = length-cleared m s fits; same_before = refl; same_after = drop_at (replicate m 0) (drop m s) m (length-replicate m 0) }

zero-byte : (m i : ℕ) (s : List ℕ) → i < m → get_or (replicate m 0 ++ s) i 0 ≡ 0
zero-byte m i s l = get_or-append (replicate m 0) s 0 i (rw (length-replicate {A = ℕ} m 0) l) ∙ get_or-replicate m i 0 0 l

pub cleared-number : (w m : ℕ) (s : List ℕ) (at : ℕ) → at + w ≤ m → number w (cleared m s) at ≡ 0
unfolding cleared number
cleared-number zero m s at fits = refl
cleared-number (suc w) m s at fits = rw (zero-byte m at (drop m s) (omega arith)) (let rest = cleared-number w m s (suc at) (omega arith) in omega arith)
