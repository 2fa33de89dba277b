-- Laws of numbers in a list of bytes, each over the width w. A number looks only at its own w bytes, so all that is said of other lists
-- and offsets follows from one law, `number-agrees`; what a number's bytes give back is division with remainder by 256, once for each byte.
-- Assumes nothing.
use Prim.Native.Nat.{ℕ, zero, suc, ◌+◌, ◌*◌, ◌/◌, ◌%◌, ◌^◌, ◌≤◌, ◌<◌}
use mathlib.Core.Path.{◌≡◌, refl, sym, ap, ap₂, ◌∙◌}
use mathlib.Core.List.{List, [], ◌∷◌, ◌++◌, append_assoc}
use native.Mathlib.Nat.{add-zero, add-suc, suc-add, add_assoc, pow-suc}
use native.Mathlib.Numerals.{add-two, add-four, add_six}
use native.Mathlib.Omega.{arith}
use lib.ListN.{length, get_or, take, drop, set, length-append, length-drop, take-append-drop}
use lib.Seq.{sets-eq, length-sets, length-take-le, get_or-append-add, get_or-set_other, get_or-take, drop-cons, take-set-le, drop-set-lt, take-append_seam, drop-append-add, drop-drop}
use Rattle.words.specs.Number.{base, number, bytes}
use Rattle.words.specs.Put.{put}

-- a number depends only on its own bytes
pub number-agrees : (w : ℕ) (s t : List ℕ) (at to : ℕ) → ((i : ℕ) → i < w → get_or s (at + i) 0 ≡ get_or t (to + i) 0)
    → number w s at ≡ number w t to
unfolding number
number-agrees zero s t at to same = refl
number-agrees (suc w) s t at to same =
    let first : get_or s at 0 ≡ get_or t to 0 = simp add-zero at (same 0 (omega arith)) in
    let rest : number w s (suc at) ≡ number w t (suc to) =
    number-agrees w s t (suc at) (suc to) (λ i below. rw (suc-add at i, suc-add to i, ← add-suc at i, ← add-suc to i) (same (suc i) (omega arith))) in
    omega arith

pub number-after : (w : ℕ) (p s : List ℕ) (at : ℕ) → number w (p ++ s) (length p + at) ≡ number w s at
number-after w p s at = number-agrees w (p ++ s) s (length p + at) at (λ i below. rw add_assoc (get_or-append-add p s (at + i) 0))

pub number-take : (w : ℕ) (n : ℕ) (s : List ℕ) (at : ℕ) → at + w ≤ n → number w (take n s) at ≡ number w s at
number-take w n s at fits = number-agrees w (take n s) s at at (λ i below. get_or-take n s (at + i) 0 (omega arith))

-- bytes below 256 make a number below 256 ^ w
pub number-below : (w : ℕ) (s : List ℕ) (at : ℕ) → ((i : ℕ) → get_or s i 0 < base) → number w s at < base ^ w
unfolding number
number-below zero s at small = omega arith
number-below (suc w) s at small = omega (arith, small at, number-below w s (suc at) small, pow-suc base w)

pub length-bytes : (w v : ℕ) → length (bytes w v) ≡ w
unfolding bytes
length-bytes zero v = refl
length-bytes (suc w) v = ap suc (length-bytes w (v / base))

pub bytes_below : (w v i : ℕ) → get_or (bytes w v) i 0 < base
unfolding bytes
bytes_below zero v i = omega arith
bytes_below (suc w) v zero = omega arith
bytes_below (suc w) v (suc i) = bytes_below w (v / base) i

-- the bytes of a number give it back
number-bytes-front : (w v : ℕ) (rest : List ℕ) → v < base ^ w → number w (bytes w v ++ rest) 0 ≡ v
unfolding number bytes
number-bytes-front zero v rest small = omega arith
number-bytes-front (suc w) v rest small =
    let tail : List ℕ = bytes w (v / base) ++ rest in
    let shifted : number w (v % base ∷ tail) 1 ≡ number w tail 0 = number-after w (v % base ∷ []) tail 0 in
    omega (arith, number-bytes-front w (v / base) rest (omega (arith, pow-suc base w)), shifted)

pub number-bytes : (w v : ℕ) (p rest : List ℕ) (at : ℕ) → length p ≡ at → v < base ^ w → number w (p ++ (bytes w v ++ rest)) at ≡ v
number-bytes w v p rest at e small =
    ap (λ (k : ℕ). number w (p ++ (bytes w v ++ rest)) k) (omega arith)
    ∙ number-after w p (bytes w v ++ rest) 0
    ∙ number-bytes-front w v rest small

-- and a number's bytes are the bytes it was read from
pub bytes-number : (w : ℕ) (s : List ℕ) (at : ℕ) → at + w ≤ length s → ((i : ℕ) → get_or s i 0 < base)
    → bytes w (number w s at) ≡ take w (drop at s)
unfolding number bytes
bytes-number zero s at fits small = refl
bytes-number (suc w) s at fits small =
    let n : ℕ = number w s (suc at) in
    let x : ℕ = get_or s at 0 in
    let low : (x + base * n) % base ≡ x = omega (arith, small at) in
    let high : (x + base * n) / base ≡ n = omega (arith, small at) in
    rw (low, high, drop-cons s at 0 (omega arith)) (ap (λ (l : List ℕ). x ∷ l) (bytes-number w s (suc at) (omega arith) small))

pub length-put : (w : ℕ) (s : List ℕ) (at v : ℕ) → length (put w s at v) ≡ length s
unfolding put
length-put w s at v = length-sets s at (bytes w v)

pub put-split : (w : ℕ) (s : List ℕ) (at v : ℕ) → at + w ≤ length s → put w s at v ≡ take at s ++ (bytes w v ++ drop (at + w) s)
unfolding put
put-split w s at v fits =
    let n : length (bytes w v) ≡ w = length-bytes w v in
    sets-eq (bytes w v) s at (omega arith) ∙ rw (n, append_assoc)

pub put_same : (w : ℕ) (s : List ℕ) (at v : ℕ) → at + w ≤ length s → v < base ^ w → number w (put w s at v) at ≡ v
put_same w s at v fits small =
    rw (put-split w s at v fits) (number-bytes w v (take at s) (drop (at + w) s) at (length-take-le at s (omega arith)) small)

-- what is there, put again, changes nothing
pub put-there : (w : ℕ) (s : List ℕ) (at : ℕ) → at + w ≤ length s → ((i : ℕ) → get_or s i 0 < base) → put w s at (number w s at) ≡ s
put-there w s at fits small =
    put-split w s at (number w s at) fits
    ∙ rw (bytes-number w s at fits small, ← drop-drop w at s, take-append-drop w (drop at s)) (take-append-drop at s)

-- a byte, and a number, that lies apart from what is put stays
pub put-apart : (w : ℕ) (s : List ℕ) (at v i : ℕ) → (at ≤ i → at + w ≤ i) → get_or (put w s at v) i 0 ≡ get_or s i 0
unfolding put bytes
put-apart zero s at v i apart = refl
put-apart (suc w) s at v i apart =
    put-apart w (set s at (v % base)) (suc at) (v / base) i (λ h. let a : at + suc w ≤ i = apart (omega arith) in omega arith)
    ∙ get_or-set_other s at i (v % base) 0 (λ e. let a : at + suc w ≤ i = apart (omega arith) in omega arith)

pub put_other : (w w' : ℕ) (s : List ℕ) (at v to : ℕ) → (at < to + w' → at + w ≤ to) → number w' (put w s at v) to ≡ number w' s to
put_other w w' s at v to apart =
    number-agrees w' (put w s at v) s to to
    (λ i below. put-apart w s at v (to + i) (λ h. let a : at + w ≤ to = apart (omega arith) in omega arith))

pub put-take : (w : ℕ) (s : List ℕ) (at v n : ℕ) → n ≤ at → take n (put w s at v) ≡ take n s
unfolding put bytes
put-take zero s at v n h = refl
put-take (suc w) s at v n h = put-take w (set s at (v % base)) (suc at) (v / base) n (omega arith) ∙ take-set-le n s at (v % base) h

pub put-drop : (w : ℕ) (s : List ℕ) (at v n : ℕ) → at + w ≤ n → drop n (put w s at v) ≡ drop n s
unfolding put bytes
put-drop zero s at v n h = refl
put-drop (suc w) s at v n h = put-drop w (set s at (v % base)) (suc at) (v / base) n (omega arith) ∙ drop-set-lt n s at (v % base) (omega arith)

-- four words put one after the other, and a number right after them
pub four-put : (s : List ℕ) (at a b c d : ℕ) → at + 8 ≤ length s
    → put 2 (put 2 (put 2 (put 2 s at a) (at + 2) b) (at + 4) c) (at + 6) d
    ≡ take at s ++ ((bytes 2 a ++ (bytes 2 b ++ (bytes 2 c ++ bytes 2 d))) ++ drop (at + 8) s)
unfolding put bytes
four-put s at a b c d fits =
    let xs = bytes 2 a ++ (bytes 2 b ++ (bytes 2 c ++ bytes 2 d)) in
    rw (add-two at, add-four at, add_six at) (sets-eq xs s at fits ∙ append_assoc (take at s) xs (drop (at + 8) s))

pub put-after : (w : ℕ) (s : List ℕ) (at m v : ℕ) (xs : List ℕ) → length xs ≡ m → at + m + w ≤ length s
    → put w (take at s ++ (xs ++ drop (at + m) s)) (at + m) v ≡ take at s ++ ((xs ++ bytes w v) ++ drop (at + m + w) s)
put-after w s at m v xs e fits =
    let n : length (take at s) ≡ at = length-take-le at s (omega arith) in
    let front : take at s ++ (xs ++ drop (at + m) s) ≡ (take at s ++ xs) ++ drop (at + m) s = sym (append_assoc (take at s) xs (drop (at + m) s)) in
    let long : length (take at s ++ xs) ≡ at + m = length-append (take at s) xs ∙ omega arith in
    let rest = length-drop (at + m) s in
    rw front
    (put-split w ((take at s ++ xs) ++ drop (at + m) s) (at + m) v (rw (length-append (take at s ++ xs) (drop (at + m) s)) (omega arith))
    ∙ ap₂ (λ (x y : List ℕ). x ++ (bytes w v ++ y))
    (ap (λ (k : ℕ). take k ((take at s ++ xs) ++ drop (at + m) s)) (sym long) ∙ take-append_seam (take at s ++ xs) (drop (at + m) s))
    (ap (λ (k : ℕ). drop (k + w) ((take at s ++ xs) ++ drop (at + m) s)) (sym long) ∙ drop-append-add (take at s ++ xs) (drop (at + m) s) w ∙ drop-drop w (at + m) s)
    ∙ rw (append_assoc, append_assoc))
