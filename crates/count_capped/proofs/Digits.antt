-- A number of w + v bytes is one of w bytes and one of v bytes after it, to read and to write: by induction on w, one byte at a
-- time. A count's ten bytes are eight and two. Assumes nothing.
use Prim.Native.Nat.{ℕ, zero, suc, ◌+◌, ◌*◌, ◌/◌, ◌%◌, ◌^◌, ◌<◌}
use native.Mathlib.Nat.{add-zero, suc-add, pow-succ', mul_assoc, zero-add}
use native.Mathlib.Omega.{arith}
use mathlib.Core.Path.{◌≡◌, sym, ◌∙◌}
use mathlib.Core.List.{List}
use lib.ListN.{set}
use Rattle.words.specs.Number.{base, number, bytes}
use Rattle.words.specs.Put.{put}
use Rattle.count_capped.specs.Count.{count_limit, count_length}

-- the digits past the first
scaled : (w b : ℕ) → base ^ suc w * b ≡ base * (base ^ w * b)
scaled w b = rw (pow-succ' base w, mul_assoc base (base ^ w) b)

pub number-add : (w v : ℕ) (s : List ℕ) (at : ℕ) → number (w + v) s at ≡ number w s at + base ^ w * number v s (at + w)
unfolding number
number-add zero v s at = rw (zero-add v, add-zero at) (omega arith)
number-add (suc w) v s at =
    let moved : at + suc w ≡ suc at + w = omega arith in
    rw (suc-add w v, moved) (omega (arith, number-add w v s (suc at), scaled w (number v s (suc at + w))))

pub put-add : (w v : ℕ) (s : List ℕ) (at a b : ℕ) → a < base ^ w → put (w + v) s at (a + base ^ w * b) ≡ put v (put w s at a) (at + w) b
unfolding put bytes
put-add zero v s at a b small = let z : a + base ^ 0 * b ≡ b = omega arith in rw (zero-add v, add-zero at, z)
put-add (suc w) v s at a b small =
    let moved : at + suc w ≡ suc at + w = omega arith in
    let more : base ^ suc w * b ≡ base * (base ^ w * b) = scaled w b in
    let low : (a + base ^ suc w * b) % base ≡ a % base = rw more (digit a (base ^ w * b)) in
    let high : (a + base ^ suc w * b) / base ≡ a / base + base ^ w * b = rw more (digits a (base ^ w * b)) in
    rw (suc-add w v, moved, low, high) (put-add w v (set s at (a % base)) (suc at) (a / base) b (omega (arith, pow-succ' base w)))
  where
    digit : (m q : ℕ) → (m + base * q) % base ≡ m % base
    digit m q = omega arith

    digits : (m q : ℕ) → (m + base * q) / base ≡ m / base + q
    digits m q = omega arith

-- a count's ten bytes
pub number-count : (s : List ℕ) (at : ℕ) → number count_length s at ≡ number 8 s at + count_limit * number 2 s (at + 8)
number-count s at = number-add 8 2 s at

pub written-count : (s : List ℕ) {t u : List ℕ} (at x c : ℕ) → t ≡ put 8 s at x → u ≡ put 2 t (at + 8) c → x < count_limit
    → u ≡ put count_length s at (x + count_limit * c)
written-count s at x c p q small = q ∙ rw p (sym (put-add 8 2 s at x c small))
