-- The first byte that is no letter is the first that the test of a byte finds. Assumes nothing.
use Prim.Native.Nat.{ℕ, suc, ◌+◌}
use native.Mathlib.Omega.{arith}
use mathlib.Core.Path.{◌≡◌, refl, ap, ◌∙◌}
use mathlib.Core.Bool.{Bool, true, false, cond}
use mathlib.Core.List.{List, [], ◌∷◌}
use Rattle.std.specs.Prelude.{Option, None, Some, option_map, is_none, not, position, nat_lt, length}
use Rattle.std.specs.List.{prefix_len}
use Rattle.forest.specs.Letter.{Letter, letter_of}
use Rattle.forest.specs.Walk.{first_other, other_at}

-- no letter's byte
abbrev pub other : ℕ → Bool
other b = is_none (letter_of b)

-- whether there is one stays under a map
pub no-letter : {A B : Type 0} (f : A → B) (x : Option A) {y : Option B} → option_map f x ≡ y → is_none x ≡ is_none y
no-letter f None e = ap is_none e
no-letter f (Some a) e = ap is_none e

-- a place, counted from i on
from : ℕ → Option ℕ → Option ℕ
from i x = option_map (λ (k : ℕ). i + k) x

here : (i l : ℕ) → from i (cond (nat_lt 0 (suc l)) (Some 0) None) ≡ Some i
unfolding from
here i l = let e : nat_lt 0 (suc l) ≡ true = grind arith in rw e (ap Some (omega arith))

later : (i p l : ℕ) → from i (cond (nat_lt (1 + p) (suc l)) (Some (1 + p)) None) ≡ from (suc i) (cond (nat_lt p l) (Some p) None)
unfolding from
later i p l = go (nat_lt p l) refl
  where
    go : (t : Bool) → nat_lt p l ≡ t → from i (cond (nat_lt (1 + p) (suc l)) (Some (1 + p)) None) ≡ from (suc i) (cond t (Some p) None)
    go true q = let e : nat_lt (1 + p) (suc l) ≡ true = grind (arith, q) in rw e (ap Some (omega arith))
    go false q = let e : nat_lt (1 + p) (suc l) ≡ false = grind (arith, q) in rw e refl

module _ (b : ℕ) (s : List ℕ) where
  found-here : (i : ℕ) → letter_of b ≡ None → from i (position other (b ∷ s)) ≡ Some i
  found-here i e = rw e (here i (length s))

  found-later : (i : ℕ) {c : Letter} → letter_of b ≡ Some c → from i (position other (b ∷ s)) ≡ from (suc i) (position other s)
  found-later i e = rw e (later i (prefix_len (λ (x : ℕ). not (other x)) s) (length s))

found-from : (s : List ℕ) (i : ℕ) → from i (position other s) ≡ first_other s i
unfolding from first_other other_at
found-from [] i = refl
found-from (b ∷ s) i = go (letter_of b) refl (found-from s (suc i))
  where
    go : (x : Option Letter) → letter_of b ≡ x → from (suc i) (position other s) ≡ first_other s (suc i) → from i (position other (b ∷ s)) ≡ other_at x i (first_other s (suc i))
    go None e later-on = found-here b s i e
    go (Some c) e later-on = found-later b s i e ∙ later-on

same : (x : Option ℕ) → x ≡ from 0 x
unfolding from
same None = refl
same (Some k) = ap Some (omega arith)

pub found : (s : List ℕ) → position other s ≡ first_other s 0
found s = same (position other s) ∙ found-from s 0
