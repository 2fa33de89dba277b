-- Document 02, Note 14: "each once, in the order of n, then rule words, then start. There is one such plan for n = 1 and there are seven for
-- n = 2."
use Rattle.std.specs.Prelude.{ℕ, ◌+◌, ◌*◌, Bool, true, false, cond, ◌&&◌, ◌||◌, ltb, eqb}
use mathlib.Core.List.{List, [], ◌∷◌, ◌++◌, Memᴰ}
use Rattle.words.specs.Words.{words_at}
use Rattle.plan.specs.Check.{count_of, start_of}

-- "n, then rule words, then start", of a plan without prefix
unfoldable pub key : List ℕ → List ℕ
key s = count_of s ∷ (words_at s 0 (4 * count_of s) ++ (start_of s ∷ []))

-- the first number that differs is lower
unfoldable pub before : List ℕ → List ℕ → Bool
before [] ys = false
before (x ∷ xs) [] = false
before (x ∷ xs) (y ∷ ys) = ltb x y || (eqb x y && before xs ys)

unfoldable pub before_all : List ℕ → List (List ℕ) → Bool
before_all k [] = true
before_all k (s ∷ ss) = before k (key s) && before_all k ss

-- each plan is before all that follow it
unfoldable pub ascending : List (List ℕ) → Bool
ascending [] = true
ascending (s ∷ ss) = before_all (key s) ss && ascending ss

-- "each once": none is among those that follow it
unfoldable pub Once : List (List ℕ) → Type 0
Once [] = Unit {0}
Once (s ∷ ss) = (Memᴰ s ss → ⊥) × Once ss

-- how many have n rules
unfoldable pub with_rules : ℕ → List (List ℕ) → ℕ
with_rules n [] = 0
with_rules n (s ∷ ss) = cond (eqb (count_of s) n) 1 0 + with_rules n ss
