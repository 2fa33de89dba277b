-- A part of a list from an offset on, lent to a function and given back changed. Assumes nothing.
use Prim.Native.Nat.{ℕ, zero, suc, ◌+◌, ◌-◌, ◌≤◌}
use native.Mathlib.Omega.{arith}
use mathlib.Core.Path.{◌≡◌, refl, sym, ap, ap₂, ◌∙◌}
use mathlib.Core.List.{List, [], ◌∷◌, ◌++◌, append-nil}
use lib.ListN.{length, take, drop, length-drop, length-append}
use lib.Seq.{length-take-le, take_all, take-take, take-append-le, drop-append-add, drop-drop, drop-length}
use Rattle.words.specs.Number.{number}
use Rattle.words.specs.Words.{words_at}
use Rattle.words.specs.Within.{Within}
use Rattle.words.proofs.Laws.{number-after}

-- what is lent is the rest of the list, and nothing is left behind it
part-all : (a : ℕ) (s : List ℕ) → take (length s - a) (drop a s) ≡ drop a s
part-all a s = let n = length-drop a s in take_all (length s - a) (drop a s) (omega arith)

part-back : (a : ℕ) (s v : List ℕ) → take a s ++ (v ++ drop (length s - a) (drop a s)) ≡ take a s ++ v
part-back a s v = let rest : drop (length s - a) (drop a s) ≡ [] = ap (λ (k : ℕ). drop k (drop a s)) (sym (length-drop a s)) ∙ drop-length (drop a s) in rw (rest, append-nil)

pub part_length : (a : ℕ) (s : List ℕ) → length (take (length s - a) (drop a s)) ≡ length s - a
part_length a s = ap length (part-all a s) ∙ length-drop a s

-- a frame in the part is one in the whole
pub within-part : (a e : ℕ) {s v : List ℕ} → a ≤ length s → Within 0 e (take (length s - a) (drop a s)) v
    → Within a (a + e) s (take a s ++ (v ++ drop (length s - a) (drop a s)))
within-part a e {s} {v} low w =
    let w' : Within 0 e (drop a s) v = rw (part-all a s) at w in
    let n : length (take a s) ≡ a = length-take-le a s low in
    let m = length-drop a s in
    let k = w'.same_length in
    rw (part-back a s v) (record {
      same_length = length-append (take a s) v ∙ omega arith;
      same_before = take-append-le a (take a s) v (omega arith) ∙ take-take a a s (omega arith);
      same_after = ap (λ (i : ℕ). drop (i + e) (take a s ++ v)) (sym n) ∙ drop-append-add (take a s) v e ∙ w'.same_after ∙ drop-drop e a s;
    })

-- and words in it are words of the whole
words-after : (p v : List ℕ) (a b n : ℕ) → length p ≡ a → words_at (p ++ v) (a + b) n ≡ words_at v b n
unfolding words_at
words-after p v a b zero e = refl
words-after p v a b (suc n) e =
    let next : a + b + 2 ≡ a + (b + 2) = omega arith in
    ap₂ (λ (x : ℕ) (l : List ℕ). x ∷ l)
    (ap (λ (k : ℕ). number 2 (p ++ v) (k + b)) (sym e) ∙ number-after 2 p v b)
    (ap (λ (k : ℕ). words_at (p ++ v) k n) next ∙ words-after p v a (b + 2) n e)

pub words-part : (a b n : ℕ) (s v : List ℕ) → a ≤ length s → words_at (take a s ++ (v ++ drop (length s - a) (drop a s))) (a + b) n ≡ words_at v b n
words-part a b n s v low = rw (part-back a s v) (words-after (take a s) v a b n (length-take-le a s low))
