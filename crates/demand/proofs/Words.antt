-- Answers read back: the words written at the front of a slice are read as the same words, and each answer to letters fits a word.
-- Assumes nothing.
use Prim.Native.Nat.{ℕ, suc, ◌+◌, ◌<◌}
use native.Mathlib.Omega.{arith}
use mathlib.Core.Path.{◌≡◌, refl, sym, ap, ap₂, ◌∙◌}
use mathlib.Core.List.{List, [], ◌∷◌, ◌++◌, map, append_assoc}
use Rattle.std.specs.Prelude.{Option, None, Some}
use Rattle.std.proofs.lemmas.Option.{none-some}
use lib.ListN.{length, drop, length-append, length-map}
use Rattle.words.specs.Number.{number, bytes}
use Rattle.words.proofs.Laws.{number-bytes, length-bytes}
use Rattle.words.specs.Front.{in_front}
use Rattle.forest.specs.Forest.{Forest}
use Rattle.forest.specs.Letter.{Letter, letter_of}
use Rattle.forest.specs.Reference.{Path, label_at, answer, moved, answers}
use Rattle.forest.specs.Walk.{answer_length, nowhere, letters_of, first_other, and_letters, other_at, answers_bytes, answer_word}
use Rattle.forest.proofs.Steps.{answer-label}
use Rattle.demand.specs.Demand.{answer_words}

-- every word fits the four bytes of an answer
abbrev pub AllWords : List ℕ → Type 0
AllWords [] = Unit {0}
AllWords (v ∷ vs) = (v < 4294967296) × AllWords vs

-- words read one by one
pub words_more : (m : ℕ) (s : List ℕ) (at : ℕ) → answer_words (suc m) s at ≡ number answer_length s at ∷ answer_words m s (at + answer_length)
unfolding answer_words
words_more m s at = refl

-- words read behind p
words-behind : (vs p rest : List ℕ) (at : ℕ) → length p ≡ at → AllWords vs → answer_words (length vs) (p ++ (answers_bytes vs ++ rest)) at ≡ vs
unfolding answer_words answers_bytes
words-behind [] p rest at e f = refl
words-behind (v ∷ vs) p rest at e f =
    ap₂ (λ (x : ℕ) (xs : List ℕ). x ∷ xs)
    (ap (λ (l : List ℕ). number answer_length l at) first ∙ number-bytes answer_length v p (answers_bytes vs ++ rest) at e f.0)
    (ap (λ (l : List ℕ). answer_words (length vs) l (at + answer_length)) later
    ∙ words-behind vs (p ++ bytes answer_length v) rest (at + answer_length) (length-append p (bytes answer_length v) ∙ omega (arith, length-bytes answer_length v)) f.1)
  where
    first : p ++ ((bytes answer_length v ++ answers_bytes vs) ++ rest) ≡ p ++ (bytes answer_length v ++ (answers_bytes vs ++ rest))
    first = simp append_assoc

    later : p ++ ((bytes answer_length v ++ answers_bytes vs) ++ rest) ≡ (p ++ bytes answer_length v) ++ (answers_bytes vs ++ rest)
    later = simp append_assoc

pub words-in-front : (vs given : List ℕ) → AllWords vs → answer_words (length vs) (in_front (answers_bytes vs) given) 0 ≡ vs
unfolding in_front
words-in-front vs given f = words-behind vs [] (drop (length (answers_bytes vs)) given) 0 refl f

-- one answer a letter
pub length-answers : {A : Type 0} (g : Forest A) (cs : List Letter) (p : Path) → length (answers g cs p) ≡ length cs
unfolding answers
length-answers g [] p = refl
length-answers g (c ∷ cs) p = ap suc (length-answers g cs (moved g c p))

-- a letter for each byte where every byte is a letter
no_other : (x : Option Letter) (i : ℕ) (later : Option ℕ) → other_at x i later ≡ None → (c : Letter) × (x ≡ Some c) × (later ≡ None)
unfolding other_at
no_other None i later e = absurd (none-some _ (sym e))
no_other (Some c) i later e = (c, refl, e)

pub length-letters : (bs : List ℕ) (i : ℕ) → first_other bs i ≡ None → length (letters_of bs) ≡ length bs
unfolding letters_of first_other and_letters
length-letters [] i e = refl
length-letters (b ∷ bs) i e =
    let h = no_other (letter_of b) i (first_other bs (suc i)) e in
    rw h.1 (ap suc (length-letters bs (suc i) h.2))

-- the words of answers, where every label is below that for nowhere
word_fits : (x : Option ℕ) → ((a : ℕ) → x ≡ Some a → a < nowhere) → answer_word x < 4294967296
unfolding answer_word
word_fits None h = omega arith
word_fits (Some a) h = let b = h a refl in omega arith

pub answers-fit : (g : Forest ℕ) → ((p : Path) (a : ℕ) → label_at g p ≡ Some a → a < nowhere) → (cs : List Letter) (p : Path) → AllWords (map answer_word (answers g cs p))
unfolding answers
answers-fit g h [] p = tt
answers-fit g h (c ∷ cs) p =
    (word_fits (answer g c p) (λ a e. h (moved g c p) a (answer-label g c p e)), answers-fit g h cs (moved g c p))

pub length-words : {A : Type 0} (h : A → ℕ) (xs : List A) → length (map h xs) ≡ length xs
length-words h xs = length-map xs h
