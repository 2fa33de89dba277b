-- The answers on an accepted plan are labels of its forest, of at most eight digits and none of them the word for nowhere: so a word
-- of answers says which answer it was written for, and no line is longer than eleven bytes. Assumes nothing.
use Prim.Native.Nat.{ℕ, ◌*◌, ◌≤◌}
use native.Mathlib.Omega.{arith}
use mathlib.Core.Path.{◌≡◌, refl, ap₂}
use mathlib.Core.List.{List, [], ◌∷◌, map}
use Rattle.std.specs.Prelude.{Option, None, Some, Ok}
use lib.ListN.{length, length-append}
use borrow.Author.Tests.{ne_eqb}
use Rattle.rule.specs.Rule.{largest_label}
use Rattle.plan.specs.Check.{checked, rules_of}
use Rattle.plan.proofs.Sound.{checked-plan}
use Rattle.forest.specs.Forest.{Forest, forest}
use Rattle.forest.specs.Letter.{Letter}
use Rattle.forest.specs.Reference.{Path, label_at, answer, moved, answers}
use Rattle.forest.specs.Walk.{nowhere, answer_word}
use Rattle.forest.proofs.Each.{each-label_at}
use Rattle.forest.proofs.Labels.{forest-labels}
use Rattle.forest.proofs.Steps.{answer-label}
use Rattle.stroll_line.specs.Lines.{line_length, shown, line, lines}
use Rattle.stroll_line.specs.Said.{answer_of}
use Rattle.decimal.proofs.Decimals.{decimal-length}
use Rattle.stroll_line.proofs.Shown.{line-length}

-- nowhere, or a label
abbrev pub Labelled : Option ℕ → Type 0
Labelled None = Unit {0}
Labelled (Some a) = a ≤ largest_label

abbrev pub AllLabelled : List (Option ℕ) → Type 0
AllLabelled [] = Unit {0}
AllLabelled (x ∷ xs) = Labelled x × AllLabelled xs

labelled : (x : Option ℕ) → ((a : ℕ) → x ≡ Some a → a ≤ largest_label) → Labelled x
labelled None h = tt
labelled (Some a) h = h a refl

labelled-answers : (g : Forest ℕ) → ((p : Path) (a : ℕ) → label_at g p ≡ Some a → a ≤ largest_label) → (cs : List Letter) (p : Path) → AllLabelled (answers g cs p)
unfolding answers
labelled-answers g h [] p = tt
labelled-answers g h (c ∷ cs) p = (labelled (answer g c p) (λ a e. h (moved g c p) a (answer-label g c p e)), labelled-answers g h cs (moved g c p))

pub plan-answers : (s : List ℕ) (n start : ℕ) → checked s ≡ Ok (record { n = n; start = start }) → (cs : List Letter) (p : Path) → AllLabelled (answers (forest (rules_of s) start) cs p)
plan-answers s n start e =
    let P = checked-plan s n start e in
    labelled-answers (forest (rules_of s) start) (λ p a. each-label_at (λ (x : ℕ). x ≤ largest_label) (forest (rules_of s) start) p a (forest-labels P.sound start P.ends.below))

-- a word says its answer
word-said : (x : Option ℕ) → Labelled x → answer_of (answer_word x) ≡ x
unfolding answer_of answer_word
word-said None h = refl
word-said (Some a) h = rw (ne_eqb a nowhere (λ e. omega arith))

pub words-said : (xs : List (Option ℕ)) → AllLabelled xs → map answer_of (map answer_word xs) ≡ xs
words-said [] h = refl
words-said (x ∷ xs) h = ap₂ (λ (y : Option ℕ) (ys : List (Option ℕ)). y ∷ ys) (word-said x h.0) (words-said xs h.1)

-- a line is short
pub shown-length : (x : Option ℕ) → Labelled x → length (shown x) ≤ 8
unfolding shown
shown-length None h = omega arith
shown-length (Some a) h = decimal-length 7 a (omega arith)

pub lines-length : (letters : List ℕ) (xs : List (Option ℕ)) → AllLabelled xs → length (lines letters xs) ≤ line_length * length letters
unfolding lines
lines-length [] xs h = omega arith
lines-length (b ∷ bs) [] h = omega arith
lines-length (b ∷ bs) (x ∷ xs) h =
    omega (arith, length-append (line b x) (lines bs xs), line-length b x, shown-length x h.0, lines-length bs xs h.1)
