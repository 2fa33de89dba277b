-- A log in parts has the answers of the log as a whole. Demand 3 gives the answers and the place after both as the finger's; the finger takes
-- the parts' letters one after the other, which are the whole's. Assumes nothing.
use Prim.Native.Nat.{ℕ, suc}
use mathlib.Core.Path.{◌≡◌, refl, sym, ap, ◌∙◌}
use mathlib.Core.Bool.{Bool, true, false, and-eq-true_iff, false≢true}
use mathlib.Core.List.{List, [], ◌∷◌, ◌++◌, map, append-nil}
use Rattle.std.specs.Prelude.{Option, None, Some}
use lib.ListN.{length}
use borrow.Author.Tests.{not-false}
use Rattle.plan.specs.Check.{rules_of}
use Rattle.forest.specs.Forest.{Forest, forest}
use Rattle.forest.specs.Place.{placed_forest}
use Rattle.forest.specs.Letter.{Letter, letter_of}
use Rattle.forest.specs.Reference.{Path, answers, path_after}
use Rattle.forest.specs.Walk.{enough_lent, and_letters, letters_of, other_at, first_other, walked_rule, place_at, answer_word}
use Rattle.forest.proofs.Steps.{path_after-append, answers-append}
use Rattle.demand.specs.Calls.{Call, lent, walk_of, lefts, cursor_after_calls}
use Rattle.demand.specs.Demand.{turned_down, is_none, is_refused, finger_path, finger_answers}
use Rattle.walk_parts.proofs.Calls.{demands, first-same, one-answers}
use Rattle.walk_parts.specs.Parted.{all_letters, NoneDown, Parted}

-- ---- letters
-- letters before others
pub letters-more : (x : Option Letter) (i : ℕ) {later : Option ℕ} → other_at x i later ≡ None → later ≡ None
unfolding other_at
letters-more None i e = let z : ◌≡◌ {A = Bool} true false = cc in absurd (false≢true (sym z))
letters-more (Some c) i e = e

and-append : (x : Option Letter) (i : ℕ) (later : Option ℕ) (xs ys : List Letter) → other_at x i later ≡ None → and_letters x (xs ++ ys) ≡ and_letters x xs ++ ys
unfolding other_at and_letters
and-append None i later xs ys e = let z : ◌≡◌ {A = Bool} true false = cc in absurd (false≢true (sym z))
and-append (Some c) i later xs ys e = refl

pub letters-append : (a b : List ℕ) (i : ℕ) → first_other a i ≡ None → letters_of (a ++ b) ≡ letters_of a ++ letters_of b
unfolding letters_of first_other
letters-append [] b i e = refl
letters-append (x ∷ a) b i e =
    ap (and_letters (letter_of x)) (letters-append a b (suc i) (letters-more (letter_of x) i e)) ∙ and-append (letter_of x) i _ (letters_of a) (letters_of b) e

-- a call that isn't turned down has letters alone
is-none : (x : Option ℕ) → is_none x ≡ true → x ≡ None
unfolding is_none
is-none None e = refl
is-none (Some i) e = absurd (false≢true e)

every_letter : (n : ℕ) (cursor : List ℕ) (c : Call) → turned_down n cursor c ≡ false → first_other c.letters 0 ≡ None
unfolding turned_down
every_letter n cursor c d =
    is-none (first_other c.letters 0)
    ((and-eq-true_iff (enough_lent c.work cursor c.letters c.answers n) (is_none (first_other c.letters 0))).0 (not-false _ d)).1

-- ---- the finger on calls of which none is turned down
module _ (g : Forest ℕ) (n : ℕ) (cursor : List ℕ) where
  finger-path : (cs : List Call) (p : Path) → NoneDown (turned_down n cursor) cs
      → finger_path g (turned_down n cursor) cs p ≡ path_after g (letters_of (all_letters cs)) p
  unfolding finger_path NoneDown all_letters path_after letters_of
  finger-path [] p d = refl
  finger-path (c ∷ cs) p d =
      rw (d.0, letters-append c.letters (all_letters cs) 0 (every_letter n cursor c d.0))
      (finger-path cs (path_after g (letters_of c.letters) p) d.1 ∙ sym (path_after-append g (letters_of c.letters) (letters_of (all_letters cs)) p))

  finger-answers : (cs : List Call) (p : Path) → NoneDown (turned_down n cursor) cs
      → finger_answers g (turned_down n cursor) cs p ≡ answers g (letters_of (all_letters cs)) p
  unfolding finger_answers NoneDown all_letters answers letters_of
  finger-answers [] p d = refl
  finger-answers (c ∷ cs) p d =
      rw (d.0, letters-append c.letters (all_letters cs) 0 (every_letter n cursor c d.0))
      (ap (λ (xs : List (Option ℕ)). answers g (letters_of c.letters) p ++ xs) (finger-answers cs (path_after g (letters_of c.letters) p) d.1)
      ∙ sym (answers-append g (letters_of c.letters) (letters_of (all_letters cs)) p))

pub parted : Parted walk_of
unfolding Parted NoneDown all_letters lefts cursor_after_calls
parted plan n start cursor parts whole e a same d f =
    let r = walked_rule start cursor in
    let g = forest (rules_of plan) r in
    let G = placed_forest (rules_of plan) r in
    let down = turned_down n cursor in
    let P = demands plan n start cursor r refl parts e a in
    let W = demands plan n start cursor r refl (whole ∷ []) e a in
    let letters : letters_of (all_letters parts) ≡ letters_of (all_letters (whole ∷ [])) = ap letters_of (sym (append-nil whole.letters ∙ same)) in
    let path : finger_path g down parts [] ≡ finger_path g down (whole ∷ []) [] =
    finger-path g n cursor parts [] d ∙ ap (λ (l : List Letter). path_after g l []) letters ∙ sym (finger-path g n cursor (whole ∷ []) [] (f, tt)) in
    let replies : finger_answers g down parts [] ≡ finger_answers g down (whole ∷ []) [] =
    finger-answers g n cursor parts [] d ∙ ap (λ (l : List Letter). answers g l []) letters ∙ sym (finger-answers g n cursor (whole ∷ []) [] (f, tt)) in
    let accepted : is_refused (walk_of (lent plan cursor whole)).answer ≡ false = first-same W.refused ∙ f in
    record {
      answered = P.answered ∙ ap (map answer_word) replies ∙ sym W.answered ∙ one-answers whole (walk_of (lent plan cursor whole)) accepted;
      used = P.used ∙ ap (λ (p : Path). length (place_at G p)) path ∙ sym W.used;
      stored = P.stored ∙ ap (place_at G) path ∙ sym W.stored;
    }
