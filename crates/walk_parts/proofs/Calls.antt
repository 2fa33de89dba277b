-- One call more behind a list of calls: its answers are the finger's from where the list left it. Demand 3 speaks of the list and of the list
-- with the call; what the two have in common is taken off. Assumes nothing.
use Prim.Native.Nat.{ℕ}
use mathlib.Core.Path.{◌≡◌, refl, sym, ap, subst, ◌∙◌}
use mathlib.Core.Bool.{Bool, true, false, cond}
use mathlib.Core.List.{List, [], ◌∷◌, ◌++◌, map, map-append, append_assoc, append-nil}
use Rattle.std.specs.Prelude.{Option, Ok}
use lib.ListN.{length, drop}
use lib.Seq.{drop-append_seam}
use Rattle.plan.specs.Check.{checked, rules_of}
use Rattle.forest.specs.Forest.{Forest, forest}
use Rattle.forest.specs.Place.{placed_forest}
use Rattle.forest.specs.Reference.{Path, answers, path_after}
use Rattle.forest.specs.Walk.{letters_of, walked_rule, answer_word}
use Rattle.demand.specs.Calls.{Call, Left, lent, walk_of, lefts, cursor_after_calls}
use Rattle.demand.specs.Demand.{turned_down, is_refused, finger_path, finger_answers, answer_words, walk_answers, Above, Meets, Demand3}
use Rattle.demand.proofs.Demand3.{demand3, path-end}

-- demand 3, of the rule that the first cursor names
pub demands : (plan : List ℕ) (n start : ℕ) (cursor : List ℕ) (r : ℕ) → walked_rule start cursor ≡ r → (calls : List Call)
    → checked plan ≡ Ok (record { n = n; start = start }) → Above (rules_of plan) start cursor
    → Meets n (forest (rules_of plan) r) (placed_forest (rules_of plan) r) (turned_down n cursor) calls (lefts walk_of plan cursor calls) cursor
    (cursor_after_calls walk_of plan cursor calls) (finger_path (forest (rules_of plan) r) (turned_down n cursor) calls [])
unfolding Demand3
demands plan n start cursor r names calls e a =
    subst
    (λ (x : ℕ). Meets n (forest (rules_of plan) x) (placed_forest (rules_of plan) x) (turned_down n cursor) calls (lefts walk_of plan cursor calls) cursor
    (cursor_after_calls walk_of plan cursor calls) (finger_path (forest (rules_of plan) x) (turned_down n cursor) calls []))
    names (demand3 plan n start cursor calls e a)

pub first-same : {x y : Bool} {xs ys : List Bool} → x ∷ xs ≡ y ∷ ys → x ≡ y
first-same e = cc

-- what its answers say, if it isn't refused
pub one-answers : (c : Call) (l : Left) → is_refused l.answer ≡ false → walk_answers (c ∷ []) (l ∷ []) ≡ answer_words (length c.letters) l.answers 0
unfolding walk_answers
one-answers c l e = rw e (append-nil (answer_words (length c.letters) l.answers 0))

-- what two lists begin with alike, taken off
rest-same : {A : Type 0} (xs : List A) {x y : List A} (ys zs : List A) → x ≡ xs → y ≡ xs → x ++ ys ≡ y ++ zs → ys ≡ zs
rest-same xs ys zs p q e =
    sym (drop-append_seam xs ys) ∙ ap (drop (length xs)) (ap (λ (l : List _). l ++ ys) (sym p) ∙ e ∙ ap (λ (l : List _). l ++ zs) q) ∙ drop-append_seam xs zs

cond-append : {A : Type 0} (b : Bool) (x y z : List A) → cond b (x ++ z) (y ++ (x ++ z)) ≡ cond b x (y ++ x) ++ z
cond-append true x y z = refl
cond-append false x y z = sym (append_assoc y x z)

module _ (plan : List ℕ) (c : Call) where
  -- what the last call left
  abbrev last : List ℕ → List Call → Left
  last cursor calls = walk_of (lent plan (cursor_after_calls walk_of plan cursor calls) c)

  pub cursor-last : (calls : List Call) (cursor : List ℕ) → cursor_after_calls walk_of plan cursor (calls ++ (c ∷ [])) ≡ (last cursor calls).cursor
  unfolding cursor_after_calls
  cursor-last [] cursor = refl
  cursor-last (d ∷ ds) cursor = cursor-last ds (walk_of (lent plan cursor d)).cursor

  lefts-last : (calls : List Call) (cursor : List ℕ) → lefts walk_of plan cursor (calls ++ (c ∷ [])) ≡ lefts walk_of plan cursor calls ++ (last cursor calls ∷ [])
  unfolding lefts cursor_after_calls
  lefts-last [] cursor = refl
  lefts-last (d ∷ ds) cursor = ap (λ (l : List Left). walk_of (lent plan cursor d) ∷ l) (lefts-last ds (walk_of (lent plan cursor d)).cursor)

  answers-last : (calls : List Call) (cursor : List ℕ) → walk_answers (calls ++ (c ∷ [])) (lefts walk_of plan cursor (calls ++ (c ∷ [])))
      ≡ walk_answers calls (lefts walk_of plan cursor calls) ++ walk_answers (c ∷ []) (last cursor calls ∷ [])
  unfolding walk_answers lefts cursor_after_calls
  answers-last [] cursor = refl
  answers-last (d ∷ ds) cursor =
      let l = walk_of (lent plan cursor d) in
      ap (λ (x : List ℕ). cond (is_refused l.answer) x (answer_words (length d.letters) l.answers 0 ++ x)) (answers-last ds l.cursor)
      ∙ cond-append (is_refused l.answer) (walk_answers ds (lefts walk_of plan l.cursor ds)) (answer_words (length d.letters) l.answers 0) _

module _ (g : Forest ℕ) (down : Call → Bool) (c : Call) where
  replies-last : (calls : List Call) (p : Path) → down c ≡ false
      → finger_answers g down (calls ++ (c ∷ [])) p ≡ finger_answers g down calls p ++ answers g (letters_of c.letters) (finger_path g down calls p)
  unfolding finger_answers finger_path
  replies-last [] p e = rw e (append-nil (answers g (letters_of c.letters) p))
  replies-last (d ∷ ds) p e = by (down d) (λ q. replies-last ds q e)
    where
      r : Path
      r = path_after g (letters_of d.letters) p

      by : (b : Bool)
          → ((q : Path) → finger_answers g down (ds ++ (c ∷ [])) q ≡ finger_answers g down ds q ++ answers g (letters_of c.letters) (finger_path g down ds q))
          → cond b (finger_answers g down (ds ++ (c ∷ [])) p) (answers g (letters_of d.letters) p ++ finger_answers g down (ds ++ (c ∷ [])) r)
          ≡ cond b (finger_answers g down ds p) (answers g (letters_of d.letters) p ++ finger_answers g down ds r)
          ++ answers g (letters_of c.letters) (finger_path g down ds (cond b p r))
      by true rest = rest p
      by false rest = ap (λ (l : List (Option ℕ)). answers g (letters_of d.letters) p ++ l) (rest r)
          ∙ sym (append_assoc (answers g (letters_of d.letters) p) _ _)

-- a call on the cursor that a list of calls left, and not turned down by 8 or 9
module _ (plan : List ℕ) (n start : ℕ) (first : List ℕ) (r : ℕ) (names : walked_rule start first ≡ r) (calls : List Call) (c : Call)
    (e : checked plan ≡ Ok (record { n = n; start = start })) (a : Above (rules_of plan) start first) (d : turned_down n first c ≡ false) where
  abbrev g : Forest ℕ
  g = forest (rules_of plan) r

  abbrev down : Call → Bool
  down = turned_down n first

  abbrev left : Left
  left = last plan c first calls

  abbrev M : Meets n g (placed_forest (rules_of plan) r) down calls (lefts walk_of plan first calls) first
      (cursor_after_calls walk_of plan first calls) (finger_path g down calls [])
  M = demands plan n start first r names calls e a

  accepted : is_refused left.answer ≡ false
  accepted =
      let more = (demands plan n start first r names (calls ++ (c ∷ [])) e a).refused in
      let is_r : Left → Bool = λ (l : Left). is_refused l.answer in
      first-same
      (rest-same (map down calls) (is_r left ∷ []) (down c ∷ []) M.refused refl
      (sym (map-append is_r (lefts walk_of plan first calls) (left ∷ [])) ∙ ap (map is_r) (sym (lefts-last plan c calls first))
      ∙ more ∙ map-append down calls (c ∷ [])))
      ∙ d

  -- its answers are the finger's, from where the finger then stands
  pub last-answers : answer_words (length c.letters) left.answers 0 ≡ map answer_word (answers g (letters_of c.letters) (finger_path g down calls []))
  last-answers =
      let more = (demands plan n start first r names (calls ++ (c ∷ [])) e a).answered in
      sym (one-answers c left accepted)
      ∙ rest-same (map answer_word (finger_answers g down calls [])) (walk_answers (c ∷ []) (left ∷ []))
      (map answer_word (answers g (letters_of c.letters) (finger_path g down calls []))) M.answered refl
      (sym (answers-last plan c calls first) ∙ more ∙ ap (map answer_word) (replies-last g down c calls [] d)
      ∙ map-append answer_word (finger_answers g down calls []) _)

  pub last-path : finger_path g down (calls ++ (c ∷ [])) [] ≡ path_after g (letters_of c.letters) (finger_path g down calls [])
  last-path = path-end g down calls c [] d
