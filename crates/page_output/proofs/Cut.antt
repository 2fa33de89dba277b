-- The output cut into pages. A turn takes fifty letters before others, and then the lines that are missing at the end stay as many, or it takes
-- the last ones, and then its blank lines are those that are missing. So what is left is the page and what is left after it.
-- Assumes nothing.
use Prim.Native.Nat.{ℕ, suc, ◌+◌, ◌-◌, ◌*◌, ◌%◌, ◌≤◌}
use native.Mathlib.Omega.{arith}
use mathlib.Core.Path.{◌≡◌, refl, sym, ap, ap₂, ◌∙◌}
use mathlib.Core.List.{List, [], ◌∷◌, ◌++◌, append_assoc, append-nil}
use Rattle.std.specs.Prelude.{Option, None, Some}
use lib.ListN.{length, take, drop, replicate, length-append, length-drop, take-append-drop, drop_of_length-le}
use lib.Seq.{length-take-le, drop-drop}
use lib.Dec.{ltb}
use borrow.Table.Steps.{cases}
use borrow.Author.Tests.{ltb-true, ltb-false}
use Rattle.plan.specs.Check.{rules_of}
use Rattle.forest.specs.Forest.{Forest, forest}
use Rattle.forest.specs.Letter.{Letter, letter_of}
use Rattle.forest.specs.Reference.{Path, answers, path_after}
use Rattle.forest.specs.Walk.{letters_of, other_at, first_other}
use Rattle.forest.proofs.Steps.{answers-append}
use Rattle.demand.proofs.Words.{length-answers, length-letters}
use Rattle.decimal.specs.Put.{Put, Next}
use Rattle.decimal.proofs.Next.{next-by, next-left, put-filled}
use Rattle.page_line.specs.Page.{line_bytes, page_lines, page_line, numbered, blank_lines, page_text, most_number}
use Rattle.page_line.proofs.Lines.{lines_long, blanks-long}
use Rattle.walk_parts.proofs.Parts.{letters-more, letters-append}
use Rattle.page_output.specs.Pages.{most_logged, missing, pages_from, pages_output}
use Rattle.page_output.specs.Walking.{most_cursor, Walking, Ready, Printable, Ends, Page}
use Rattle.page_output.proofs.Walks.{plan-short, walking-begins}

-- ---- letters in parts
-- from where others are counted changes nothing
others-at : (x : Option Letter) (i j : ℕ) (later : Option ℕ) {later' : Option ℕ} → later' ≡ None → other_at x i later ≡ None → other_at x j later' ≡ None
unfolding other_at
others-at None i j later q h = let z : ◌≡◌ {A = ℕ} 0 1 = cc in absurd (omega arith)
others-at (Some c) i j later q h = q

-- a part of letters has letters alone
others-front : (a b : List ℕ) (i j : ℕ) → first_other (a ++ b) i ≡ None → first_other a j ≡ None
unfolding first_other
others-front [] b i j e = refl
others-front (x ∷ a) b i j e = others-at (letter_of x) i j _ (others-front a b (suc i) (suc j) (letters-more (letter_of x) i e)) e

others-back : (a b : List ℕ) (i : ℕ) → first_other (a ++ b) i ≡ None → first_other b 0 ≡ None
unfolding first_other
others-back [] b i e = others-front b [] i 0 (ap (λ (l : List ℕ). first_other l i) (append-nil b) ∙ e)
others-back (x ∷ a) b i e = others-back a b (suc i) (letters-more (letter_of x) i e)

-- ---- the lines in parts
numbered-append : (i : ℕ) (a b : List ℕ) (xs ys : List (Option ℕ)) → length xs ≡ length a
    → numbered i (a ++ b) (xs ++ ys) ≡ numbered i a xs ++ numbered (i + length a) b ys
unfolding numbered
numbered-append i [] b [] ys e = let q : i + 0 ≡ i = omega arith in rw q
numbered-append i [] b (x ∷ xs) ys e = absurd (omega arith)
numbered-append i (c ∷ a) b [] ys e = absurd (omega arith)
numbered-append i (c ∷ a) b (x ∷ xs) ys e =
    let q : suc i + length a ≡ i + length (c ∷ a) = omega arith in
    ap (λ (l : List ℕ). page_line i c x ++ l) (numbered-append (suc i) a b xs ys (omega arith) ∙ ap (λ (k : ℕ). numbered (suc i) a xs ++ numbered k b ys) q)
    ∙ sym (append_assoc (page_line i c x) (numbered (suc i) a xs) _)

missing-whole : (m : ℕ) → missing (page_lines + m) ≡ missing m
unfolding missing
missing-whole m = let e : (page_lines + m) % page_lines ≡ m % page_lines = omega arith in rw e

missing-last : (m : ℕ) → 1 ≤ m → m ≤ page_lines → missing m ≡ page_lines - m
unfolding missing
missing-last m h g = cases (ltb m page_lines)
    (λ e. let l = ltb-true m page_lines e in let q : m % page_lines ≡ m = omega arith in rw q (omega arith))
    (λ e. let l = ltb-false m page_lines e in let q : m ≡ page_lines = omega arith in rw q)

-- a page of letters a before letters b, with their answers
module _ (i : ℕ) (a b : List ℕ) (xs ys : List (Option ℕ)) (same : length xs ≡ length a) where
  abbrev text : List ℕ
  text = page_text i a xs

  whole-page : length a ≡ page_lines → pages_from i (a ++ b) (xs ++ ys) ≡ text ++ pages_from (i + length a) b ys
  unfolding pages_from page_text blank_lines
  whole-page e =
      let m : missing (length (a ++ b)) ≡ missing (length b) = ap missing (length-append a b ∙ ap (λ (k : ℕ). k + length b) e) ∙ missing-whole (length b) in
      let z : page_lines - length a ≡ 0 = omega arith in
      let full : numbered i a xs ++ blank_lines (page_lines - length a) ≡ numbered i a xs = rw z (append-nil (numbered i a xs)) in
      ap₂ (λ (x : List ℕ) (k : ℕ). x ++ blank_lines k) (numbered-append i a b xs ys same) m
      ∙ append_assoc (numbered i a xs) (numbered (i + length a) b ys) (blank_lines (missing (length b)))
      ∙ ap (λ (l : List ℕ). l ++ (numbered (i + length a) b ys ++ blank_lines (missing (length b)))) (sym full)

  last-page : 1 ≤ length a → length a ≤ page_lines → b ≡ [] → pages_from i (a ++ b) (xs ++ ys) ≡ text ++ pages_from (i + length a) b ys
  unfolding pages_from page_text blank_lines numbered missing
  last-page h g e =
      let none_more : numbered (i + length a) b ys ≡ [] = rw e in
      let lines : numbered i (a ++ b) (xs ++ ys) ≡ numbered i a xs =
      numbered-append i a b xs ys same ∙ ap (λ (l : List ℕ). numbered i a xs ++ l) none_more ∙ append-nil (numbered i a xs) in
      let m : missing (length (a ++ b)) ≡ page_lines - length a =
      ap (λ (l : List ℕ). missing (length (a ++ l))) e ∙ ap (λ (l : List ℕ). missing (length l)) (append-nil a) ∙ missing-last (length a) h g in
      let after : pages_from (i + length a) b ys ≡ [] = rw e in
      ap₂ (λ (x : List ℕ) (k : ℕ). x ++ blank_lines k) lines m ∙ sym (ap (λ (l : List ℕ). text ++ l) after ∙ append-nil text)

-- ---- a page
module _ {plan log : List ℕ} {n start : ℕ} {cursor : List ℕ} {at done : ℕ} (K : Page plan log n start cursor at done)
    (few : length log ≤ most_logged) (every : first_other log 0 ≡ None) {end : ℕ} (E : Ends (length log) at end) where
  abbrev g : Forest ℕ
  g = forest (rules_of plan) start

  -- its letters, and those behind it
  abbrev part : List ℕ
  part = take (end - at) (drop at log)

  abbrev later : List ℕ
  later = drop end log

  split : drop at log ≡ part ++ later
  split =
      let e : at + (end - at) ≡ end = omega (arith, E.more) in
      sym (take-append-drop (end - at) (drop at log)) ∙ ap (λ (l : List ℕ). part ++ l) (drop-drop (end - at) at log ∙ ap (λ (k : ℕ). drop k log) e)

  part-long : length part ≡ end - at
  part-long = length-take-le (end - at) (drop at log) (omega (arith, length-drop at log, E.within))

  part-few : length part ≤ page_lines
  part-few = omega (arith, part-long, E.few)

  part-letters : first_other part 0 ≡ None
  part-letters =
      let whole : first_other (take at log ++ drop at log) 0 ≡ None = rw (take-append-drop at log) every in
      others-front part later 0 0 (ap (λ (l : List ℕ). first_other l 0) (sym split) ∙ others-back (take at log) (drop at log) 0 whole)

  part-numbers : at + 1 + length part ≤ most_number + 1
  part-numbers = omega (arith, part-long, E.within, E.more)

  -- the answers to its letters, and to those behind it
  abbrev replies : List (Option ℕ)
  replies = answers g (letters_of part) K.path

  abbrev after : Path
  after = path_after g (letters_of part) K.path

  abbrev rest : List (Option ℕ)
  rest = answers g (letters_of later) after

  replies-long : length replies ≡ length part
  replies-long = length-answers g (letters_of part) K.path ∙ length-letters part 0 part-letters

  replies-split : answers g (letters_of (drop at log)) K.path ≡ replies ++ rest
  replies-split =
      ap (λ (l : List ℕ). answers g (letters_of l) K.path) split
      ∙ ap (λ (l : List Letter). answers g l K.path) (letters-append part later 0 part-letters)
      ∙ answers-append g (letters_of part) (letters_of later) K.path

  abbrev page-text : List ℕ
  page-text = page_text (at + 1) part replies

  cut : pages_from (at + 1) (part ++ later) (replies ++ rest) ≡ page-text ++ pages_from (at + 1 + length part) later rest
  cut = cases (ltb end (at + page_lines))
      (λ e.
      let none_left : later ≡ [] = drop_of_length-le log {i = end} (omega (arith, E.last (ltb-true end (at + page_lines) e))) in
      last-page (at + 1) part later replies rest replies-long (omega (arith, part-long, E.more)) part-few none_left)
      (λ e. whole-page (at + 1) part later replies rest replies-long (omega (arith, part-long, ltb-false end (at + page_lines) e, E.few)))

  left_is : drop done (pages_output plan log) ≡ page-text ++ pages_from (end + 1) later rest
  left_is =
      let q : at + 1 + length part ≡ end + 1 = omega (arith, part-long, E.more) in
      K.left ∙ ap₂ (pages_from (at + 1)) split replies-split ∙ cut ∙ ap (λ (k : ℕ). page-text ++ pages_from k later rest) q

  pub text-long : length page-text ≡ line_bytes * page_lines
  unfolding page_text
  text-long =
      omega (
        arith,
        length-append (numbered (at + 1) part replies) (blank_lines (page_lines - length part)),
        blanks-long (page_lines - length part),
        part-few,
        lines_long (at + 1) part replies part-numbers (plan-short K.walking part) replies-long,
      )

  -- it may be walked, and its letters numbered
  pub page-ready : (first : ℕ) → first ≤ at + 1 → Ready plan cursor first part
  page-ready first h =
      record {
        n = n;
        start = start;
        path = K.path;
        walking = K.walking;
        few = part-few;
        every_letter = part-letters;
        numbers = omega (arith, part-numbers);
      }

  -- it fills the output
  pub page-fills : {out out' : List ℕ} {r : ℕ} → length out ≡ line_bytes * page_lines → Put page-text 0 out out' r → out' ≡ page-text
  page-fills e P = put-filled (e ∙ sym text-long) P

  -- it comes next
  pub page-next : Next (pages_output plan log) done page-text
  page-next = next-by (pages_output plan log) done page-text _ left_is

  -- and then the pages behind it are left
  pub page-after : {cursor' : List ℕ} {done' : ℕ} → Walking plan n start cursor' after → done' ≡ done + length page-text
      → Page plan log n start cursor' end done'
  page-after W e =
      record {
        path = after;
        walking = W;
        left = ap (λ (k : ℕ). drop k (pages_output plan log)) e ∙ next-left (pages_output plan log) done page-text _ left_is;
      }

-- before the first page
pub page-begins : {plan log : List ℕ} (P : Printable plan log) → Page plan log P.n P.start (replicate most_cursor 0) 0 0
page-begins P = record { path = []; walking = walking-begins P.accepted; left = P.prints }

-- behind the last one
pub page-ends : {plan log : List ℕ} {n start : ℕ} {cursor : List ℕ} {at done : ℕ} → Page plan log n start cursor at done → length log ≤ at
    → drop done (pages_output plan log) ≡ []
unfolding pages_from numbered blank_lines missing
page-ends {log = log} {at = at} K h = let e : drop at log ≡ [] = drop_of_length-le log h in K.left ∙ rw e
