-- The list has the plans of Small and no others. Those that it has were tested, each (Counted). A plan of Small is its records and its
-- trailer; its rules have numbers, by which it is a candidate, and check accepts it, so it is kept. Assumes nothing.
use Rattle.std.specs.Prelude.{Ok}
use Prim.Native.Nat.{ℕ, zero, suc, ◌+◌, ◌-◌, ◌*◌, ◌/◌, ◌%◌, ◌≤◌, ◌<◌}
use native.Mathlib.Omega.{arith}
use native.Mathlib.Nat.{zero-add}
use mathlib.Core.Path.{◌≡◌, refl, sym, ap, ap₂, ◌∙◌, subst}
use mathlib.Core.Bool.{Bool, true, false, cond, ◌&&◌}
use mathlib.Core.Logic.{◌↔◌}
use mathlib.Core.List.Memᴰ
use mathlib.Core.List.{List, [], ◌∷◌, ◌++◌, map, Memᴰ}
use lib.ListN.{length, drop, take-append-drop}
use lib.Dec.{T}
use borrow.Author.Tests.{lt-ltb, le-ltb}
use Rattle.words.specs.Number.{bytes}
use Rattle.words.proofs.Laws.{number-below}
use Rattle.record.specs.declared.Format.{Format}
use Rattle.record.specs.declared.Record.{Record}
use Rattle.record.specs.Format.{word_length, length_of_record, high_length}
use Rattle.record.specs.Record.{record_at, record_bytes}
use Rattle.record.specs.Records.{records_bytes, record_in}
use Rattle.record.proofs.Records.{records-at}
use Rattle.rule.specs.declared.Rule.{Rule}
use Rattle.rule.specs.Rule.{encode, labelled_to}
use Rattle.rule.specs.Sound.{rule, Lower}
use Rattle.rule.proofs.Decode.{encode-decode}
use Rattle.plan.specs.Check.{magic, trailer_bytes, most_rules, first_at, format_of, records_of, rules_of, checked}
use Rattle.plan.proofs.Sound.{Plan, checked-plan, plan-records, plan-decodes}
use Rattle.unseal.proofs.RoundTrip.{alone-trailer, alone-words}
use Rattle.plan_list.specs.Small.{Small}
use Rattle.plan_list.specs.Listed.{rule_bytes, three_rules, plan_of, candidates, rules_at, place_of, candidate}
use Rattle.plan_list.specs.Listed.{plain, wordless, is_accepted, is_listed, kept, listed}
use Rattle.plan_list.proofs.Tested.{each-small}
use Rattle.plan_list.proofs.Counted.{counted}
use Rattle.plan_list.proofs.Coded.{Coded, coded, one_more, no_lower}

-- ---- what is kept of candidates
later : {s : List ℕ} {l : List (List ℕ)} (x : List ℕ) (b : Bool) → Memᴰ s l → Memᴰ s (cond b (x ∷ l) l)
later x true m = Memᴰ.tail m
later x false m = m

kept_in : (m i k : ℕ) → k < m → is_listed (i + k) ≡ true → Memᴰ (candidate (i + k)) (kept m i)
unfolding kept
kept_in zero i k h e = absurd (omega arith)
kept_in (suc m) i zero h e =
    let q : i + 0 ≡ i = omega arith in
    let kept_here : is_listed i ≡ true = rw q at e in
    rw (q, kept_here) (Memᴰ.head refl)
kept_in (suc m) i (suc k) h e =
    let q : i + suc k ≡ suc i + k = omega arith in
    rw q (later (candidate i) (is_listed i) (kept_in m (suc i) k (omega arith) (rw q at e)))

-- a plan is a candidate that is looked at
record Candidate (s : List ℕ) : Type 0 where
  place : ℕ
  within : place < candidates
  same : candidate place ≡ s
  labels : (wordless (place_of place / 3 / 48) && plain (place_of place / 3 % 48)) ≡ true

listed_in : {s : List ℕ} {n start : ℕ} → Candidate s → checked s ≡ Ok (record { n = n; start = start }) → Memᴰ s listed
unfolding listed is_listed is_accepted
listed_in {s} C e =
    let q : checked (candidate C.place) ≡ _ = ap checked C.same ∙ e in
    let there = kept_in candidates 0 C.place C.within (rw (zero-add C.place, C.labels, q)) in
    Memᴰ.cast (sym C.same) (rw (zero-add C.place) at there)

-- ---- the bytes of a plan from its rules
-- records that are those of rules, one by one
encoded : (R : List Rule) (ws : List Record) → length R ≡ length ws → ((i : ℕ) → i < length R → encode (rule R i) ≡ record_in ws i) → map encode R ≡ ws
unfolding rule record_in
encoded [] [] l each = refl
encoded [] (w ∷ ws) l each = absurd (omega arith)
encoded (x ∷ xs) [] l each = absurd (omega arith)
encoded (x ∷ xs) (w ∷ ws) l each = ap₂ ◌∷◌ (each 0 (omega arith)) (encoded xs ws (omega arith) (λ i h. each (suc i) (omega arith)))

module _ {s : List ℕ} (S : Small s) where
  accepts : Plan most_rules s S.n S.start
  accepts = checked-plan s S.n S.start S.accepted

  -- each record is its rule's
  each-record : (i : ℕ) → i < S.n → encode (rule (rules_of s) i) ≡ record_in (records_of s) i
  unfolding record_at
  each-record i h =
      let f = format_of s in
      let at = first_at s + length_of_record f * i in
      encode-decode f (record_at f s at) (rule (rules_of s) i) (number-below word_length s (at + word_length) S.bytes)
      (plan-decodes most_rules s S.n S.start accepts i h)
      ∙ sym (ap (λ (ws : List Record). record_in ws i) (plan-records most_rules s S.n S.start accepts) ∙ records-at f s (first_at s) S.n i h)

  -- its records are those of its rules
  records-are : records_bytes Format.Narrow (map encode (rules_of s)) ≡ records_bytes (format_of s) (records_of s)
  records-are =
      let same = encoded (rules_of s) (records_of s) (accepts.rules ∙ sym accepts.records) (λ k h. each-record k (omega (arith, accepts.rules))) in
      λ i. records_bytes (sym S.byte_label i) (same i)

  plan-is : records_bytes Format.Narrow (map encode (rules_of s)) ++ trailer_bytes Format.Narrow S.n S.start ≡ s
  plan-is =
      let f = format_of s in
      ap₂ (λ (x y : List ℕ). x ++ y)
      (records-are ∙ alone-words most_rules s S.n S.start S.bytes accepts S.no_prefix)
      (ap (λ (g : Format). trailer_bytes g S.n S.start) (sym S.byte_label)
      ∙ sym (alone-trailer most_rules s S.n S.start S.bytes accepts S.no_prefix))
      ∙ take-append-drop (length_of_record f * S.n) s

-- ---- its rules, in three shapes
-- rule 0 is empty, and each other one has a number; of three, rule 1 names rule 0 alone
data Shape : List Rule → Type 0 where
  one_rule : Shape (Rule.Empty ∷ [])
  two_rules : {y : Rule} → Coded y → Shape (Rule.Empty ∷ y ∷ [])
  of_three_rules : {y z : Rule} (a : Coded y) → wordless a.number ≡ true → Coded z → Shape (Rule.Empty ∷ y ∷ z ∷ [])

module _ (R : List Rule) (labels : (r : ℕ) → r < length R → T (labelled_to 0 (rule R r))) (lower : Lower R) where
  first-empty : 1 ≤ length R → rule R 0 ≡ Rule.Empty
  first-empty h = no_lower (rule R 0) (lower 0 h)

  second : 2 ≤ length R → Coded (rule R 1)
  second h = coded (rule R 1) (labels 1 h) (one_more (rule R 1) (lower 1 h))

  second-wordless : (h : 2 ≤ length R) → wordless (second h).number ≡ true
  second-wordless h = (second h).no_words (lower 1 h)

  third : 3 ≤ length R → Coded (rule R 2)
  third h = coded (rule R 2) (labels 2 h) (lower 2 h)

shaped : (R : List Rule) → ((r : ℕ) → r < length R → T (labelled_to 0 (rule R r))) → Lower R → 1 ≤ length R → length R ≤ 3 → Shape R
unfolding rule
shaped [] labels lower h g = absurd (omega arith)
shaped (x ∷ []) labels lower h g = subst (λ (e : Rule). Shape (e ∷ [])) (sym (first-empty (x ∷ []) labels lower h)) one_rule
shaped (x ∷ y ∷ []) labels lower h g =
    let R = x ∷ y ∷ [] in
    subst (λ (e : Rule). Shape (e ∷ y ∷ [])) (sym (first-empty R labels lower h)) (two_rules (second R labels lower (omega arith)))
shaped (x ∷ y ∷ z ∷ []) labels lower h g =
    let R = x ∷ y ∷ z ∷ [] in
    let two : 2 ≤ 3 = omega arith in
    subst (λ (e : Rule). Shape (e ∷ y ∷ z ∷ [])) (sym (first-empty R labels lower h))
    (of_three_rules (second R labels lower two) (second-wordless R labels lower two) (third R labels lower (omega arith)))
shaped (x ∷ y ∷ z ∷ w ∷ R) labels lower h g = absurd (omega arith)

-- ---- where they stand among the candidates
start_is : (start : ℕ) → start < 3 → bytes 2 start ≡ start ∷ 0 ∷ []
unfolding bytes
start_is start h =
    let low : start % 256 ≡ start = omega arith in
    let high : start / 256 ≡ 0 = omega arith in
    rw (low, high)

candidate-by : {s : List ℕ} (n i a b start : ℕ) → b < 48 → start < 3 → rules_at i ≡ n → place_of i ≡ 3 * (48 * a + b) + start → i < candidates
    → wordless a ≡ true → plain b ≡ true → drop (24 - 8 * n) (three_rules n start a b) ≡ s → Candidate s
unfolding candidate plan_of
candidate-by n i a b start few low p q h w l e =
    let by_three : place_of i / 3 ≡ 48 * a + b = omega arith in
    let rest : place_of i % 3 ≡ start = omega arith in
    let one : place_of i / 3 / 48 ≡ a = omega arith in
    let two : place_of i / 3 % 48 ≡ b = omega arith in
    record { place = i; within = h; same = rw (p, rest, one, two) e; labels = rw (one, two, w, l) }

module _ (i : ℕ) where
  few-places : i < 3 → (rules_at i ≡ 1) × (place_of i ≡ i)
  unfolding rules_at place_of
  few-places h = rw (lt-ltb i 3 h) (refl, refl)

  more-places : 3 ≤ i → i < 147 → (rules_at i ≡ 2) × (place_of i ≡ i - 3)
  unfolding rules_at place_of
  more-places h g = rw (le-ltb i 3 h, lt-ltb i 147 g) (refl, refl)

  most-places : 147 ≤ i → (rules_at i ≡ 3) × (place_of i ≡ i - 147)
  unfolding rules_at place_of
  most-places g = let h : 3 ≤ i = omega arith in rw (le-ltb i 3 h, le-ltb i 147 g) (refl, refl)

is-candidate : {R : List Rule} {s : List ℕ} (start : ℕ) → Shape R → start < length R
    → records_bytes Format.Narrow (map encode R) ++ trailer_bytes Format.Narrow (length R) start ≡ s → Candidate s
unfolding records_bytes record_bytes encode trailer_bytes bytes high_length magic three_rules rule_bytes wordless plain
is-candidate start one_rule h e =
    let at = few-places start (omega arith) in
    candidate-by 1 start 0 0 start (omega arith) (omega arith) at.0 (at.1 ∙ omega arith) (omega arith) refl refl
    ((λ i. 0 ∷ 0 ∷ 0 ∷ 0 ∷ 0 ∷ 0 ∷ 0 ∷ 0 ∷ 1 ∷ 0 ∷ (sym (start_is start (omega arith)) i ++ (8 ∷ 0 ∷ 0 ∷ 0 ∷ 109 ∷ 112 ∷ []))) ∙ e)
is-candidate start (two_rules b) h e =
    let at = more-places (3 + (3 * b.number + start)) (omega arith) (omega (arith, b.few)) in
    candidate-by 2 (3 + (3 * b.number + start)) 0 b.number start b.few (omega arith) at.0 (at.1 ∙ omega arith)
    (omega (arith, b.few)) refl b.no_label
    ((λ i. 0 ∷ 0 ∷ 0 ∷ 0 ∷ 0 ∷ 0 ∷ 0 ∷ 0 ∷
    ((sym b.same i ++ []) ++ (2 ∷ 0 ∷ (sym (start_is start (omega arith)) i ++ (16 ∷ 0 ∷ 0 ∷ 0 ∷ 109 ∷ 112 ∷ []))))) ∙ e)
is-candidate start (of_three_rules a w b) h e =
    let j = 3 * (48 * a.number + b.number) + start in
    let at = most-places (147 + j) (omega arith) in
    candidate-by 3 (147 + j) a.number b.number start b.few h at.0 (at.1 ∙ omega arith) (omega (arith, a.few, b.few)) w b.no_label
    ((λ i. 0 ∷ 0 ∷ 0 ∷ 0 ∷ 0 ∷ 0 ∷ 0 ∷ 0 ∷
    ((sym a.same i ++ (sym b.same i ++ [])) ++ (3 ∷ 0 ∷ (sym (start_is start h) i ++ (24 ∷ 0 ∷ 0 ∷ 0 ∷ 109 ∷ 112 ∷ []))))) ∙ e)

-- a plan of the note is in the list, and what is in the list is a plan of the note
pub members : (s : List ℕ) → Memᴰ s listed ↔ Small s
members s = (
  each-small listed counted.all_small_lem s,
  λ S.
      let R = rules_of s in
      let A = accepts S in
      let shape = shaped R S.zero_labels S.lower (omega (arith, A.rules, A.least)) (omega (arith, A.rules, S.few)) in
      listed_in (is-candidate S.start shape A.ends.below (rw A.rules (plan-is S))) S.accepted,
)
