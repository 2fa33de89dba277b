-- Bytes before a plan change nothing (prefix is document 01's cover). The trailer is found from the end, and the rules from
-- the trailer, so every offset moves by the prefix's length and reads the same bytes. Assumes nothing.
use Rattle.std.specs.Prelude.{Ok, Err}
use Prim.Native.Nat.{ℕ, ◌+◌, ◌-◌, ◌*◌, ◌≤◌}
use mathlib.Core.Bool.{Bool, true, false, ◌&&◌, and-eq-true_iff}
use mathlib.Core.List.{List, ◌++◌}
use mathlib.Core.Path.{◌≡◌, refl, sym, ap, ap₂, ◌∙◌}
use native.Mathlib.Nat.{add-zero, add_assoc}
use native.Mathlib.Omega.{arith}
use lib.Dec.{leb, eqb}
use lib.ListN.{length, drop, length-append}
use lib.Seq.{drop-append-add}
use borrow.Table.Steps.{cases}
use borrow.Author.Tests.{le-leb, leb-true}
use Rattle.words.specs.Number.{number}
use Rattle.words.proofs.Laws.{number-after}
use Rattle.refusal.specs.declared.Refusal.{Refusal}
use Rattle.record.specs.declared.Format.{Format}
use Rattle.record.specs.Format.{length_of_record}
use Rattle.record.specs.Records.{records_from}
use Rattle.rule.specs.Rule.{rules_in}
use Rattle.plan.specs.Check.{trailer_length, at_start, at_distance, at_mark, magic, trailer_at, count_of, start_of, distance_of, same, marked_as, marked, format_of, first_at, records_of, rules_of, in_limits, checked_up_to}
use Rattle.plan.proofs.Sound.{accepted-plan, answer, checked-answer}
use Rattle.record.proofs.Records.{records-after}

module _ (p s : List ℕ) (long : trailer_length ≤ length s) where
  prefix-trailer_at : trailer_at (p ++ s) ≡ length p + trailer_at s
  unfolding trailer_at
  prefix-trailer_at = omega (arith, length-append p s)

  -- a number of the trailer
  field : (w k : ℕ) → number w (p ++ s) (trailer_at (p ++ s) + k) ≡ number w s (trailer_at s + k)
  field w k =
      ap (number w (p ++ s)) (ap (λ (x : ℕ). x + k) prefix-trailer_at ∙ add_assoc (length p) (trailer_at s) k)
      ∙ number-after w p s (trailer_at s + k)

  pub prefix-count : count_of (p ++ s) ≡ count_of s
  unfolding count_of
  prefix-count = ap (number 2 (p ++ s)) (sym (add-zero (trailer_at (p ++ s)))) ∙ field 2 0 ∙ ap (number 2 s) (add-zero (trailer_at s))

  pub prefix-start : start_of (p ++ s) ≡ start_of s
  unfolding start_of
  prefix-start = field 2 at_start

  pub prefix-distance : distance_of (p ++ s) ≡ distance_of s
  unfolding distance_of
  prefix-distance = field 4 at_distance

  prefix-marked_as : (f : Format) → marked_as f (p ++ s) ≡ marked_as f s
  unfolding marked_as
  prefix-marked_as f =
      ap (λ (l : List ℕ). same l (magic f))
      (ap (λ (k : ℕ). drop k (p ++ s)) (ap (λ (x : ℕ). x + at_mark) prefix-trailer_at ∙ add_assoc (length p) (trailer_at s) at_mark)
      ∙ drop-append-add p s (trailer_at s + at_mark))

  pub prefix-marked : marked (p ++ s) ≡ marked s
  unfolding marked
  prefix-marked = rw (prefix-marked_as Format.Narrow, prefix-marked_as Format.Wide)

  pub prefix-format : format_of (p ++ s) ≡ format_of s
  unfolding format_of
  prefix-format = rw (prefix-marked_as Format.Wide)

  module _ (within : distance_of s ≤ trailer_at s) where
    pub prefix-records : records_of (p ++ s) ≡ records_of s
    unfolding records_of first_at
    prefix-records =
        let e : trailer_at (p ++ s) - distance_of (p ++ s) ≡ length p + (trailer_at s - distance_of s) = omega (arith, prefix-trailer_at, prefix-distance) in
        ap (λ (f : Format). records_from f (p ++ s) (trailer_at (p ++ s) - distance_of (p ++ s)) (count_of (p ++ s))) prefix-format
        ∙ ap₂ (records_from (format_of s) (p ++ s)) e prefix-count
        ∙ records-after (format_of s) p s (first_at s) (count_of s)

    pub prefix-rules : rules_of (p ++ s) ≡ rules_of s
    unfolding rules_of
    prefix-rules = ap₂ rules_in prefix-format prefix-records

    pub prefix-checked : (most : ℕ) → checked_up_to most (p ++ s) ≡ checked_up_to most s
    prefix-checked most =
        let a : leb trailer_length (length (p ++ s)) ≡ true = le-leb trailer_length (length (p ++ s)) (omega (arith, length-append p s)) in
        let b : leb trailer_length (length s) ≡ true = le-leb _ _ long in
        let c : leb (distance_of s) (trailer_at (p ++ s)) ≡ true = le-leb (distance_of s) (trailer_at (p ++ s)) (omega (arith, prefix-trailer_at)) in
        let d : leb (distance_of s) (trailer_at s) ≡ true = le-leb _ _ within in
        rw (checked-answer most (p ++ s), checked-answer most s, prefix-count, prefix-start, prefix-distance, prefix-marked, prefix-format, prefix-records, a, b, c, d)

-- check's answer is the same unless the plan by itself is refused for its mark or its distance: more bytes in front can make
-- a trailer or a distance fit that didn't
is_true : (b : Bool) → (b ≡ false → ⊥) → b ≡ true
is_true true h = refl
is_true false h = absurd (h refl)

module _ (p s : List ℕ) (most : ℕ) (magical : checked_up_to most s ≡ Err Refusal.Magic → ⊥) (near : checked_up_to most s ≡ Err Refusal.Distance → ⊥) where
  trailer-passed : (leb trailer_length (length s) && marked s) ≡ true
  unfolding answer
  trailer-passed = is_true (leb trailer_length (length s) && marked s) (λ e. magical (checked-answer most s ∙ rw e))

  distance-passed : in_limits most (count_of s) ≡ true → (eqb (distance_of s) (length_of_record (format_of s) * count_of s) && leb (distance_of s) (trailer_at s)) ≡ true
  unfolding answer
  distance-passed c =
      is_true (eqb (distance_of s) (length_of_record (format_of s) * count_of s) && leb (distance_of s) (trailer_at s))
      (λ e. near (checked-answer most s ∙ rw (trailer-passed, c, e)))

  pub prefix-answer : checked_up_to most (p ++ s) ≡ checked_up_to most s
  unfolding answer
  prefix-answer =
      let t = (and-eq-true_iff (leb trailer_length (length s)) (marked s)).0 trailer-passed in
      let long : trailer_length ≤ length s = leb-true trailer_length (length s) t.0 in
      cases (in_limits most (count_of s))
      (λ c. prefix-checked p s long (leb-true (distance_of s) (trailer_at s) ((and-eq-true_iff (eqb (distance_of s) (length_of_record (format_of s) * count_of s)) (leb (distance_of s) (trailer_at s))).0 (distance-passed c)).1) most)
      (λ c.
      let a : leb trailer_length (length (p ++ s)) ≡ true = le-leb trailer_length (length (p ++ s)) (omega (arith, length-append p s)) in
      rw (checked-answer most (p ++ s), checked-answer most s, prefix-count p s long, prefix-marked p s long, a, t.0, t.1, c))

-- an accepted plan is accepted with any prefix, with the same numbers and rules
module _ (p s : List ℕ) (most n start : ℕ) (h : checked_up_to most s ≡ Ok (record { n = n; start = start })) where
  pub prefix-accepted : checked_up_to most (p ++ s) ≡ Ok (record { n = n; start = start })
  prefix-accepted = let q = accepted-plan most s n start h in prefix-checked p s q.trailer q.within most ∙ h

  pub prefix-accepted-rules : rules_of (p ++ s) ≡ rules_of s
  prefix-accepted-rules = let q = accepted-plan most s n start h in prefix-rules p s q.trailer q.within

  pub prefix-accepted-format : format_of (p ++ s) ≡ format_of s
  prefix-accepted-format = let q = accepted-plan most s n start h in prefix-format p s q.trailer
