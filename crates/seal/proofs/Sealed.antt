-- What an accepting answer of seal tells, the answer as a function of what seal looks at, and the answer for each outcome of the
-- tests in their order. All over the format, and for a record length that is none of the two there is one answer. Assumes nothing.
use Rattle.std.specs.Prelude.{Result, Ok, Err}
use Prim.Native.Nat.{ℕ, ◌+◌, ◌*◌, ◌/◌, ◌%◌, ◌≤◌, ◌<◌}
use mathlib.Core.Bool.{Bool, true, false, cond, ◌&&◌, ◌||◌, and-eq-true_iff}
use mathlib.Core.List.{List, ◌++◌}
use mathlib.Core.Path.{◌≡◌, refl, sym, ap, ◌∙◌}
use native.Mathlib.Omega.{arith}
use lib.Dec.{leb, eqb}
use lib.ListN.{length, take, drop}
use borrow.Author.Tests.{le-leb, lt-leb, leb-true, eqb-true}
use Rattle.words.specs.Number.{word_count}
use Rattle.record.specs.declared.Format.{Format}
use Rattle.refusal.specs.declared.Refusal.{Refusal}
use Rattle.record.specs.Format.{word_length, high_length, length_of_record, record_words}
use Rattle.record.specs.Records.{records_from, records_bytes}
use Rattle.judge.specs.Judge.{judged}
use Rattle.plan.specs.Check.{trailer_length, trailer_bytes, most_rules, in_limits, plan_bytes}
use Rattle.plan.specs.Written.{output_after}
use Rattle.seal.specs.Seal.{format_for, is_length, given_count, given, roomed, sealed_up_to, sealed, output_as, sealed_output}
use Rattle.words.specs.Front.{in_front}
use Rattle.record.proofs.Records.{records-length}
use Rattle.record.proofs.RecordBytes.{length-records_bytes}
use Rattle.words.proofs.Front.{in_front-more}
use Rattle.plan.proofs.TrailerBytes.{length-trailer_bytes}

-- ---- the record lengths: each is its format's
pub length-for : (f : Format) → (is_length (length_of_record f) ≡ true) × (format_for (length_of_record f) ≡ f)
unfolding is_length format_for high_length
length-for Format.Narrow = (refl, refl)
length-for Format.Wide = (refl, refl)

pub for-length : (l : ℕ) → is_length l ≡ true → length_of_record (format_for l) ≡ l
unfolding is_length format_for high_length
for-length l h = go (eqb l 8) (eqb l 10) refl refl h
  where
    go : (a b : Bool) → eqb l 8 ≡ a → eqb l 10 ≡ b → (a || b) ≡ true → length_of_record (cond b Format.Wide Format.Narrow) ≡ l
    go a true narrow wide h = sym (eqb-true l 10 wide)
    go true false narrow wide h = sym (eqb-true l 8 narrow)
    go false false narrow wide h = let z : ◌≡◌ {A = ℕ} 0 1 = cc in absurd (omega arith)

-- ---- the rules in a number of words
pub words-fit : (f : Format) (k : ℕ) → length_of_record f * (k / 2 / record_words f) ≤ k
unfolding high_length record_words
words-fit Format.Narrow k = omega arith
words-fit Format.Wide k = omega arith

pub words-whole : (f : Format) (n k : ℕ) → k ≡ length_of_record f * n → (k / 2 / record_words f ≡ n) × (k / 2 % record_words f ≡ 0)
unfolding high_length record_words
words-whole Format.Narrow n k e = (omega arith, omega arith)
words-whole Format.Wide n k e = (omega arith, omega arith)

words-counted : (f : Format) (k : ℕ) → k % record_words f ≡ 0 → length_of_record f * (k / record_words f) ≡ word_length * k
unfolding high_length record_words
words-counted Format.Narrow k e = omega arith
words-counted Format.Wide k e = omega arith

length-passed : (b : Bool) (x : Result ℕ Refusal) (e : Refusal) (m : ℕ) → cond b x (Err e) ≡ Ok m → (b ≡ true) × (x ≡ Ok m)
length-passed true x e m h = (refl, h)
length-passed false x e m h = let z : ◌≡◌ {A = ℕ} 0 1 = cc in absurd (omega arith)

length-roomed : (need : ℕ) (out : List ℕ) (j : Result Unit Refusal) (m : ℕ) → roomed need out j ≡ Ok m → (j ≡ Ok tt) × (need ≤ length out) × (m ≡ need)
unfolding roomed
length-roomed need out (Ok _) m h =
    let p = length-passed (leb need (length out)) (Ok need) Refusal.Room m h in
    let e = p.1 in
    (refl, leb-true _ _ p.0, cc)
length-roomed need out (Err e) m h = let z : ◌≡◌ {A = ℕ} 0 1 = cc in absurd (omega arith)

module _ (f : Format) where
  pub record Sealed (most : ℕ) (words : List ℕ) (start : ℕ) (out : List ℕ) (m : ℕ) : Type 0 where
    -- "2: the words aren't four to a rule": else none of those counted is left over, and each has its two bytes in a record
    pub none_left : length_of_record f * given_count f words ≡ word_length * word_count words
    pub limits : in_limits most (given_count f words) ≡ true
    pub fine : judged f (given f words) start ≡ Ok tt
    pub room : length_of_record f * given_count f words + trailer_length ≤ length out
    pub size : m ≡ length_of_record f * given_count f words + trailer_length

  pub sealed-facts : (most : ℕ) (words : List ℕ) (start : ℕ) (out : List ℕ) (m : ℕ) → sealed_up_to most f words start out ≡ Ok m → Sealed most words start out m
  unfolding sealed_up_to given_count
  sealed-facts most words start out m h =
      let n = given_count f words in
      let p = length-passed _ _ Refusal.Count m h in
      let q = (and-eq-true_iff _ (in_limits most n)).0 p.0 in
      let r = length-roomed (length_of_record f * n + trailer_length) out (judged f (given f words) start) m p.1 in
      record { none_left = words-counted f (word_count words) (eqb-true _ _ q.0); limits = q.1; fine = r.0; room = r.1; size = r.2 }

  unfoldable pub seal_answer : ℕ → Bool → ℕ → Result Unit Refusal → List ℕ → Result ℕ Refusal
  seal_answer most whole n j out = cond (whole && in_limits most n) (roomed (length_of_record f * n + trailer_length) out j) (Err Refusal.Count)

  pub sealed-answer : (most : ℕ) (words : List ℕ) (start : ℕ) (out : List ℕ)
      → sealed_up_to most f words start out ≡ seal_answer most (eqb (word_count words % record_words f) 0) (given_count f words) (judged f (given f words) start) out
  unfolding sealed_up_to seal_answer
  sealed-answer most words start out = refl

  -- ---- the answer by the tests in their order; n is the number of rules given
  module _ (most : ℕ) (words : List ℕ) (start : ℕ) (out : List ℕ) (n : ℕ) (e : n ≡ given_count f words) where
    abbrev asked : Result Unit Refusal
    asked = judged f (records_from f words 0 n) start

    abbrev need : ℕ
    need = length_of_record f * n + trailer_length

    answered : sealed_up_to most f words start out ≡ seal_answer most (eqb (word_count words % record_words f) 0) n asked out
    unfolding given
    answered = rw e (sealed-answer most words start out)

    pub not-counted : (eqb (word_count words % record_words f) 0 && in_limits most n) ≡ false → sealed_up_to most f words start out ≡ Err Refusal.Count
    unfolding seal_answer
    not-counted h = answered ∙ rw h

    module _ (counted : (eqb (word_count words % record_words f) 0 && in_limits most n) ≡ true) where
      pub counted-few : n ≤ most
      unfolding in_limits
      counted-few =
          let limits = ((and-eq-true_iff (eqb (word_count words % record_words f) 0) (in_limits most n)).0 counted).1 in
          leb-true n most ((and-eq-true_iff (leb 1 n) (leb n most)).0 limits).1

      -- and j is what judge answered
      module _ (j : Result Unit Refusal) (judging : j ≡ asked) where
        answered-judged : (k : Result Unit Refusal) → j ≡ k → sealed_up_to most f words start out ≡ roomed need out k
        unfolding seal_answer
        answered-judged k h = answered ∙ rw (counted, ← judging, h)

        pub not-fine : (r : Refusal) → j ≡ Err r → sealed_up_to most f words start out ≡ Err r
        unfolding roomed
        not-fine r h = answered-judged (Err r) h

        pub no_room : j ≡ Ok tt → length out < need → sealed_up_to most f words start out ≡ Err Refusal.Room
        unfolding roomed
        no_room fine h = answered-judged (Ok tt) fine ∙ rw (lt-leb need (length out) h)

        pub room-enough : j ≡ Ok tt → need ≤ length out → sealed_up_to most f words start out ≡ Ok need
        unfolding roomed
        room-enough fine h = answered-judged (Ok tt) fine ∙ rw (le-leb need (length out) h)

  -- ---- n rules are in the words given
  pub given-fits : (words : List ℕ) (n : ℕ) → n ≡ given_count f words → length_of_record f * n ≤ length words
  unfolding given_count
  given-fits words n e = rw e (words-fit f (length words))

  -- ---- what an accepting answer of length m lets seal write: n rules and a trailer
  module _ (most : ℕ) (words : List ℕ) (start : ℕ) (out : List ℕ) (m : ℕ) (q : Sealed most words start out m) (n : ℕ) (e : n ≡ given_count f words) where
    pub seal-few : n ≤ most
    unfolding in_limits
    seal-few =
        let g = given_count f words in
        omega (arith, leb-true g most ((and-eq-true_iff (leb 1 g) (leb g most)).0 q.limits).1)

    pub seal-room : length_of_record f * n + trailer_length ≤ length out
    seal-room = rw e q.room

    seal-records : given f words ≡ records_from f words 0 n
    unfolding given
    seal-records = ap (records_from f words 0) (sym e)

    -- the rules in front of the output, and then the trailer behind them
    pub seal-written : (rules whole : List ℕ)
        → rules ≡ in_front (records_bytes f (records_from f words 0 n)) out
        → whole ≡ take (length_of_record f * n) rules ++ (trailer_bytes f n start ++ drop (length_of_record f * n + trailer_length) rules)
        → whole ≡ output_as (Ok m) f words start out
    unfolding output_as output_after plan_bytes
    seal-written rules whole copied closed =
        let ws = records_from f words 0 n in
        let l = records-length f words 0 n in
        closed
        ∙ rw copied
        (in_front-more (records_bytes f ws) out (trailer_bytes f n start) (length_of_record f * n) trailer_length
        (length-records_bytes f ws ∙ ap (λ (k : ℕ). length_of_record f * k) l)
        (length-trailer_bytes f n start)
        ∙ rw (seal-records, l))

-- ---- by the record length that seal is told
module _ (words : List ℕ) (l start : ℕ) (out : List ℕ) where
  pub sealed-length : (f : Format) → f ≡ format_for l → is_length l ≡ true → sealed_up_to most_rules f words start out ≡ sealed words l start out
  unfolding sealed
  sealed-length f e h = rw (e, h)

  pub sealed-output : (f : Format) (r : Result ℕ Refusal) (whole : List ℕ) → f ≡ format_for l → r ≡ sealed words l start out
      → whole ≡ output_as r f words start out → whole ≡ sealed_output words l start out
  unfolding sealed_output
  sealed-output f r whole e h w = w ∙ rw (e, h)

  pub sealed-no-length : is_length l ≡ false → (sealed words l start out ≡ Err Refusal.Magic) × (sealed_output words l start out ≡ out)
  unfolding sealed_output sealed output_as output_after
  sealed-no-length h = (rw h, rw h)

  pub sealed-passed : (m : ℕ) → sealed words l start out ≡ Ok m → (is_length l ≡ true) × (sealed_up_to most_rules (format_for l) words start out ≡ Ok m)
  unfolding sealed
  sealed-passed m h = length-passed (is_length l) _ Refusal.Magic m h
