-- Unseal's answer and output for each outcome of check and of the test for room, what an accepting answer tells, and where an accepted
-- plan's records lie. Assumes nothing.
use Rattle.std.specs.Prelude.{Result, Ok, Err}
use Prim.Native.Nat.{ℕ, ◌+◌, ◌-◌, ◌*◌, ◌≤◌}
use mathlib.Core.List.{List, ◌++◌}
use mathlib.Core.Path.{◌≡◌, refl, sym, ap, ◌∙◌}
use native.Mathlib.Omega.{arith}
use lib.ListN.{length}
use mathlib.Core.Bool.{Bool, true, false, cond}
use lib.Dec.{leb}
use borrow.Author.Tests.{leb-true}
use Rattle.words.specs.Number.{word_count}
use Rattle.record.specs.declared.Format.{Format}
use Rattle.refusal.specs.declared.Refusal.{Refusal}
use Rattle.plan.specs.declared.Checked.{Checked}
use Rattle.record.specs.Format.{length_of_record, record_words}
use Rattle.record.specs.Records.{records_from, records_bytes}
use Rattle.plan.specs.Check.{trailer_length, most_rules, trailer_at, distance_of, format_of, records_of, checked}
use Rattle.words.specs.Front.{in_front}
use Rattle.unseal.specs.declared.Unsealed.{Unsealed}
use Rattle.unseal.specs.Unseal.{words_roomed, unsealed, words_after, unsealed_output}
use Rattle.record.proofs.Formats.{words-length, records-most}
use Rattle.plan.proofs.Sound.{checked-plan, plan-long, plan-first, plan-records}
use Rattle.plan.proofs.Prefix.{prefix-checked, prefix-format, prefix-records}

-- the words of n rules are few, and have so many bytes
pub words-short : (f : Format) (w n : ℕ) → w ≡ record_words f → w * n ≤ 5 * n
words-short f w n e = let most : 2 * record_words f * n ≤ 10 * n = rw (← words-length f) (records-most f n) in rw e (omega (arith, most))

room-bytes : (f : Format) (n : ℕ) (out : List ℕ) → record_words f * n ≤ word_count out → length_of_record f * n ≤ length out
room-bytes f n out h = rw (words-length f) (omega arith)

-- ---- the answer by the tests in their order; x is what check answered, f the plan's format
module _ (s out : List ℕ) (x : Result Checked Refusal) (checking : x ≡ checked s) where
  pub unsealed-refused : (r : Refusal) → x ≡ Err r → (Err r ≡ unsealed s out) × (out ≡ unsealed_output s out)
  unfolding unsealed_output unsealed words_roomed words_after
  unsealed-refused r h = rw (← checking, h) (refl, refl)

  module _ (n start : ℕ) (accepted : x ≡ Ok (record { n = n; start = start })) where
    accepting : checked s ≡ Ok (record { n = n; start = start })
    accepting = sym checking ∙ accepted

    pub unsealed-trailer : trailer_length ≤ length s
    unsealed-trailer = (checked-plan s n start accepting).trailer

    module _ (f : Format) (format : f ≡ format_of s) where
      pub unsealed-no-room : leb (record_words f * n) (word_count out) ≡ false → (Err Refusal.Room ≡ unsealed s out) × (out ≡ unsealed_output s out)
      unfolding unsealed_output unsealed words_roomed words_after
      unsealed-no-room l = rw (← format, accepting, l) (refl, refl)

      pub unsealed-long : length_of_record f * n + trailer_length ≤ length s
      unsealed-long = rw format (plan-long most_rules s n start (checked-plan s n start accepting))

      unsealed-records : records_of s ≡ records_from f s (length s - trailer_length - length_of_record f * n) n
      unsealed-records =
          let q = checked-plan s n start accepting in
          rw format (plan-records most_rules s n start q ∙ ap (λ (at : ℕ). records_from (format_of s) s at n) (plan-first most_rules s n start q))

      pub unsealed-room : leb (record_words f * n) (word_count out) ≡ true → length_of_record f * n ≤ length out
      unsealed-room l = room-bytes f n out (leb-true _ _ l)

      -- k is the record length, whole the output with the records in front
      pub unsealed-roomed : (k : ℕ) (whole : List ℕ) → k ≡ length_of_record f → leb (record_words f * n) (word_count out) ≡ true
          → whole ≡ in_front (records_bytes f (records_from f s (length s - trailer_length - k * n) n)) out
          → ((Ok (record { length = k; n = n; start = start })) ≡ unsealed s out) × (whole ≡ unsealed_output s out)
      unfolding unsealed_output unsealed words_roomed words_after
      unsealed-roomed k whole e l copied = rw (copied, ← format, accepting, l, unsealed-records, e) (refl, refl)

-- ---- what an accepting answer tells
pub record Opened (s out : List ℕ) (l n start : ℕ) : Type 0 where
  pub accepts : checked s ≡ Ok (record { n = n; start = start })
  pub size : l ≡ length_of_record (format_of s)
  pub room : record_words (format_of s) * n ≤ word_count out

abbrev length_in : Result Unsealed Refusal → ℕ
length_in (Ok x) = x.length
length_in (Err e) = 0

abbrev n_in : Result Unsealed Refusal → ℕ
n_in (Ok x) = x.n
n_in (Err e) = 0

abbrev start_in : Result Unsealed Refusal → ℕ
start_in (Ok x) = x.start
start_in (Err e) = 0

pub unsealed-facts : (s out : List ℕ) (l n start : ℕ) → unsealed s out ≡ Ok (record { length = l; n = n; start = start }) → Opened s out l n start
unfolding unsealed words_roomed
unsealed-facts s out l n start h = go (checked s) refl h
  where
    roomy : (b : Bool) (k m from : ℕ) → cond {A = Result Unsealed Refusal} b (Ok (record { length = k; n = m; start = from })) (Err Refusal.Room) ≡ Ok (record { length = l; n = n; start = start }) → (b ≡ true) × (l ≡ k) × (n ≡ m) × (start ≡ from)
    roomy true k m from e = (refl, sym (ap length_in e), sym (ap n_in e), sym (ap start_in e))
    roomy false k m from e = let z : ◌≡◌ {A = ℕ} 0 1 = cc in absurd (omega arith)

    go : (x : Result Checked Refusal) → checked s ≡ x → words_roomed (format_of s) out x ≡ Ok (record { length = l; n = n; start = start }) → Opened s out l n start
    go (Ok x) e h =
        let q = roomy (leb (record_words (format_of s) * x.n) (word_count out)) _ x.n x.start h in
        record { accepts = rw (q.2, q.3) e; size = q.1; room = rw q.2 (leb-true _ _ q.0) }
    go (Err r) e h = let z : ◌≡◌ {A = ℕ} 0 1 = cc in absurd (omega arith)

-- bytes before a plan change nothing here either
module _ (p s out : List ℕ) (long : trailer_length ≤ length s) (within : distance_of s ≤ trailer_at s) where
  prefix-check : checked (p ++ s) ≡ checked s
  unfolding checked
  prefix-check = prefix-checked p s long within most_rules

  pub prefix-unsealed : unsealed (p ++ s) out ≡ unsealed s out
  unfolding unsealed
  prefix-unsealed = rw (prefix-format p s long, prefix-check)

  pub prefix-unsealed_output : unsealed_output (p ++ s) out ≡ unsealed_output s out
  unfolding unsealed_output
  prefix-unsealed_output = rw (prefix-unsealed, prefix-format p s long, prefix-records p s long within)
