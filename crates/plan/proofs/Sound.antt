-- What an accepted plan has. Check's answer is the last of a row of tests, so each of them passed; the rules were judged fine, so they
-- are sound, and each record means the rule with its number. Assumes nothing.
use Rattle.std.specs.Prelude.{Result, Ok, Err, Option, Some}
use Prim.Native.Nat.{ℕ, ◌+◌, ◌-◌, ◌*◌, ◌≤◌, ◌<◌}
use mathlib.Core.Bool.{Bool, true, false, cond, ◌&&◌, and-eq-true_iff}
use mathlib.Core.List.{List}
use mathlib.Core.Path.{◌≡◌, refl, sym, ap, ◌∙◌}
use native.Mathlib.Omega.{arith}
use lib.Dec.{leb, eqb}
use lib.ListN.{length}
use borrow.Author.Tests.{leb-true, eqb-true, le-leb, eq-eqb}
use Rattle.refusal.specs.declared.Refusal.{Refusal}
use Rattle.record.specs.declared.Format.{Format}
use Rattle.record.specs.declared.Record.{Record}
use Rattle.rule.specs.declared.Rule.{Rule}
use Rattle.record.specs.Format.{length_of_record}
use Rattle.record.specs.Record.{record_at}
use Rattle.rule.specs.Rule.{decode}
use Rattle.record.specs.Records.{records_from, record_in}
use Rattle.rule.specs.Sound.{rule, Sound, Closed}
use Rattle.record.proofs.Records.{records-length, records-at}
use Rattle.rule.proofs.Rules.{length-rules_in, rule-decoded}
use Rattle.reach.specs.Order.{Ranged, Acyclic, rank}
use Rattle.judge.specs.Judge.{judged}
use Rattle.judge.proofs.Fit.{fine-fit}
use Rattle.plan.proofs.Parts.{same-parts}
use Rattle.plan.specs.declared.Checked.{Checked}
use Rattle.plan.specs.Check.{trailer_length, most_rules, trailer_at, count_of, start_of, distance_of, first_at, records_of, rules_of, accepted, in_limits, marked, format_of, checked_up_to, checked}

-- ---- tests that passed
accepted-passed : (b : Bool) (x : Result Checked Refusal) (e : Refusal) (n start : ℕ)
    → cond b x (Err e) ≡ Ok (record { n = n; start = start })
    → (b ≡ true) × (x ≡ Ok (record { n = n; start = start }))
accepted-passed true x e n start h = (refl, h)
accepted-passed false x e n start h = let z : ◌≡◌ {A = ℕ} 0 1 = cc in absurd (omega arith)

accepted-fine : (m from : ℕ) (j : Result Unit Refusal) (n start : ℕ)
    → accepted m from j ≡ Ok (record { n = n; start = start })
    → (m ≡ n) × (from ≡ start) × (j ≡ Ok tt)
unfolding accepted
accepted-fine m from (Ok _) n start h = let e = same-parts h in (e.0, e.1, refl)
accepted-fine m from (Err e) n start h = let z : ◌≡◌ {A = ℕ} 0 1 = cc in absurd (omega arith)

-- check's answer as a function of what it looks at: whether the trailer fits, the mark, the trailer's numbers, whether the
-- distance stays within, and the records
unfoldable pub answer : ℕ → Format → Bool → Bool → ℕ → ℕ → ℕ → Bool → List Record → Result Checked Refusal
answer most f long mark n start distance within ws =
    cond (long && mark)
    (cond (in_limits most n)
    (cond (eqb distance (length_of_record f * n) && within) (accepted n start (judged f ws start)) (Err Refusal.Distance))
    (Err Refusal.Count))
    (Err Refusal.Magic)

pub checked-answer : (most : ℕ) (s : List ℕ)
    → checked_up_to most s ≡ answer most (format_of s) (leb trailer_length (length s)) (marked s) (count_of s) (start_of s) (distance_of s) (leb (distance_of s) (trailer_at s)) (records_of s)
unfolding checked_up_to answer
checked-answer most s = refl

-- an accepted plan: its numbers are the trailer's and in range, its rules lie in it, and they are sound
pub record Plan (most : ℕ) (s : List ℕ) (n start : ℕ) : Type 0 where
  pub trailer : trailer_length ≤ length s
  pub magical : marked s ≡ true
  pub count : n ≡ count_of s
  pub begins : start ≡ start_of s
  pub least : 1 ≤ n
  pub greatest : n ≤ most
  pub distance : distance_of s ≡ length_of_record (format_of s) * n
  pub within : distance_of s ≤ trailer_at s
  pub fine : judged (format_of s) (records_of s) start ≡ Ok tt
  pub records : length (records_of s) ≡ n
  pub rules : length (rules_of s) ≡ n
  pub ranged : Ranged (rules_of s)
  pub acyclic : Acyclic (rules_of s)
  pub sound : Sound (rules_of s) (rank (rules_of s))
  pub ends : Closed (rules_of s) start

pub accepted-plan : (most : ℕ) (s : List ℕ) (n start : ℕ) → checked_up_to most s ≡ Ok (record { n = n; start = start }) → Plan most s n start
unfolding checked_up_to in_limits records_of rules_of
accepted-plan most s n start h =
    let a = accepted-passed (leb trailer_length (length s) && marked s) _ Refusal.Magic n start h in
    let b = accepted-passed (in_limits most (count_of s)) _ Refusal.Count n start a.1 in
    let c = accepted-passed (eqb (distance_of s) (length_of_record (format_of s) * count_of s) && leb (distance_of s) (trailer_at s)) _ Refusal.Distance n start b.1 in
    let d = accepted-fine (count_of s) (start_of s) (judged (format_of s) (records_of s) (start_of s)) n start c.1 in
    let a' = (and-eq-true_iff (leb trailer_length (length s)) (marked s)).0 a.0 in
    let b' = (and-eq-true_iff (leb 1 (count_of s)) (leb (count_of s) most)).0 b.0 in
    let c' = (and-eq-true_iff (eqb (distance_of s) (length_of_record (format_of s) * count_of s)) (leb (distance_of s) (trailer_at s))).0 c.0 in
    let fine : judged (format_of s) (records_of s) start ≡ Ok tt = ap (judged (format_of s) (records_of s)) (sym d.1) ∙ d.2 in
    let l : length (records_of s) ≡ n = records-length (format_of s) s _ (count_of s) ∙ d.0 in
    let fit = fine-fit (format_of s) (records_of s) start fine in
    record {
      trailer = leb-true _ _ a'.0;
      magical = a'.1;
      count = sym d.0;
      begins = sym d.1;
      least = rw (sym d.0) (leb-true _ _ b'.0);
      greatest = rw (sym d.0) (leb-true _ _ b'.1);
      distance = eqb-true _ _ c'.0 ∙ ap (λ (k : ℕ). length_of_record (format_of s) * k) d.0;
      within = leb-true _ _ c'.1;
      fine = fine;
      records = l;
      rules = length-rules_in (format_of s) (records_of s) ∙ l;
      ranged = fit.ranged;
      acyclic = fit.acyclic;
      sound = fit.sound;
      ends = fit.ends;
    }

pub checked-plan : (s : List ℕ) (n start : ℕ) → checked s ≡ Ok (record { n = n; start = start }) → Plan most_rules s n start
unfolding checked
checked-plan s n start h = accepted-plan most_rules s n start h

-- what is accepted up to a limit, is up to a higher one
pub accepted-more : (most more : ℕ) (s : List ℕ) (n start : ℕ) → most ≤ more → checked_up_to most s ≡ Ok (record { n = n; start = start }) → checked_up_to more s ≡ Ok (record { n = n; start = start })
unfolding answer in_limits accepted
accepted-more most more s n start h e =
    let q = accepted-plan most s n start e in
    rw (checked-answer more s, le-leb _ _ q.trailer, q.magical, ← q.count, ← q.begins, le-leb 1 n q.least, le-leb n more (omega (arith, q.greatest)), eq-eqb _ _ q.distance, le-leb _ _ q.within, q.fine)

-- ---- where an accepted plan's rules lie
module _ (most : ℕ) (s : List ℕ) (n start : ℕ) (q : Plan most s n start) where
  pub plan-long : length_of_record (format_of s) * n + trailer_length ≤ length s
  unfolding trailer_at
  plan-long = omega (arith, q.trailer, q.distance, q.within)

  pub plan-first : first_at s ≡ length s - trailer_length - length_of_record (format_of s) * n
  unfolding first_at trailer_at
  plan-first = ap (λ (d : ℕ). length s - trailer_length - d) q.distance

  pub plan-records : records_of s ≡ records_from (format_of s) s (first_at s) n
  unfolding records_of
  plan-records = ap (records_from (format_of s) s (first_at s)) (sym q.count)

  -- the record with a number means the rule with that number
  pub plan-decodes : (i : ℕ) → i < n → decode (format_of s) (record_at (format_of s) s (first_at s + length_of_record (format_of s) * i)) ≡ Some (rule (rules_of s) i)
  unfolding rules_of
  plan-decodes i l =
      let named = (fine-fit (format_of s) (records_of s) start q.fine).each i (omega (arith, q.records)) in
      let at : record_in (records_of s) i ≡ record_at (format_of s) s (first_at s + length_of_record (format_of s) * i) =
      ap (λ (ws : List Record). record_in ws i) plan-records ∙ records-at (format_of s) s (first_at s) n i l
      in
      ap (decode (format_of s)) (sym at) ∙ named.decodes ∙ ap {B = Option Rule} (λ (r : Rule). Some r) (sym (rule-decoded (format_of s) (records_of s) i named.means named.decodes))
