-- Sound rules with a closed start rule, written as a plan, are accepted, and are the plan's rules: each record means its rule, so it passes
-- 4 to 6; a rank falls along names, so no rule reaches itself; and the trailer is read back as it was written. Assumes nothing.
use Prim.Native.Nat.{ℕ, zero, suc, ◌+◌, ◌*◌, ◌^◌, ◌≤◌, ◌<◌}
use native.Mathlib.Omega.{arith}
use mathlib.Core.Bool.{Bool, true, false}
use mathlib.Core.List.{List, [], map}
use Rattle.std.specs.Prelude.{None, Result, Ok}
use Rattle.refusal.specs.declared.Refusal.{Refusal}
use mathlib.Core.Path.{◌≡◌, refl, ap, ap₂, ◌∙◌, fun_ext}
use lib.Dec.{T, ltb, ltb→lt, lt→ltb}
use lib.ListN.{length, length-append, length-map, get_or-map}
use borrow.Author.Tests.{le-leb, lt-ltb}
use Rattle.words.specs.Number.{base}
use Rattle.record.specs.declared.Format.{Format}
use Rattle.record.specs.declared.Record.{Record}
use Rattle.record.specs.Format.{length_of_record, most_label}
use Rattle.record.specs.Records.{records_bytes, record_in, kind_at}
use Rattle.record.proofs.RecordBytes.{length-records_bytes}
use Rattle.rule.specs.declared.Rule.{Rule}
use Rattle.rule.specs.Rule.{encode, every, sorts, closed, labelled_to, rules_in}
use Rattle.rule.specs.Sound.{rule, kind_in, Sound, Closed}
use Rattle.rule.proofs.Decode.{decode-encode}
use Rattle.rule.proofs.Names.{every-named}
use Rattle.reach.specs.Reaches.{lowest_cycle}
use Rattle.reach.specs.Order.{Acyclic}
use Rattle.reach.proofs.Named.{named-every, names-below}
use Rattle.reach.proofs.Acyclic.{falls-acyclic}
use Rattle.reach.proofs.Lowest.{lowest-none}
use Rattle.judge.specs.Judge.{names_judged, rule_judged, and_then, rules_judged, cycle_judged, start_judged, judged}
use Rattle.plan.specs.Check.{trailer_length, most_rules, trailer_bytes, plan_bytes, format_of, rules_of, in_limits, accepted, checked}
use Rattle.plan.proofs.TrailerBytes.{length-trailer_bytes, written-format, written-records, written-checked}
use Rattle.plan_rules.proofs.ReadBack.{AllSmall, records-back, encodes-small, rules-back}

is_true : (b : Bool) → T b → b ≡ true
is_true true t = refl
is_true false t = absurd t

module _ (f : Format) (C : List Rule) {rank : ℕ → ℕ} (S : Sound C rank) (labels : (r : ℕ) → r < length C → T (labelled_to (most_label f) (rule C r))) where
  abbrev ws : List Record
  ws = map encode C

  record_is : (i : ℕ) → record_in ws i ≡ encode (rule C i)
  unfolding record_in rule encode
  record_is i = get_or-map encode C i Rule.Empty

  kinds-are : kind_at ws ≡ kind_in C
  unfolding kind_at kind_in
  kinds-are = fun_ext (λ i. ap (λ (w : Record). w.kind) (record_is i))

  long : length ws ≡ length C
  long = length-map C encode

  rule-fine : (i : ℕ) → i < length C → rule_judged f ws i ≡ Ok tt
  unfolding rule_judged names_judged
  rule-fine i l =
      rw (record_is i, decode-encode f (rule C i) (labels i l), long, kinds-are, is_true (every (λ x. ltb x (length C)) (rule C i)) (S.in_range i l), is_true (sorts (kind_in C) (rule C i)) (S.sorted i l))

  rules-judged : (last : Result Unit Refusal) (m i : ℕ) → i + m ≤ length C → rules_judged f ws last i m ≡ last
  unfolding rules_judged and_then
  rules-judged last zero i h = refl
  rules-judged last (suc m) i h = rw (rule-fine i (omega (arith, h))) (rules-judged last m (suc i) (omega (arith, h)))

  acyclic : Acyclic C
  acyclic = falls-acyclic C rank (λ r k m. ltb→lt (rank k) (rank r) (every-named (λ x. ltb (rank x) (rank r)) m (S.falls r (names-below C r k m))))

  module _ (start : ℕ) (ends : Closed C start) (most : length C ≤ most_rules) where
    start_fine : start_judged ws start ≡ Ok tt
    unfolding start_judged
    start_fine = rw (long, kinds-are, lt-ltb start (length C) ends.below, is_true (closed (kind_in C start)) ends.closed_kind)

    no-cycle : lowest_cycle (rules_in f ws) ≡ None
    no-cycle = ap lowest_cycle (rules-back f C labels) ∙ (lowest-none C S.in_range).1 acyclic

    all-judged : judged f ws start ≡ Ok tt
    unfolding judged cycle_judged
    all-judged =
        rules-judged (cycle_judged (lowest_cycle (rules_in f ws)) (start_judged ws start)) (length ws) 0 (omega (arith, long))
        ∙ ap (λ x. cycle_judged x (start_judged ws start)) no-cycle
        ∙ start_fine

    all_small_lem : AllSmall f ws
    all_small_lem =
        encodes-small f C labels
        (λ r h. named-every (λ k. ltb k 65536) (rule C r)
        (λ k m. let l : k < length C = ltb→lt k (length C) (every-named (λ x. ltb x (length C)) m (S.in_range r h)) in lt→ltb k 65536 (omega (arith, l, most))))

    small : length ws < base ^ 2
    small = omega (arith, long, most)

    limits : in_limits most_rules (length ws) ≡ true
    unfolding in_limits
    limits = rw (long, le-leb 1 (length C) (omega (arith, ends.below)), le-leb (length C) most_rules most)

    -- the plan's bytes, format, rules, and what check says of it
    pub rules-bytes : length (plan_bytes f ws start) ≡ length_of_record f * length C + trailer_length
    unfolding plan_bytes
    rules-bytes =
        length-append (records_bytes f ws) (trailer_bytes f (length ws) start)
        ∙ ap₂ ◌+◌ (length-records_bytes f ws ∙ ap (λ (k : ℕ). length_of_record f * k) long) (length-trailer_bytes f (length ws) start)

    pub rules-format : format_of (plan_bytes f ws start) ≡ f
    unfolding plan_bytes
    rules-format = written-format f (records_bytes f ws) (length ws) start

    pub rules-read : rules_of (plan_bytes f ws start) ≡ C
    unfolding plan_bytes rules_of
    rules-read =
        ap₂ rules_in (written-format f (records_bytes f ws) (length ws) start) (written-records f (records_bytes f ws) (length ws) start (length-records_bytes f ws) small)
        ∙ ap (rules_in f) (records-back f all_small_lem)
        ∙ rules-back f C labels

    pub rules-accepted : checked (plan_bytes f ws start) ≡ Ok (record { n = (length C); start = start })
    unfolding plan_bytes checked accepted
    rules-accepted =
        written-checked f (records_bytes f ws) (length ws) start (length-records_bytes f ws) small most_rules (omega (arith, ends.below, most)) limits
        ∙ ap (λ (rs : List Record). accepted (length ws) start (judged f rs start)) (records-back f all_small_lem)
        ∙ ap (accepted (length ws) start) all-judged
        ∙ ap (λ (n : ℕ). Ok (record { n = n; start = start })) long
