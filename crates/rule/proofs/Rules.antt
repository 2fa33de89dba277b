-- Rules of records. Where every record decodes, names rules in range and has the right sorts, the kind in a record is the kind of its
-- rule, so the rules are sound for every rank that falls along names. Assumes nothing.
use Rattle.std.specs.Prelude.{Option, Some}
use Prim.Native.Nat.{ℕ, zero, suc, ◌+◌, ◌*◌, ◌≤◌, ◌<◌}
use mathlib.Core.Bool.{Bool, true, false, ◌&&◌}
use mathlib.Core.List.{List}
use mathlib.Core.Path.{◌≡◌, sym, ap, fun_ext, ◌∙◌}
use native.Mathlib.Decide.{dec_lt}
use native.Mathlib.Omega.{arith}
use lib.Dec.{T, ltb, ltb→lt, lt→ltb}
use lib.ListN.{length, length-map, get_or-map, get_or-eq_default}
use Rattle.record.specs.declared.Format.{Format}
use Rattle.record.specs.declared.Record.{Record}
use Rattle.rule.specs.declared.Rule.{Rule}
use Rattle.rule.specs.Rule.{kind_empty, decode, encode, rule_of, every, sorts, rules_in}
use Rattle.record.specs.Record.{length_of_record, record_at}
use Rattle.record.specs.Records.{records_from, record_in, kind_at}
use Rattle.record.proofs.Records.{records-length}
use Rattle.rule.specs.Sound.{rule, kind_in, Sound}
use Rattle.rule.proofs.Decode.{decode-kind, decode-labelled}

-- past the end of the records a kind is that of the empty rule
pub kind-past : (f : Format) (s : List ℕ) (at n i : ℕ) → n ≤ i → kind_at (records_from f s at n) i ≡ kind_empty
unfolding kind_at
kind-past f s at n i past = ap (λ (w : Record). w.kind) (get_or-eq_default (records_from f s at n) _ (rw (records-length f s at n) past))

-- past the last rule a rule is empty
pub past-rule : (R : List Rule) (r : ℕ) → length R ≤ r → rule R r ≡ Rule.Empty
unfolding rule
past-rule R r h = get_or-eq_default R Rule.Empty h

-- what a record has that is judged fine
pub record Named (ws : List Record) (i : ℕ) (d : Option Rule) : Type 0 where
  pub means : Rule
  pub decodes : d ≡ Some means
  pub ranged : T (every (λ x. ltb x (length ws)) means)
  pub sorted : T (sorts (kind_at ws) means)

-- the rule with a number
rule-in : (f : Format) (ws : List Record) (i : ℕ) → rule (rules_in f ws) i ≡ rule_of (decode f (record_in ws i))
unfolding rule rules_in record_in decode rule_of
rule-in f ws i = get_or-map (λ (w : Record). rule_of (decode f w)) ws i (record { kind = 0; one = 0; two = 0; three = 0; high = 0 })

pub length-rules_in : (f : Format) (ws : List Record) → length (rules_in f ws) ≡ length ws
unfolding rules_in
length-rules_in f ws = length-map ws (λ (w : Record). rule_of (decode f w))

pub rule-decoded : (f : Format) (ws : List Record) (i : ℕ) (r : Rule) → decode f (record_in ws i) ≡ Some r → rule (rules_in f ws) i ≡ r
unfolding rule_of
rule-decoded f ws i r h = rule-in f ws i ∙ ap rule_of h

-- past the end a record counts as the empty rule's
past : (f : Format) (ws : List Record) (i : ℕ) → length ws ≤ i → decode f (record_in ws i) ≡ Some Rule.Empty
unfolding record_in decode
past f ws i h = rw (get_or-eq_default ws (record { kind = 0; one = 0; two = 0; three = 0; high = 0 }) h)

kind-decoded : (f : Format) (ws : List Record) (i : ℕ) (r : Rule) → decode f (record_in ws i) ≡ Some r → kind_in (rules_in f ws) i ≡ kind_at ws i
unfolding kind_in kind_at
kind-decoded f ws i r h = ap (λ (x : Rule). (encode x).kind) (rule-decoded f ws i r h) ∙ decode-kind f (record_in ws i) r h

-- where every record decodes, the records' kinds are the rules' kinds
pub kinds : (f : Format) (ws : List Record) → ((i : ℕ) → i < length ws → Named ws i (decode f (record_in ws i))) → kind_at ws ≡ kind_in (rules_in f ws)
kinds f ws each =
    fun_ext λ i. elim (dec_lt i (length ws)) [
      | yes l ↦ sym (kind-decoded f ws i (each i l).means (each i l).decodes)
      | no g ↦ sym (kind-decoded f ws i Rule.Empty (past f ws i (omega (arith, g))))
    ]

-- the rule that a record means
module _ (f : Format) (ws : List Record) (each : (i : ℕ) → i < length ws → Named ws i (decode f (record_in ws i))) where
  at : (i : ℕ) → i < length (rules_in f ws) → Named ws i (decode f (record_in ws i))
  at i l = each i (omega (arith, length-rules_in f ws))

  means-rule : (i : ℕ) (l : i < length (rules_in f ws)) → rule (rules_in f ws) i ≡ (at i l).means
  means-rule i l = rule-decoded f ws i (at i l).means (at i l).decodes

  pub named-ranged : (i : ℕ) → i < length (rules_in f ws) → T (every (λ x. ltb x (length (rules_in f ws))) (rule (rules_in f ws) i))
  named-ranged i l = rw (means-rule i l, length-rules_in f ws) (at i l).ranged

  pub named-sound : (rank : ℕ → ℕ)
      → ((i : ℕ) → i < length (rules_in f ws) → T (every (λ x. ltb (rank x) (rank i)) (rule (rules_in f ws) i)))
      → ((i : ℕ) → i < length (rules_in f ws) → rank i < length (rules_in f ws))
      → Sound (rules_in f ws) rank
  named-sound rank falls ranked =
      record {
        in_range = named-ranged;
        falls = falls;
        ranked = ranked;
        sorted = λ i l. rw (means-rule i l, ← kinds f ws each) (at i l).sorted;
        labels = λ i l. rw (means-rule i l) (decode-labelled f (record_in ws i) (at i l).means (at i l).decodes);
      }

-- the rule with a number is what its record means
pub rule-recorded : (f : Format) (s : List ℕ) (at n i : ℕ) → i < n → rule (rules_in f (records_from f s at n)) i ≡ rule_of (decode f (record_at f s (at + length_of_record f * i)))
unfolding rule rules_in records_from
rule-recorded f s at zero i below = absurd (omega arith)
rule-recorded f s at (suc n) zero below = ap (λ (k : ℕ). rule_of (decode f (record_at f s k))) (omega arith)
rule-recorded f s at (suc n) (suc i) below =
    rule-recorded f s (at + length_of_record f) n i (omega arith) ∙ ap (λ (k : ℕ). rule_of (decode f (record_at f s k))) (omega arith)
