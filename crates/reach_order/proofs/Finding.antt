-- The rules that the code finds are those that the rule names. Assumes nothing.
use Prim.Native.Nat.{ℕ, ◌<◌}
use Rattle.std.specs.Prelude.{None, Some, Option}
use mathlib.Core.Path.{◌≡◌, refl, sym, ap, ◌∙◌}
use Rattle.record.specs.declared.Record.{Record}
use Rattle.record.specs.declared.RuleRecords.{RuleRecords}
use Rattle.record.specs.Records.{record_in}
use Rattle.record.specs.RuleRecords.{records_lent}
use Rattle.record.proofs.Records.{records-at}
use Rattle.rule.specs.Rule.{decode, rule_of}
use Rattle.rule.specs.Sound.{rule}
use Rattle.rule.proofs.Rules.{rule-recorded}
use Rattle.reach_order.specs.Room.{rules_lent}
use mathlib.Core.Logic.{◌↔◌, inl, inr, ⊎_elim}
use Rattle.rule.specs.declared.Rule.{Rule}
use Rattle.rule.specs.Names.{Names, pair_one, pair_two, node_one, fill_one, fill_two, part_one, part_two, join_one, join_two}
use Rattle.reach_order.specs.declared.Next.{Next}
use Rattle.reach_order.specs.Named.{Named, names_of, In}
use Rattle.reach_order.specs.Search.{unseen, opened, Chosen}

names_in : {x : Rule} {k : ℕ} → Names x k → In (names_of x) k
unfolding names_of In
names_in pair_one = inl refl
names_in pair_two = inr refl
names_in node_one = inl refl
names_in fill_one = inl refl
names_in fill_two = inr refl
names_in part_one = inl refl
names_in part_two = inr refl
names_in join_one = inl refl
names_in join_two = inr refl

in-names : (x : Rule) (k : ℕ) → In (names_of x) k → Names x k
unfolding names_of In
in-names Rule.Empty k i = absurd i
in-names (Rule.Pair b c) k (inl e) = rw e pair_one
in-names (Rule.Pair b c) k (inr e) = rw e pair_two
in-names (Rule.Node a c) k (inl e) = rw e node_one
in-names (Rule.Node a c) k (inr e) = rw e node_one
in-names (Rule.Fill b c) k (inl e) = rw e fill_one
in-names (Rule.Fill b c) k (inr e) = rw e fill_two
in-names (Rule.Part a b c) k (inl e) = rw e part_one
in-names (Rule.Part a b c) k (inr e) = rw e part_two
in-names (Rule.Join b c) k (inl e) = rw e join_one
in-names (Rule.Join b c) k (inr e) = rw e join_two

pub names-exact : (x : Rule) (k : ℕ) → Names x k ↔ In (names_of x) k
names-exact x k = (names_in, in-names x k)

-- neither of two is none
pub no-names : {d : Named} → ((p : ℕ × ℕ) → d ≡ Some p → ⊥) → d ≡ None
no-names {d} h = elim d as (λ (d : Named). ((p : ℕ × ℕ) → d ≡ Some p → ⊥) → d ≡ None) [ None ↦ λ h. refl | Some p ↦ λ h. absurd (h p refl) ] h

-- what the marks of the named rules ask for
pub in_one : {d : Named} {a b : ℕ} → d ≡ Some (a, b) → In d a
unfolding In
in_one e = rw e (inl refl)

pub in_two : {d : Named} {a b : ℕ} → d ≡ Some (a, b) → In d b
unfolding In
in_two e = rw e (inr refl)

module _ (mark : ℕ → ℕ) (d : Named) where
  pub close-none : d ≡ None → Chosen mark d Next.Close
  unfolding Chosen In
  close-none e = rw e (λ k i. absurd i)

  pub open-named : (k : ℕ) → In d k → mark k ≡ unseen → Chosen mark d (Next.Open k)
  unfolding Chosen
  open-named k i e = (i, e)

  pub stop-named : (k : ℕ) → In d k → mark k ≡ opened → Chosen mark d Next.Stop
  unfolding Chosen
  stop-named k i e = (k, i, e)

  pub close-two : {a b : ℕ} → d ≡ Some (a, b) → (mark a ≡ unseen → ⊥) × (mark a ≡ opened → ⊥) → (mark b ≡ unseen → ⊥) × (mark b ≡ opened → ⊥)
      → Chosen mark d Next.Close
  unfolding Chosen In
  close-two {a} {b} e p q = rw e (λ k i. ⊎_elim (λ h. rw h p) (λ h. rw h q) i)

-- a rule read from its record
module _ (r : RuleRecords) (i : ℕ) (below : i < r.n) {w : Record} {d : Option Rule} (read : w ≡ record_in (records_lent r) i) (decoded : d ≡ decode r.format w) where
  rule-is : rule (rules_lent r) i ≡ rule_of d
  rule-is =
      rule-recorded r.format r.bytes.now r.first r.n i below
      ∙ sym (ap rule_of (decoded ∙ ap (decode r.format) (read ∙ records-at r.format r.bytes.now r.first r.n i below)))

  pub rule-read : {x : Rule} → d ≡ Some x → x ≡ rule (rules_lent r) i
  unfolding rule_of
  rule-read e = sym (rule-is ∙ ap rule_of e)

  pub rule-none : d ≡ None → rule (rules_lent r) i ≡ Rule.Empty
  unfolding rule_of
  rule-none e = rule-is ∙ ap rule_of e
