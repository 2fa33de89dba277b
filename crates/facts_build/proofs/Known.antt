-- The rows of a plan's rules, and no more, are known as the plan's facts: in each row by the table, and past the last row both know an
-- empty rule. So what is said of known facts is said of the plan's, and the rows can be climbed. Assumes nothing.
use Prim.Native.Nat.{ℕ, zero, suc, ◌+◌, ◌*◌, ◌/◌, ◌≤◌, ◌<◌}
use native.Mathlib.Omega.{arith}
use native.Mathlib.Decide.{dec_lt}
use mathlib.Core.Path.{◌≡◌, refl, sym, ap, ◌∙◌}
use mathlib.Core.List.{List}
use lib.ListN.{length, take}
use lib.Seq.{length-take-le}
use borrow.Author.Tests.{le-ltb}
use Rattle.words.proofs.Laws.{number-take}
use Rattle.rule.specs.declared.Rule.{Rule}
use Rattle.rule.specs.Sound.{rule, Sound}
use Rattle.rule.proofs.Rules.{past-rule}
use Rattle.forest.specs.Expression.{Expression, rhs, unfolded, expression}
use Rattle.forest.specs.Place.{Side, is_empty, representative}
use Rattle.forest.proofs.Unfold.{named-below}
use Rattle.model.specs.Facts.{facts_of, toward, last, depth}
use Rattle.work_rows.specs.Rows.{row_length, field, at_kind, at_label, at_one, at_two, row_at, rule_at, rule_in, Holds}
use Rattle.facts.specs.Facts.{at_representative, at_emptiness, at_link, facts_end, at_toward, at_last, at_depth, at_jump, link_length, link_in, In, row_or, facts_in, FactsHeld, Below, Built, Climbs}
use Rattle.facts_build.specs.RuleFacts.{rule_facts_in}
use Rattle.facts.proofs.Words.{facts_in-rule}
use Rattle.facts.proofs.Along.{leads-more}
use Rattle.facts_build.proofs.Ways.{toward-done, depth_falls}
use Rattle.facts_build.proofs.Held.{facts-held-of, facts-of}

link-inside : (s : Side) → at_link s + link_length ≤ facts_end
link-inside Side.left = omega arith
link-inside Side.right = omega arith

-- the first rows keep what they hold
module _ (m : ℕ) (t : List ℕ) (r : ℕ) (fits : row_length * r + row_length ≤ m) where
  field-take : (w o : ℕ) → o + w ≤ row_length → field w (take m t) r o ≡ field w t r o
  unfolding field
  field-take w o inside = number-take w m t (row_length * r + o) (omega arith)

  link-take : (s : Side) → link_in (take m t) s r ≡ link_in t s r
  unfolding link_in
  link-take s =
      let same : (w : ℕ) → w + 2 ≤ link_length → field 2 (take m t) r (at_link s + w) ≡ field 2 t r (at_link s + w)
      = λ w h. field-take 2 (at_link s + w) (omega (arith, link-inside s)) in
      rw (same at_toward (omega arith), same at_last (omega arith), same at_depth (omega arith), same at_jump (omega arith))

  facts-take : rule_facts_in (take m t) r ≡ rule_facts_in t r
  unfolding rule_facts_in
  facts-take = rw (field-take 2 at_representative (omega arith), field-take 2 at_emptiness (omega arith), link-take Side.left, link-take Side.right)

  rule-take : rule_in (take m t) r ≡ rule_in t r
  unfolding rule_in rule_at row_at
  rule-take =
      rw (field-take 2 at_kind (omega arith), field-take 4 at_label (omega arith), field-take 2 at_one (omega arith), field-take 2 at_two (omega arith))

-- a rule past the end of a plan is empty
past-unfolded : (n : ℕ) (R : List Rule) (r : ℕ) → rule R r ≡ Rule.Empty → unfolded n R r ≡ Expression.empty r
unfolding unfolded rhs
past-unfolded zero R r e = refl
past-unfolded (suc n) R r e = rw e

past : (R : List Rule) (r : ℕ) → length R ≤ r → expression R r ≡ Expression.empty r
unfolding expression
past R r h = past-unfolded (length R) R r (past-rule R r h)

-- past the last row
row-or-else : {A : Type 0} (t : List ℕ) (r : ℕ) (x d : A) → length t / row_length ≤ r → row_or t r x d ≡ d
unfolding row_or
row-or-else t r x d h = rw (le-ltb _ _ h)

-- a list of exactly a plan's rows
module _ {R : List Rule} {t : List ℕ} (exact : length t ≡ row_length * length R) (h : Holds R t (length R)) (T : FactsHeld R (Below (length R)) t) where
  split : {P : Type 0} (r : ℕ) → (r < length R → P) → (length t / row_length ≤ r → length R ≤ r → P) → P
  split {P} r inside beyond =
      elim (dec_lt r (length R)) as (λ (z : Dec (r < length R)). P) [ yes below ↦ inside below | no above ↦ beyond (omega arith) (omega arith) ]

  same-rule : (r : ℕ) → (facts_in t).rule r ≡ (facts_of R).rule r
  unfolding facts_in facts_of Holds
  same-rule r = split r (λ b. facts_in-rule t r (omega arith) ∙ h r b) (λ a b. row-or-else t r _ _ a ∙ sym (past-rule R r b))

  same-is_empty : (r : ℕ) → (facts_in t).is_empty r ≡ (facts_of R).is_empty r
  unfolding facts_in facts_of is_empty
  same-is_empty r = split r (λ b. T.is_empty r b) (λ a b. row-or-else t r _ _ a ∙ sym (ap is_empty (past R r b)))

  same-representative : (r : ℕ) → (facts_in t).representative r ≡ (facts_of R).representative r
  unfolding facts_in facts_of representative
  same-representative r = split r (λ b. T.representative r b) (λ a b. row-or-else t r _ _ a ∙ sym (ap representative (past R r b)))

  same-toward : (s : Side) (r : ℕ) → (facts_in t).toward s r ≡ (facts_of R).toward s r
  unfolding facts_in facts_of toward
  same-toward s r = split r (λ b. T.toward s r b) (λ a b. row-or-else t r _ _ a ∙ sym (ap (toward s) (past R r b)))

  same-last : (s : Side) (r : ℕ) → (facts_in t).last s r ≡ (facts_of R).last s r
  unfolding facts_in facts_of last
  same-last s r = split r (λ b. T.last s r b) (λ a b. row-or-else t r _ _ a ∙ sym (ap (last s) (past R r b)))

  same-depth : (s : Side) (r : ℕ) → (facts_in t).depth s r ≡ (facts_of R).depth s r
  unfolding facts_in facts_of depth
  same-depth s r = split r (λ b. T.depth s r b) (λ a b. row-or-else t r _ _ a ∙ sym (ap (depth s) (past R r b)))

  pub facts_in-facts : facts_in t ≡ facts_of R
  facts_in-facts =
      λ i. record {
        rule = λ r. same-rule r i;
        is_empty = λ r. same-is_empty r i;
        representative = λ r. same-representative r i;
        toward = λ s r. same-toward s r i;
        last = λ s r. same-last s r i;
        depth = λ s r. same-depth s r i;
      }

  pub facts_in-climbs : {rank : ℕ → ℕ} → Sound R rank → Climbs t
  facts_in-climbs S =
      record {
        inside =
            λ s r i. let k : (facts_of R).toward s r < length R
            = toward-done S (Below (length R)) (λ r d. d) (λ r k d n. named-below S r k d n) s r (omega arith) in
            rw (same-toward s r) (omega arith);
        falls = λ s r i. rw facts_in-facts (depth_falls S s r (omega arith));
        jumps = λ s r i. leads-more {Done = Below (length R)} {Done' = In t} (λ k (d : k < length R). omega arith) (rw facts_in-facts (T.jumps s r (omega arith)));
      }

-- what building gives: its rows alone are known as the rules' facts, and can be climbed
pub record Walkable (R : List Rule) (t : List ℕ) : Type 0 where
  pub facts_are : facts_in t ≡ facts_of R
  pub climbs : Climbs t

walkable : {R : List Rule} {rank : ℕ → ℕ} {s t : List ℕ} → Sound R rank → Built R (length R) s t → row_length * length R ≤ length t
    → Walkable R (take (row_length * length R) t)
unfolding Holds
walkable {R} {rank} {s} {t} S B long =
    let m : ℕ = row_length * length R in
    let exact : length (take m t) ≡ m = length-take-le m t long in
    let holds : Holds R (take m t) (length R) = λ k b. rule-take m t k (omega arith) ∙ B.holds k b in
    let T : FactsHeld R (Below (length R)) (take m t)
    = facts-held-of R (Below (length R)) (take m t) (λ r (d : r < length R). omega arith)
    (λ r (d : r < length R). rw (facts-take m t r (omega arith)) (facts-of R (Below (length R)) t B.facts_held r d)) in
    record { facts_are = facts_in-facts exact holds T; climbs = facts_in-climbs exact holds T S }

pub built-walkable : {R : List Rule} {rank : ℕ → ℕ} {n : ℕ} {s t : List ℕ} → Sound R rank → length R ≡ n → Built R n s t → row_length * n ≤ length t
    → Walkable R (take (row_length * n) t)
built-walkable {R} {rank} {n} {s} {t} S count B long = rw (← count) (walkable S (rw (← count) at B) (omega arith))
