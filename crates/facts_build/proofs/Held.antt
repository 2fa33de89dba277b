-- A row made from true rows is true: its words are the facts of its rule, case by case of its right-hand side, and its jump leads on.
-- So the rows become true one after the other, in any order in which the rules named come first. Assumes nothing.
use Prim.Native.Nat.{ℕ, suc, ◌+◌, ◌*◌, ◌^◌, ◌<◌}
use native.Mathlib.Numerals.{add-one}
use native.Mathlib.Omega.{arith}
use native.Mathlib.Decide.{ℕ_discrete}
use mathlib.Core.Path.{◌≡◌, refl, sym, ap, ap₂, ◌∙◌}
use mathlib.Core.Bool.{Bool, cond, ◌&&◌, and-eq-true_iff}
use mathlib.Core.List.{List}
use lib.ListN.{length}
use lib.Dec.{eqb, ltb}
use borrow.Author.Tests.{ltb-true, eqb-true}
use Rattle.rule.specs.declared.Rule.{Rule}
use Rattle.rule.specs.Sound.{rule, Sound}
use Rattle.forest.specs.Expression.{rhs, expression}
use Rattle.forest.specs.Place.{Side, is_empty, representative}
use Rattle.forest.specs.Sides.{pick}
use Rattle.forest.proofs.Sides.{picked}
use Rattle.forest.proofs.Unfold.{unfolding-equation}
use Rattle.rule.specs.Names.{Names}
use Rattle.model.specs.Facts.{Facts, facts_of}
use Rattle.facts.specs.declared.Link.{Link}
use Rattle.facts_build.specs.declared.RuleFacts.{RuleFacts}
use Rattle.work_rows.specs.Rows.{row_length, own_end, Within}
use Rattle.facts.specs.Facts.{link_in, facts_end, In, facts_in, Leads, FactsHeld}
use Rattle.facts_build.specs.RuleFacts.{rule_facts_in, empty_of, representative_of, rule_facts_of}
use Rattle.facts.specs.Build.{jump_over, jump_from, link_from, link_own, link_pair, link_of, Steps, Reads}
use Rattle.facts_build.proofs.Written.{other-facts}
use Rattle.facts.proofs.Words.{known-is_empty, facts_in-representative, facts_in-toward, facts_in-last, facts_in-depth}
use Rattle.facts.proofs.Along.{leads-more, leads-copy, leads-next, leads-over}
use Rattle.forest.proofs.Cases.{by_bool}
use Rattle.facts_build.proofs.Ways.{Way, way_of, Follows, Every, follows, way-done, representative-done, depth-rank}

-- a link, and facts, that say what is true of rule r
pub record TrueLink (F : Facts) (Done : ℕ → Type 0) (s : Side) (r : ℕ) (l : Link) : Type 0 where
  pub toward : l.toward ≡ F.toward s r
  pub last : l.last ≡ F.last s r
  pub depth : l.depth ≡ F.depth s r
  pub jump : Leads F Done s r l.jump

pub record TrueFacts (F : Facts) (Done : ℕ → Type 0) (r : ℕ) (e : RuleFacts) : Type 0 where
  pub empty : e.empty ≡ F.is_empty r
  pub representative : e.representative ≡ F.representative r
  pub left : TrueLink F Done Side.left r e.left
  pub right : TrueLink F Done Side.right r e.right

-- the link that a way makes
link_by : List ℕ → Side → ℕ → Way → Link
link_by t s r (Way.copy k) = link_in t s k
link_by t s r (Way.step p) = link_from t s p
link_by t s r Way.stay = link_own r

link_of-way : (t : List ℕ) (s : Side) (r : ℕ) (x : Rule) → link_of t s r x ≡ link_by t s r (way_of (facts_in t) s x)
unfolding link_of link_pair link_by way_of
link_of-way t s r Rule.Empty = refl
link_of-way t s r (Rule.Pair b c) =
    by_bool ((facts_in t).is_empty b) (λ u. rw u refl) (λ u. by_bool ((facts_in t).is_empty c) (λ v. rw (u, v) refl) (λ v. rw (u, v) refl))
link_of-way t s r (Rule.Node a c) = refl
link_of-way t s r (Rule.Fill b c) = refl
link_of-way t s r (Rule.Part a b c) = refl
link_of-way t s r (Rule.Join b c) = refl

stayed : (F : Facts) (Done : ℕ → Type 0) (s : Side) (r : ℕ) → Done r → Follows F s r Way.stay → TrueLink F Done s r (link_own r)
unfolding link_own
stayed F Done s r d e =
    record {
      toward = sym e.toward;
      last = sym e.last;
      depth = sym e.depth;
      jump = record { inside = d; ahead = λ z. let k = e.depth in absurd (omega arith) };
    }

true-more : {F : Facts} {Done Done' : ℕ → Type 0} {s : Side} {r : ℕ} {l : Link} → ((k : ℕ) → Done k → Done' k) → TrueLink F Done s r l → TrueLink F Done' s r l
true-more more h = record { toward = h.toward; last = h.last; depth = h.depth; jump = leads-more more h.jump }

module _ (R : List Rule) (Done : ℕ → Type 0) (t : List ℕ) (T : FactsHeld R Done t) where
  abbrev F : Facts
  F = facts_of R

  copied : (s : Side) (r k : ℕ) → Done k → Follows F s r (Way.copy k) → TrueLink F Done s r (link_in t s k)
  copied s r k d e =
      record {
        toward = sym (facts_in-toward t k (T.room k d) s) ∙ T.toward s k d ∙ sym e.toward;
        last = sym (facts_in-last t k (T.room k d) s) ∙ T.last s k d ∙ sym e.last;
        depth = sym (facts_in-depth t k (T.room k d) s) ∙ T.depth s k d ∙ sym e.depth;
        jump = leads-copy F s k _ e.toward e.depth (T.jumps s k d);
      }

  jumped : (s : Side) (r p j k : ℕ) → Done p → Follows F s r (Way.step p) → Leads F Done s p j → Leads F Done s j k
      → Leads F Done s r (cond (jump_over t s p j k) k p)
  unfolding jump_over
  jumped s r p j k d e hj hk =
      let dp : (facts_in t).depth s p ≡ F.depth s p = T.depth s p d in
      let dj : (facts_in t).depth s j ≡ F.depth s j = T.depth s j hj.inside in
      let dk : (facts_in t).depth s k ≡ F.depth s k = T.depth s k hk.inside in
      by_bool (jump_over t s p j k)
      (λ u. let w = (and-eq-true_iff (ltb ((facts_in t).depth s j) ((facts_in t).depth s p)) (eqb ((facts_in t).depth s j + (facts_in t).depth s j) ((facts_in t).depth s p + (facts_in t).depth s k))).0 u in
      let below : (facts_in t).depth s j < (facts_in t).depth s p = ltb-true _ _ w.0 in
      let equal : (facts_in t).depth s j + (facts_in t).depth s j ≡ (facts_in t).depth s p + (facts_in t).depth s k = eqb-true _ _ w.1 in
      rw u (leads-over F s p j k e.toward e.depth hj hk (omega arith) (omega arith)))
      (λ u. rw u (leads-next F s p e.toward e.depth d))

  stepped : (s : Side) (r p : ℕ) → Done p → Follows F s r (Way.step p) → TrueLink F Done s r (link_from t s p)
  unfolding link_from jump_from
  stepped s r p d e =
      let j = T.jumps s p d in
      record {
        toward = sym e.toward;
        last = T.last s p d ∙ sym e.last;
        depth = add-one ((facts_in t).depth s p) ∙ ap suc (T.depth s p d) ∙ sym e.depth;
        jump = jumped s r p _ _ d e j (T.jumps s _ j.inside);
      }

  -- the rules done and rule r
  module _ (Done' : ℕ → Type 0) (more : (k : ℕ) → Done k → Done' k) (r : ℕ) (d : Done' r) where
    link-true : (s : Side) (w : Way) → Follows F s r w → Every Done w → TrueLink F Done' s r (link_by t s r w)
    unfolding link_by
    link-true s (Way.copy k) e b = true-more more (copied s r k b e)
    link-true s (Way.step p) e b = true-more more (stepped s r p b e)
    link-true s Way.stay e b = stayed F Done' s r d e

  -- what the rows know of the rules named is true
  empty-true : (r : ℕ) (x : Rule) → expression R r ≡ rhs r x (expression R) → ((k : ℕ) → Names x k → Done k) → empty_of t x ≡ F.is_empty r
  unfolding empty_of facts_of is_empty rhs
  empty-true r Rule.Empty q h = rw q
  empty-true r (Rule.Pair b c) q h = rw q (ap₂ (λ (x y : Bool). x && y) (T.is_empty b (h b Names.pair_one)) (T.is_empty c (h c Names.pair_two)))
  empty-true r (Rule.Node a c) q h = rw q
  empty-true r (Rule.Fill b c) q h = rw q
  empty-true r (Rule.Part a b c) q h = rw q
  empty-true r (Rule.Join b c) q h = rw q

  representative-true : (r : ℕ) (x : Rule) → expression R r ≡ rhs r x (expression R) → ((k : ℕ) → Names x k → Done k) → representative_of t r x ≡ F.representative r
  unfolding representative_of facts_of representative rhs
  representative-true r Rule.Empty q h = rw q
  representative-true r (Rule.Pair b c) q h =
      let b' = h b Names.pair_one in
      let c' = h c Names.pair_two in
      rw (q, T.is_empty b b', T.is_empty c c', T.representative b b', T.representative c c')
  representative-true r (Rule.Node a c) q h = rw q
  representative-true r (Rule.Fill b c) q h = rw q
  representative-true r (Rule.Part a b c) q h = rw q
  representative-true r (Rule.Join b c) q h = rw q

  way-true : (s : Side) (x : Rule) → ((k : ℕ) → Names x k → Done k) → way_of (facts_in t) s x ≡ way_of F s x
  unfolding way_of
  way-true s Rule.Empty h = refl
  way-true s (Rule.Pair b c) h =
      let b' = h b Names.pair_one in
      let c' = h c Names.pair_two in
      rw (T.is_empty b b', T.is_empty c c', T.representative (pick s b c) (picked Done s b c b' c'))
  way-true s (Rule.Node a c) h = refl
  way-true s (Rule.Fill b c) h = refl
  way-true s (Rule.Part a b c) h = refl
  way-true s (Rule.Join b c) h = refl

-- rows that say what is true are a table, and a table's rows say what is true
pub facts-held-of : (R : List Rule) (Done : ℕ → Type 0) (t : List ℕ) → ((r : ℕ) → Done r → In t r) → ((r : ℕ) → Done r → TrueFacts (facts_of R) Done r (rule_facts_in t r)) → FactsHeld R Done t
unfolding rule_facts_in
facts-held-of R Done t room h =
    record {
      room = room;
      is_empty = λ r d. known-is_empty t r (room r d) ∙ (h r d).empty;
      representative = λ r d. facts_in-representative t r (room r d) ∙ (h r d).representative;
      toward = λ s r d. facts_in-toward t r (room r d) s ∙ (link s r d).toward;
      last = λ s r d. facts_in-last t r (room r d) s ∙ (link s r d).last;
      depth = λ s r d. facts_in-depth t r (room r d) s ∙ (link s r d).depth;
      jumps = λ s r d. (link s r d).jump;
    }
  where
    link : (s : Side) (r : ℕ) → Done r → TrueLink (facts_of R) Done s r (link_in t s r)
    link Side.left r d = (h r d).left
    link Side.right r d = (h r d).right

pub facts-of : (R : List Rule) (Done : ℕ → Type 0) (t : List ℕ) → FactsHeld R Done t → (r : ℕ) → Done r → TrueFacts (facts_of R) Done r (rule_facts_in t r)
unfolding rule_facts_in
facts-of R Done t T r d =
    record {
      empty = sym (known-is_empty t r (T.room r d)) ∙ T.is_empty r d;
      representative = sym (facts_in-representative t r (T.room r d)) ∙ T.representative r d;
      left = link Side.left;
      right = link Side.right;
    }
  where
    link : (s : Side) → TrueLink (facts_of R) Done s r (link_in t s r)
    link s =
        record {
          toward = sym (facts_in-toward t r (T.room r d) s) ∙ T.toward s r d;
          last = sym (facts_in-last t r (T.room r d) s) ∙ T.last s r d;
          depth = sym (facts_in-depth t r (T.room r d) s) ∙ T.depth s r d;
          jump = T.jumps s r d;
        }

facts-more : {F : Facts} {Done Done' : ℕ → Type 0} {r : ℕ} {e : RuleFacts} → ((k : ℕ) → Done k → Done' k) → TrueFacts F Done r e → TrueFacts F Done' r e
facts-more more h = record { empty = h.empty; representative = h.representative; left = true-more more h.left; right = true-more more h.right }

-- one more row
pub facts-held-more : (R : List Rule) (Done Done' : ℕ → Type 0) (x y : List ℕ) (r : ℕ) (e : RuleFacts) → FactsHeld R Done x → ((k : ℕ) → Done k → Done' k)
    → ((k : ℕ) → Done' k → (k ≡ r → ⊥) → Done k) → TrueFacts (facts_of R) Done' r e → rule_facts_in y r ≡ e → Within (row_length * r + own_end) (row_length * r + facts_end) x y
    → ((k : ℕ) → Done' k → In y k) → FactsHeld R Done' y
facts-held-more R Done Done' x y r e T more less new written within room =
    facts-held-of R Done' y room
    (λ k d. elim (ℕ_discrete k r) as (λ (z : Dec (k ≡ r)). TrueFacts (facts_of R) Done' k (rule_facts_in y k)) [
      | yes same ↦ rw (same, written) new
      | no other ↦ rw (other-facts r within k other) (facts-more more (facts-of R Done x T k (less k d other)))
    ])

-- no row yet
pub facts-held-none : (R : List Rule) (Done : ℕ → Type 0) (t : List ℕ) → ((r : ℕ) → Done r → ⊥) → FactsHeld R Done t
facts-held-none R Done t none = facts-held-of R Done t (λ r d. absurd (none r d)) (λ r d. absurd (none r d))

-- the same rules told in another way
pub facts-held-same : (R : List Rule) (Done Done' : ℕ → Type 0) (t : List ℕ) → FactsHeld R Done t → ((k : ℕ) → Done k → Done' k) → ((k : ℕ) → Done' k → Done k) → FactsHeld R Done' t
facts-held-same R Done Done' t T more less =
    facts-held-of R Done' t (λ r d. T.room r (less r d)) (λ r d. facts-more more (facts-of R Done t T r (less r d)))

module _ {R : List Rule} {rank : ℕ → ℕ} (S : Sound R rank) (Done : ℕ → Type 0) (in_range : (r : ℕ) → Done r → r < length R)
    (closed : (r k : ℕ) → Done r → Names (rule R r) k → Done k) (t : List ℕ) (T : FactsHeld R Done t) where
  -- the row of a rule whose named rules are done is true
  pub facts-true : (Done' : ℕ → Type 0) → ((k : ℕ) → Done k → Done' k) → (r : ℕ) → Done' r → r < length R → ((k : ℕ) → Names (rule R r) k → Done k)
      → TrueFacts (facts_of R) Done' r (rule_facts_of t r (rule R r))
  unfolding rule_facts_of
  facts-true Done' more r d below named =
      record {
        empty = empty-true R Done t T r (rule R r) (unfolding-equation S r below) named;
        representative = representative-true R Done t T r (rule R r) (unfolding-equation S r below) named;
        left = link Side.left;
        right = link Side.right;
      }
    where
      link : (s : Side) → TrueLink (facts_of R) Done' s r (link_of t s r (rule R r))
      link s =
          rw (link_of-way t s r (rule R r) ∙ ap (link_by t s r) (way-true R Done t T s (rule R r) named))
          (link-true R Done t T Done' more r d s (way_of (facts_of R) s (rule R r)) (follows S r below s) (way-done S Done in_range closed s r below named))

  -- what a rule made from them looks at is there
  pub facts-held-reads : length R < 2 ^ 16 → (r : ℕ) → Done r → Reads t r
  facts-held-reads few r d =
      record {
        steps = λ s. steps s r d;
        represents = λ s. rw (T.representative r d) (steps s _ (representative-done S Done in_range closed r d));
      }
    where
      steps : (s : Side) (k : ℕ) → Done k → Steps t s k
      steps s k d =
          record {
            here = T.room k d;
            there = T.room _ (T.jumps s k d).inside;
            beyond = T.room _ (T.jumps s _ (T.jumps s k d).inside).inside;
            small =
                let a = T.depth s k d in
                let b = depth-rank S s k (in_range k d) in
                let c = S.ranked k (in_range k d) in
                omega arith;
          }
