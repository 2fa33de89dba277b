-- What is known of a rule lies in its row before the word for its trees: lists of rows that agree up to there are known as the same facts, and
-- can be climbed alike. So rows that are filled stay so when the trees are written. Assumes nothing.
use Prim.Native.Nat.{ℕ, ◌+◌, ◌*◌, ◌≤◌, ◌<◌}
use native.Mathlib.Omega.{arith}
use mathlib.Core.Path.{◌≡◌, sym, ap, ◌∙◌}
use mathlib.Core.Bool.{true}
use mathlib.Core.List.{List}
use lib.ListN.{length, take}
use lib.Seq.{length-take-le}
use lib.Dec.{ltb, eqb}
use borrow.Author.Tests.{ltb-true}
use Rattle.words.proofs.Laws.{number-take}
use Rattle.record.specs.Record.{word_length}
use Rattle.rule.specs.declared.Rule.{Rule}
use Rattle.forest.specs.Place.{Side}
use Rattle.forest.proofs.Cases.{by_bool}
use Rattle.work_rows.specs.Rows.{row_length, field, rule_in, first_rules}
use Rattle.work_rows.proofs.Rows.{rule-same}
use Rattle.work_rows.proofs.Kept.{first-same}
use Rattle.count_passes.specs.Tally.{Besides}
use Rattle.facts.specs.Facts.{at_representative, at_emptiness, at_link, at_toward, at_last, at_depth, at_jump, link_length, facts_end}
use Rattle.facts.specs.Facts.{link_in, row_count, In, row_or, facts_in, Climbs}
use Rattle.facts.proofs.Along.{leads-more}
use Rattle.letter_moves.specs.Standing.{rules_kept}
use Rattle.facts_load.specs.Filled.{Filled}
use Rattle.tops_rows.specs.Tops.{at_tops}

link-inside : (s : Side) → at_link s + link_length ≤ facts_end
link-inside Side.left = omega arith
link-inside Side.right = omega arith

-- rows that agree up to the end of the facts
record Alike (a b : List ℕ) : Type 0 where
  same : length b ≡ length a
  fields : (w o k : ℕ) → k < row_count a → o + w ≤ facts_end → field w b k o ≡ field w a k o

module _ {a b : List ℕ} (h : Alike a b) where
  row_same : {A : Type 0} (r : ℕ) (x y d : A) → (In a r → y ≡ x) → row_or b r y d ≡ row_or a r x d
  unfolding row_or
  row_same r x y d e =
      rw h.same
      (by_bool (ltb r (row_count a)) (λ u. rw u (e (ltb-true r (row_count a) u))) (λ u. rw u))

  rule-alike : (r : ℕ) → In a r → rule_in b r ≡ rule_in a r
  unfolding rule_in
  rule-alike r i = rule-same a b r 0 (λ w p l. h.fields w (0 + p) r i (omega arith))

  link-alike : (s : Side) (r : ℕ) → In a r → link_in b s r ≡ link_in a s r
  unfolding link_in
  link-alike s r i =
      let word : (w : ℕ) → w + 2 ≤ link_length → field 2 b r (at_link s + w) ≡ field 2 a r (at_link s + w)
      = λ w l. h.fields 2 (at_link s + w) r i (omega (arith, link-inside s)) in
      rw (word at_toward (omega arith), word at_last (omega arith), word at_depth (omega arith), word at_jump (omega arith))

  facts-alike : facts_in b ≡ facts_in a
  unfolding facts_in
  facts-alike =
      λ i. record {
        rule = λ r. row_same r (rule_in a r) (rule_in b r) Rule.Empty (rule-alike r) i;
        is_empty =
            λ r. row_same r (eqb (field 2 a r at_emptiness) 1) (eqb (field 2 b r at_emptiness) 1) true
            (λ u. ap (λ (v : ℕ). eqb v 1) (h.fields 2 at_emptiness r u (omega arith))) i;
        representative =
            λ r. row_same r (field 2 a r at_representative) (field 2 b r at_representative) r
            (λ u. h.fields 2 at_representative r u (omega arith)) i;
        toward = λ s r. row_same r (link_in a s r).toward (link_in b s r).toward r (λ u j. (link-alike s r u j).toward) i;
        last = λ s r. row_same r (link_in a s r).last (link_in b s r).last r (λ u j. (link-alike s r u j).last) i;
        depth = λ s r. row_same r (link_in a s r).depth (link_in b s r).depth 0 (λ u j. (link-alike s r u j).depth) i;
      }

  climbs-alike : Climbs a → Climbs b
  climbs-alike c =
      let same = h.same in
      record {
        inside = λ s r i. rw facts-alike (let k = c.inside s r (omega arith) in omega arith);
        falls = λ s r i. rw facts-alike (c.falls s r (omega arith));
        jumps =
            λ s r i. rw (facts-alike, link-alike s r (omega arith))
            (leads-more {Done = In a} {Done' = In b} (λ k d. omega arith) (c.jumps s r (omega arith)));
      }

  rules-alike : rules_kept b ≡ rules_kept a
  rules-alike =
      ap (λ (m : ℕ). first_rules b m) (let same = h.same in let e : row_count b ≡ row_count a = omega arith in e)
      ∙ first-same a b (row_count a) (λ k i. rule-alike k i)

  filled-alike : {R : List Rule} → Filled R a → Filled R b
  filled-alike f = record { rules = rules-alike ∙ f.rules; facts_are = facts-alike ∙ f.facts_are; climbs = climbs-alike f.climbs }

-- the first rows hold what the rows do
pub field-first : (m w : ℕ) (t : List ℕ) (r o : ℕ) → row_length * r + o + w ≤ m → field w (take m t) r o ≡ field w t r o
unfolding field
field-first m w t r o fits = number-take w m t (row_length * r + o) fits

-- the word for the trees lies behind what is known
pub kept-filled : {R : List Rule} {n : ℕ} {s t : List ℕ} → row_length * n ≤ length s → Besides at_tops word_length n s t → Filled R (take (row_length * n) s)
    → Filled R (take (row_length * n) t)
kept-filled {n = n} {s = s} {t = t} room b f =
    let long : length t ≡ length s = b.beyond.same_length in
    let one : length (take (row_length * n) s) ≡ row_length * n = length-take-le (row_length * n) s room in
    let two : length (take (row_length * n) t) ≡ row_length * n = length-take-le (row_length * n) t (omega arith) in
    filled-alike
    (record {
      same = two ∙ sym one;
      fields = λ w o k i l.
          field-first (row_length * n) w t k o (omega arith)
          ∙ b.fields w o k (omega arith) (λ q. absurd (let n : ⊥ = omega arith in n))
          ∙ sym (field-first (row_length * n) w s k o (omega arith));
    })
    f
