-- The words of the rows, two more a turn: what is written to a row is what the definition says, since the rules stay, and a rule without a
-- label may be seen and weighs nothing, whatever row is found for it. Assumes nothing.
use Prim.Native.Nat.{ℕ, ◌+◌, ◌*◌, ◌^◌, ◌≤◌, ◌<◌}
use native.Mathlib.Omega.{arith}
use native.Mathlib.Decide.{dec_lt}
use mathlib.Core.Path.{◌≡◌, refl, ap, ap₂, ◌∙◌}
use mathlib.Core.Bool.{Bool, true, false, cond}
use mathlib.Core.List.{List}
use lib.ListN.{length}
use lib.Dec.{T, leb, leb→le}
use Rattle.words.specs.Number.{base}
use Rattle.record.specs.Format.{word_length}
use Rattle.rule.specs.declared.Rule.{Rule}
use Rattle.rule.specs.Rule.{largest_label, labelled, labelled_to}
use Rattle.model.specs.Walk.{label}
use Rattle.facts.proofs.Rules.{NoNode, NoPart}
use Rattle.label_rows.specs.declared.LabelRow.{LabelRow}
use Rattle.label_rows.specs.Class.{row_of, grams_of}
use Rattle.work_rows.specs.Rows.{row_length, field, put_field, rule_in}
use Rattle.work_rows.proofs.Rows.{length-put_field, field-same, field-other, within_wider}
use Rattle.count_passes.specs.Tally.{Besides}
use Rattle.count_passes.proofs.Column.{besides-both, besides-wider, besides-put, besides-rule}
use Rattle.count_weights.specs.Weights.{at_weight, weight_at, own_weight}
use Rattle.copy_variants.specs.Visible.{seen_by}
use Rattle.copy_variants.specs.Variants.{seen_in}
use Rattle.label_annotate.specs.Annotated.{at_seen, marked, Annotatable, Annotated}

-- a rule that is neither a node nor a part has no label
pub other-seen : (v : ℕ → Bool) (x : Rule) → NoNode x → NoPart x → seen_in v x ≡ true
unfolding seen_in
other-seen v Rule.Empty n p = refl
other-seen v (Rule.Pair b c) n p = refl
other-seen v (Rule.Node a c) n p = absurd (n a c refl)
other-seen v (Rule.Fill b c) n p = refl
other-seen v (Rule.Part a b c) n p = absurd (p a b c refl)
other-seen v (Rule.Join b c) n p = refl

pub other-own : (w : ℕ → ℕ) (x : Rule) → NoNode x → NoPart x → own_weight w x ≡ 0
unfolding own_weight
other-own w Rule.Empty n p = refl
other-own w (Rule.Pair b c) n p = refl
other-own w (Rule.Node a c) n p = absurd (n a c refl)
other-own w (Rule.Fill b c) n p = refl
other-own w (Rule.Part a b c) n p = absurd (p a b c refl)
other-own w (Rule.Join b c) n p = refl

-- only the rule's own label is looked at
own-label : (v : ℕ → Bool) (w : ℕ → ℕ) (x : Rule)
    → (seen_in (λ a. v (label x)) x ≡ seen_in v x) × (own_weight (λ a. w (label x)) x ≡ own_weight w x)
unfolding seen_in own_weight label
own-label v w Rule.Empty = (refl, refl)
own-label v w (Rule.Pair b c) = (refl, refl)
own-label v w (Rule.Node a c) = (refl, refl)
own-label v w (Rule.Fill b c) = (refl, refl)
own-label v w (Rule.Part a b c) = (refl, refl)
own-label v w (Rule.Join b c) = (refl, refl)

label-most : (x : Rule) → T (labelled x) → label x ≤ largest_label
unfolding labelled labelled_to label
label-most Rule.Empty h = omega arith
label-most (Rule.Pair b c) h = omega arith
label-most (Rule.Node a c) h = leb→le a largest_label h
label-most (Rule.Fill b c) h = omega arith
label-most (Rule.Part a b c) h = leb→le a largest_label h
label-most (Rule.Join b c) h = omega arith

-- the words that a row is given are those of its rule
pub marked_row : (s : List ℕ) (r f g c : ℕ) {t u : List ℕ} {x : Rule} {v w : ℕ} {b : Bool} → x ≡ rule_in s r → v ≡ own_weight (λ a. g) x
    → b ≡ seen_in (λ a. leb f c) x → w ≡ cond b 1 0 → t ≡ put_field word_length s r at_weight v → u ≡ put_field word_length t r at_seen w
    → u ≡ marked s r f g c
marked_row s r f g c q e d y p z = z ∙ rw (p, y, e, d, q)

-- both words fit
bit-small : (b : Bool) → cond b 1 0 < base ^ word_length
bit-small true = omega arith
bit-small false = omega arith

own-small : (g : ℕ) (x : Rule) → g < base ^ word_length → own_weight (λ a. g) x < base ^ word_length
unfolding own_weight
own-small g Rule.Empty h = omega arith
own-small g (Rule.Pair b c) h = omega arith
own-small g (Rule.Node a c) h = h
own-small g (Rule.Fill b c) h = omega arith
own-small g (Rule.Part a b c) h = h
own-small g (Rule.Join b c) h = omega arith

-- both words written to row r: nothing else changes, the rows before keep theirs, and r has these
module _ (t : List ℕ) (r v w : ℕ) where
  first : List ℕ
  first = put_field word_length t r at_weight v

  words : List ℕ
  words = put_field word_length first r at_seen w

  words-besides : Besides at_weight (word_length + word_length) (r + 1) t words
  unfolding words first
  words-besides =
      let one = besides-put word_length t r at_weight v (r + 1) (omega arith) (omega arith) in
      let two = besides-put word_length first r at_seen w (r + 1) (omega arith) (omega arith) in
      besides-both
      (besides-wider at_weight (word_length + word_length) (omega arith) (omega arith) one)
      (besides-wider at_weight (word_length + word_length) (omega arith) (omega arith) two)

  words-before : (k : ℕ) → k < r → (field word_length words k at_seen ≡ field word_length t k at_seen) × (weight_at words k ≡ weight_at t k)
  unfolding words first
  words-before k l = (
    field-other word_length word_length first r at_seen w k at_seen (λ h. omega arith)
        ∙ field-other word_length word_length t r at_weight v k at_seen (λ h. omega arith),
    field-other word_length word_length first r at_seen w k at_weight (λ h. omega arith)
        ∙ field-other word_length word_length t r at_weight v k at_weight (λ h. omega arith),
  )

  words-here : row_length * (r + 1) ≤ length t → v < base ^ word_length → w < base ^ word_length
      → (field word_length words r at_seen ≡ w) × (weight_at words r ≡ v)
  unfolding words first
  words-here room v-small w-small = (
    field-same word_length first r at_seen w (omega (arith, length-put_field word_length t r at_weight v)) w-small,
    field-other word_length word_length first r at_seen w r at_weight (λ h. omega arith)
        ∙ field-same word_length t r at_weight v (omega arith) v-small,
  )

module _ (rows : List LabelRow) (c n r : ℕ) (s t : List ℕ) (able : Annotatable rows n s) (below : r < n) (so_far : Annotated rows c r s t) where
  -- the rule of the next row, which the turns before left
  same-rule : rule_in t r ≡ rule_in s r
  same-rule = besides-rule so_far.besides (omega arith) r

  pub next-room : row_length * (r + 1) ≤ length t
  next-room = let e = so_far.besides.beyond.same_length in let h = able.room in omega arith

  pub next-label : label (rule_in t r) ≤ largest_label
  next-label = rw same-rule (label-most (rule_in s r) (able.labels r below))

  -- the row found for its label, and the words that a turn writes
  abbrev pub found : LabelRow
  found = row_of rows (label (rule_in t r))

  abbrev seen_word : ℕ → ℕ
  seen_word k = cond (seen_in (seen_by rows c) (rule_in s k)) 1 0

  abbrev grams_word : ℕ → ℕ
  grams_word k = own_weight (grams_of rows) (rule_in s k)

  seen-is : seen_in (λ a. leb found.class c) (rule_in t r) ≡ seen_in (seen_by rows c) (rule_in s r)
  unfolding seen_by
  seen-is = (own-label (seen_by rows c) (grams_of rows) (rule_in t r)).0 ∙ ap (seen_in (seen_by rows c)) same-rule

  grams-is : own_weight (λ a. found.grams) (rule_in t r) ≡ grams_word r
  unfolding grams_of
  grams-is = (own-label (seen_by rows c) (grams_of rows) (rule_in t r)).1 ∙ ap (own_weight (grams_of rows)) same-rule

  marked-words : marked t r found.class found.grams c ≡ words t r (grams_word r) (seen_word r)
  unfolding words first
  marked-words = ap₂ (λ (v : ℕ) (b : Bool). words t r v (cond b 1 0)) grams-is seen-is

  pub annotated-more : (u : List ℕ) → found.grams < base ^ word_length → u ≡ marked t r found.class found.grams c
      → Annotated rows c (r + 1) s u
  annotated-more u small e =
      let fits : grams_word r < base ^ word_length = rw grams-is at (own-small found.grams (rule_in t r) small) in
      let here = words-here t r (grams_word r) (seen_word r) next-room fits (bit-small (seen_in (seen_by rows c) (rule_in s r))) in
      rw (e, marked-words)
      (record {
        besides =
            let beyond = within_wider 0 (row_length * (r + 1)) (omega arith) (omega arith) so_far.besides.beyond in
            besides-both (record { fields = so_far.besides.fields; beyond = beyond }) (words-besides t r (grams_word r) (seen_word r));
        seen = λ k under.
            elim (dec_lt k r) as (λ (d : Dec (k < r)). field word_length (words t r (grams_word r) (seen_word r)) k at_seen ≡ seen_word k) [
              | yes l ↦ (words-before t r (grams_word r) (seen_word r) k l).0 ∙ so_far.seen k l
              | no l ↦ let q : k ≡ r = omega arith in rw q here.0
            ];
        grams = λ k under.
            elim (dec_lt k r) as (λ (d : Dec (k < r)). weight_at (words t r (grams_word r) (seen_word r)) k ≡ grams_word k) [
              | yes l ↦ (words-before t r (grams_word r) (seen_word r) k l).1 ∙ so_far.grams k l
              | no l ↦ let q : k ≡ r = omega arith in rw q here.1
            ];
      })
