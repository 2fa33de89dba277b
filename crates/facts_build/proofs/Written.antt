-- Laws of what a row keeps beside its rule. Its words lie apart from each other, from the rule and from other rows, so they are read
-- back as written and nothing else changes. Assumes nothing.
use Prim.Native.Nat.{ℕ, ◌+◌, ◌*◌, ◌^◌, ◌≤◌, ◌<◌}
use mathlib.Core.Path.{◌≡◌, refl, ap, ◌∙◌}
use mathlib.Core.Bool.{Bool, true, false}
use mathlib.Core.List.{List}
use native.Mathlib.Omega.{arith}
use native.Mathlib.Decide.{dec_lt}
use lib.ListN.{length}
use lib.Dec.{eqb}
use Rattle.words.specs.Number.{base}
use Rattle.forest.specs.Place.{Side}
use Rattle.facts.specs.declared.Link.{Link}
use Rattle.facts_build.specs.declared.RuleFacts.{RuleFacts}
use Rattle.work_rows.specs.Rows.{row_length, field, put_field, own_end, rule_in, Within}
use Rattle.facts.specs.Facts.{at_representative, at_emptiness, at_link, facts_end, at_toward, at_last, at_depth, at_jump, link_length, link_in, put_link_at, put_link}
use Rattle.facts_build.specs.RuleFacts.{flag, rule_facts_in, put_rule_facts}
use Rattle.work_rows.proofs.Rows.{length-put_field, field-same, field-other, within_both, within_wider, within-put, within-field, within-rule}

-- the words fit their bytes
pub record Small (l : Link) : Type 0 where
  pub toward : l.toward < base ^ 2
  pub last : l.last < base ^ 2
  pub depth : l.depth < base ^ 2
  pub jump : l.jump < base ^ 2

-- a link after it is written at offset o
module _ (t : List ℕ) (o r : ℕ) (l : Link) (fits : row_length * r + o + link_length ≤ length t) (small : Small l) where
  first : List ℕ
  first = put_field 2 t r (o + at_toward) l.toward

  second : List ℕ
  second = put_field 2 first r (o + at_last) l.last

  third : List ℕ
  third = put_field 2 second r (o + at_depth) l.depth

  long-first : length first ≡ length t
  unfolding first
  long-first = length-put_field 2 t r (o + at_toward) l.toward

  long-second : length second ≡ length t
  unfolding second
  long-second = length-put_field 2 first r (o + at_last) l.last ∙ long-first

  long-third : length third ≡ length t
  unfolding third
  long-third = length-put_field 2 second r (o + at_depth) l.depth ∙ long-second

  toward-kept : field 2 (put_link_at t o r l) r (o + at_toward) ≡ l.toward
  unfolding put_link_at first second third
  toward-kept =
      field-other 2 2 third r (o + at_jump) l.jump r (o + at_toward) (λ h. omega arith)
      ∙ field-other 2 2 second r (o + at_depth) l.depth r (o + at_toward) (λ h. omega arith)
      ∙ field-other 2 2 first r (o + at_last) l.last r (o + at_toward) (λ h. omega arith)
      ∙ field-same 2 t r (o + at_toward) l.toward (omega arith) small.toward

  last-kept : field 2 (put_link_at t o r l) r (o + at_last) ≡ l.last
  unfolding put_link_at first second third
  last-kept =
      field-other 2 2 third r (o + at_jump) l.jump r (o + at_last) (λ h. omega arith)
      ∙ field-other 2 2 second r (o + at_depth) l.depth r (o + at_last) (λ h. omega arith)
      ∙ field-same 2 first r (o + at_last) l.last (omega (arith, long-first)) small.last

  depth-kept : field 2 (put_link_at t o r l) r (o + at_depth) ≡ l.depth
  unfolding put_link_at first second third
  depth-kept =
      field-other 2 2 third r (o + at_jump) l.jump r (o + at_depth) (λ h. omega arith)
      ∙ field-same 2 second r (o + at_depth) l.depth (omega (arith, long-second)) small.depth

  jump_kept : field 2 (put_link_at t o r l) r (o + at_jump) ≡ l.jump
  unfolding put_link_at first second third
  jump_kept = field-same 2 third r (o + at_jump) l.jump (omega (arith, long-third)) small.jump

within-put_link : (t : List ℕ) (s : Side) (r : ℕ) (l : Link)
    → Within (row_length * r + at_link s) (row_length * r + at_link s + link_length) t (put_link t s r l)
unfolding put_link put_link_at
within-put_link t s r l =
    let o : ℕ = at_link s in
    let a : ℕ = row_length * r + o in
    let e : ℕ = row_length * r + o + link_length in
    within_both (within-put 2 t r (o + at_toward) l.toward a e (omega arith) (omega arith))
    (within_both (within-put 2 _ r (o + at_last) l.last a e (omega arith) (omega arith))
    (within_both (within-put 2 _ r (o + at_depth) l.depth a e (omega arith) (omega arith))
    (within-put 2 _ r (o + at_jump) l.jump a e (omega arith) (omega arith))))

-- a link is read back as written
link_in-put_link : (t : List ℕ) (s : Side) (r : ℕ) (l : Link) → row_length * r + at_link s + link_length ≤ length t → Small l → link_in (put_link t s r l) s r ≡ l
unfolding link_in put_link
link_in-put_link t s r l fits small =
    let o : ℕ = at_link s in
    λ i. record {
      toward = toward-kept t o r l fits small i;
      last = last-kept t o r l fits small i;
      depth = depth-kept t o r l fits small i;
      jump = jump_kept t o r l fits small i;
    }

-- a link outside a frame stays, and so do all facts of a rule
within-link : {a e : ℕ} {x y : List ℕ} → Within a e x y → (s : Side) (r : ℕ)
    → (a < row_length * r + at_link s + link_length → e ≤ row_length * r + at_link s) → link_in y s r ≡ link_in x s r
unfolding link_in
within-link {a} {e} {x} {y} p s r apart =
    let o : ℕ = at_link s in
    let same : (w : ℕ) → w + 2 ≤ link_length → field 2 y r (o + w) ≡ field 2 x r (o + w)
    = λ w fits. within-field p 2 r (o + w) (λ h. let f : e ≤ row_length * r + o = apart (omega arith) in omega arith) in
    rw (same at_toward (omega arith), same at_last (omega arith), same at_depth (omega arith), same at_jump (omega arith))

within-facts : {a e : ℕ} {x y : List ℕ} → Within a e x y → (r : ℕ) → (a < row_length * r + facts_end → e ≤ row_length * r + own_end) → rule_facts_in y r ≡ rule_facts_in x r
unfolding rule_facts_in
within-facts {a} {e} {x} {y} p r apart =
    let word : (o : ℕ) → own_end ≤ o → o + 2 ≤ facts_end → field 2 y r o ≡ field 2 x r o
    = λ o low high. within-field p 2 r o (λ h. let f : e ≤ row_length * r + own_end = apart (omega arith) in omega arith) in
    let link : (s : Side) → own_end ≤ at_link s → at_link s + link_length ≤ facts_end → link_in y s r ≡ link_in x s r
    = λ s low high. within-link p s r (λ h. let f : e ≤ row_length * r + own_end = apart (omega arith) in omega arith) in
    rw (
      word at_representative (omega arith) (omega arith),
      word at_emptiness (omega arith) (omega arith),
      link Side.left (omega arith) (omega arith),
      link Side.right (omega arith) (omega arith),
    )

pub record SmallFacts (e : RuleFacts) : Type 0 where
  pub representative : e.representative < base ^ 2
  pub left : Small e.left
  pub right : Small e.right

eqb-flag : (b : Bool) → eqb (flag b) 1 ≡ b
unfolding flag
eqb-flag true = refl
eqb-flag false = refl

flag_small : (b : Bool) → flag b < base ^ 2
unfolding flag
flag_small true = omega arith
flag_small false = omega arith

-- facts after they are written to their row
module _ (t : List ℕ) (r : ℕ) (e : RuleFacts) where
  one : List ℕ
  one = put_field 2 t r at_representative e.representative

  two : List ℕ
  two = put_field 2 one r at_emptiness (flag e.empty)

  three : List ℕ
  three = put_link two Side.left r e.left

  within-two : Within (row_length * r + own_end) (row_length * r + facts_end) t two
  unfolding one two
  within-two =
      let a : ℕ = row_length * r + own_end in
      let z : ℕ = row_length * r + facts_end in
      within_both (within-put 2 t r at_representative e.representative a z (omega arith) (omega arith))
      (within-put 2 one r at_emptiness (flag e.empty) a z (omega arith) (omega arith))

  within-three : Within (row_length * r + own_end) (row_length * r + facts_end) t three
  unfolding three
  within-three = within_both within-two (within_wider _ _ (omega arith) (omega arith) (within-put_link two Side.left r e.left))

  pub within-put_rule_facts : Within (row_length * r + own_end) (row_length * r + facts_end) t (put_rule_facts t r e)
  unfolding put_rule_facts one two three
  within-put_rule_facts = within_both within-three (within_wider _ _ (omega arith) (omega arith) (within-put_link three Side.right r e.right))

  -- the first two words stay while the links are written
  words-kept : (o : ℕ) → o + 2 ≤ at_link Side.left → field 2 (put_rule_facts t r e) r o ≡ field 2 two r o
  unfolding put_rule_facts one two three
  words-kept o low =
      within-field (within-put_link three Side.right r e.right) 2 r o (λ h. absurd (omega arith))
      ∙ within-field (within-put_link two Side.left r e.left) 2 r o (λ h. absurd (omega arith))

  module _ (fits : row_length * r + facts_end ≤ length t) (small : SmallFacts e) where
    representative-kept : field 2 (put_rule_facts t r e) r at_representative ≡ e.representative
    unfolding one two
    representative-kept =
        words-kept at_representative (omega arith)
        ∙ field-other 2 2 one r at_emptiness (flag e.empty) r at_representative (λ h. absurd (omega arith))
        ∙ field-same 2 t r at_representative e.representative (omega arith) small.representative

    empty-kept : eqb (field 2 (put_rule_facts t r e) r at_emptiness) 1 ≡ e.empty
    unfolding one two
    empty-kept =
        ap (λ (w : ℕ). eqb w 1)
        (words-kept at_emptiness (omega arith)
        ∙ field-same 2 one r at_emptiness (flag e.empty) (omega (arith, length-put_field 2 t r at_representative e.representative)) (flag_small e.empty))
        ∙ eqb-flag e.empty

    left-kept : link_in (put_rule_facts t r e) Side.left r ≡ e.left
    unfolding put_rule_facts one two three
    left-kept =
        within-link (within-put_link three Side.right r e.right) Side.left r (λ h. absurd (omega arith))
        ∙ link_in-put_link two Side.left r e.left (omega (arith, within-two.same_length)) small.left

    right_kept : link_in (put_rule_facts t r e) Side.right r ≡ e.right
    unfolding put_rule_facts one two three
    right_kept = link_in-put_link three Side.right r e.right (omega (arith, within-three.same_length)) small.right

    pub rule_facts_in-put_rule_facts : rule_facts_in (put_rule_facts t r e) r ≡ e
    unfolding rule_facts_in
    rule_facts_in-put_rule_facts = λ i. record { representative = representative-kept i; empty = empty-kept i; left = left-kept i; right = right_kept i }

-- another row keeps its facts, and every row its rule
apart : (r k low high : ℕ) → low ≤ row_length → high ≤ row_length → (k ≡ r → ⊥)
    → row_length * r + own_end < row_length * k + high → row_length * r + facts_end ≤ row_length * k + low
apart r k low high a b other h =
    elim (dec_lt k r) as (λ (d : Dec (k < r)). row_length * r + facts_end ≤ row_length * k + low) [
      | yes below ↦ absurd (omega arith)
      | no above ↦ let over : r < k = omega arith in omega arith
    ]

pub other-facts : {x y : List ℕ} (r : ℕ) → Within (row_length * r + own_end) (row_length * r + facts_end) x y → (k : ℕ) → (k ≡ r → ⊥) → rule_facts_in y k ≡ rule_facts_in x k
other-facts r p k other = within-facts p k (apart r k own_end facts_end (omega arith) (omega arith) other)

pub same-rule : {x y : List ℕ} (r : ℕ) → Within (row_length * r + own_end) (row_length * r + facts_end) x y → (k : ℕ) → rule_in y k ≡ rule_in x k
same-rule r p k =
    within-rule p k
    (elim (dec_lt k r) as (λ (d : Dec (k < r)). row_length * r + own_end < row_length * k + own_end → row_length * r + facts_end ≤ row_length * k)
    [ yes below ↦ λ h. absurd (omega arith) | no above ↦ λ h. omega arith ])
