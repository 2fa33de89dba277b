-- The check tells the first row at fault and nothing else: what each answer says of the list holds, and an answer that holds of the list
-- is the check's. Each row is passed as long as the rows before it are one behind another. Assumes nothing.
use Rattle.std.specs.Prelude.{Result, Ok, Err}
use Rattle.std.proofs.Common.{◌≡◌, ℕ, zero, suc, ◌+◌, ◌<◌, ◌≤◌, Bool, cond, ltb, leb, List, [], ◌∷◌, ◌++◌, length, get_or, take, drop, sym, ap, ◌∙◌, subst, add-one, arith, take-append-drop, length-take-le, take_all, take-suc, ltb-false, ltb-true, le-ltb, lt-ltb, leb-false, leb-true}
use lib.Seq.{take-length}
use borrow.Table.Steps.{cases}
use Rattle.refusal.specs.declared.Refusal.{Refusal}
use Rattle.rule.specs.Rule.{largest_label}
use Rattle.label_rows.specs.declared.LabelRow.{LabelRow}
use Rattle.label_rows.specs.Coverage.{invalid, extended, ended, coverage_from, coverage}
use Rattle.label_rows.specs.Class.{no_row}
use Rattle.label_rows.specs.Once.{Valid, Covers, Told}
use Rattle.label_rows.proofs.Steps.{extended_row, extended-gap, extended-overlap, extended_fits, ended-short, ended-whole}
use Rattle.label_rows.proofs.Steps.{refused-from, coverage-next, coverage-end}
use Rattle.label_rows.proofs.Chain.{Chain, chain-valid, chain-order, chain-ends, chain-counted, counted-chain, chain-passed, chain_snoc}

-- what rows one behind another from label 0 on cover
pub chain-covers : {k : ℕ} (rs : List LabelRow) → Chain 0 rs k → Covers k rs
chain-covers {k} rs c = record {
  valid = chain-valid c;
  order = chain-order c;
  once = λ x. cases (ltb x k)
      (λ t. rw t ((chain-counted c).inside x (omega arith) (ltb-true x k t)))
      (λ t. rw t ((chain-counted c).above x (ltb-false x k t)));
}

pub covers-chain : {k : ℕ} (rs : List LabelRow) → Covers k rs → Chain 0 rs k
covers-chain {k} rs c = counted-chain rs (omega arith) c.valid c.order record {
  below = λ x h. absurd (omega arith);
  inside = λ x l h. c.once x ∙ ap (λ (b : Bool). cond b 1 0) (lt-ltb x k h);
  above = λ x h. c.once x ∙ ap (λ (b : Bool). cond b 1 0) (le-ltb x k h);
}

module _ (rows : List LabelRow) where
  abbrev row : ℕ → LabelRow
  row i = get_or rows i no_row

  abbrev from : ℕ → ℕ → Result Unit Refusal
  from next i = coverage_from (Ok next) i (drop i rows)

  module _ (i next : ℕ) (h : i < length rows) where
    stops : {why : Refusal} → extended (Ok next) i (row i) ≡ Err why → from next i ≡ Err why
    stops {why} e = coverage-next (Ok next) i rows h e ∙ refused-from why (i + 1) (drop (i + 1) rows)

    grows : Chain 0 (take i rows) next → Valid (row i) → (row i).lowest ≡ next → Chain 0 (take (i + 1) rows) ((row i).highest + 1)
    grows c v l =
        let e : take (i + 1) rows ≡ take i rows ++ (row i ∷ []) = ap (λ (k : ℕ). take k rows) (add-one i) ∙ take-suc rows i no_row h in
        subst (λ (l : List LabelRow). Chain 0 l ((row i).highest + 1)) (sym e) (chain_snoc (row i) c v l)

  -- past the last row
  at-end : (next : ℕ) → Chain 0 rows next → Told rows (ended (Ok next) (length rows))
  at-end next c =
      cases (leb next largest_label)
      (λ t. let h : next ≤ largest_label = leb-true _ _ t in
      subst (Told rows) (sym (ended-short next (length rows) h)) (Told.end next (chain-covers rows c) h))
      (λ t. let h : largest_label < next = leb-false _ _ t in
      let g : next ≤ largest_label + 1 = chain-ends c (omega arith) in
      let e : next ≡ largest_label + 1 = omega arith in
      subst (Told rows) (sym (ended-whole next (length rows) h)) (Told.whole (chain-covers rows (subst (λ (k : ℕ). Chain 0 rows k) e c))))

  told-from : (m i next : ℕ) → i + m ≡ length rows → Chain 0 (take i rows) next → Told rows (from next i)
  told-from zero i next n c =
      let e : i ≡ length rows = omega arith in
      let g : length rows ≤ i = omega arith in
      let t : take i rows ≡ rows = take_all i rows g in
      subst (Told rows) (ap (λ (k : ℕ). ended (Ok next) k) (sym e) ∙ sym (coverage-end (Ok next) i rows g))
      (at-end next (subst (λ (l : List LabelRow). Chain 0 l next) t c))
  told-from (suc m) i next n c =
      let h : i < length rows = omega arith in
      let before = chain-covers (take i rows) c in
      cases (invalid (row i))
      (λ t. subst (Told rows) (sym (stops i next h (extended_row next i (row i) t))) (Told.row i next h before t))
      (λ v. cases (ltb next (row i).lowest)
      (λ t. let l : next < (row i).lowest = ltb-true _ _ t in
      subst (Told rows) (sym (stops i next h (extended-gap next i (row i) v l))) (Told.gap i next h before v l))
      (λ t. let l : (row i).lowest ≤ next = ltb-false _ _ t in
      cases (ltb (row i).lowest next)
      (λ u. let k : (row i).lowest < next = ltb-true _ _ u in
      subst (Told rows) (sym (stops i next h (extended-overlap next i (row i) v k l))) (Told.overlap i next h before v k))
      (λ u. let k : next ≤ (row i).lowest = ltb-false _ _ u in
      subst (Told rows) (sym (coverage-next (Ok next) i rows h (extended_fits next i (row i) v l k)))
      (told-from m (i + 1) ((row i).highest + 1) (omega arith) (grows i next h c v (omega arith))))))

  -- what the check answers holds of the list
  pub told : Told rows (coverage rows)
  unfolding coverage
  told = told-from (length rows) 0 0 (omega arith) Chain.none

  -- rows one behind another are passed
  passed : (i next : ℕ) → i ≤ length rows → Covers next (take i rows) → coverage rows ≡ from next i
  unfolding coverage
  passed i next h c =
      let n : 0 + length (take i rows) ≡ i = omega (arith, length-take-le i rows h) in
      ap (coverage_from (Ok 0) 0) (sym (take-append-drop i rows))
      ∙ chain-passed 0 (drop i rows) (covers-chain (take i rows) c)
      ∙ ap (λ (k : ℕ). coverage_from (Ok next) k (drop i rows)) n

  all-passed : (next : ℕ) → Covers next rows → coverage rows ≡ ended (Ok next) (length rows)
  all-passed next c =
      passed (length rows) next (omega arith) (subst (Covers next) (sym (take-length rows)) c)
      ∙ coverage-end (Ok next) (length rows) rows (omega arith)

  -- and no other answer does
  pub told-only : {x : Result Unit Refusal} → Told rows x → coverage rows ≡ x
  told-only (Told.whole c) = all-passed (largest_label + 1) c ∙ ended-whole (largest_label + 1) (length rows) (omega arith)
  told-only (Told.end next c h) = all-passed next c ∙ ended-short next (length rows) h
  told-only (Told.row i next h c t) = passed i next (omega arith) c ∙ stops i next h (extended_row next i (row i) t)
  told-only (Told.gap i next h c v l) = passed i next (omega arith) c ∙ stops i next h (extended-gap next i (row i) v l)
  told-only (Told.overlap i next h c v l) = passed i next (omega arith) c ∙ stops i next h (extended-overlap next i (row i) v l (omega arith))
