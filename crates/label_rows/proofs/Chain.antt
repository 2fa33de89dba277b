-- Rows one behind another: each is valid and begins where the one before it ended. Such rows cover the labels from the first's lowest to
-- the last's highest, each once; and valid rows in label order that do so are such rows. Assumes nothing.
use Rattle.std.specs.Prelude.{Ok}
use Rattle.std.proofs.Common.{◌≡◌, ℕ, suc, ◌+◌, ◌<◌, ◌≤◌, true, false, ltb, leb, List, [], ◌∷◌, ◌++◌, length, sym, refl, ap, ◌∙◌, subst, add-zero, arith, ltb-false, ltb-true, leb-false, leb-true}
use borrow.Table.Steps.{cases}
use Rattle.rule.specs.Rule.{largest_label}
use Rattle.label_rows.specs.declared.LabelRow.{LabelRow}
use Rattle.label_rows.specs.Coverage.{coverage_from}
use Rattle.label_rows.specs.Class.{covers, row_of}
use Rattle.label_rows.specs.Once.{covering, Each, Valid, InOrder}
use Rattle.label_rows.proofs.Steps.{extended_fits, coverage-first}
use Rattle.label_rows.proofs.Rows.{Bounded, valid-bounded, covers-inside, covers_below, covers-above}
use Rattle.label_rows.proofs.Rows.{covering-first, covering-later, row_of-first, row_of-later, covering-none}

pub data Chain : ℕ → List LabelRow → ℕ → Type 0 where
  none : {a : ℕ} → Chain a [] a
  more : {a e : ℕ} {r : LabelRow} {rs : List LabelRow} → Valid r → r.lowest ≡ a → Chain (r.highest + 1) rs e → Chain a (r ∷ rs) e

pub chain-rises : {a e : ℕ} {rs : List LabelRow} → Chain a rs e → a ≤ e
chain-rises Chain.none = omega arith
chain-rises (Chain.more {r = r} v l c) =
    let b = valid-bounded r v in
    let h = chain-rises c in
    omega arith

pub chain-ends : {a e : ℕ} {rs : List LabelRow} → Chain a rs e → a ≤ largest_label + 1 → e ≤ largest_label + 1
chain-ends Chain.none h = h
chain-ends (Chain.more {r = r} v l c) h =
    let b = valid-bounded r v in
    chain-ends c (omega arith)

pub chain-valid : {a e : ℕ} {rs : List LabelRow} → Chain a rs e → Each Valid rs
chain-valid Chain.none = Each.none
chain-valid (Chain.more {r = r} v l c) = Each.more v (chain-valid c)

-- no row begins below the first
chain-from : {a e : ℕ} {rs : List LabelRow} (m : ℕ) → m ≤ a → Chain a rs e → Each (λ s. m ≤ s.lowest) rs
chain-from m h Chain.none = Each.none
chain-from m h (Chain.more {r = r} v l c) =
    let b = valid-bounded r v in
    Each.more {r = r} (omega arith) (chain-from m (omega arith) c)

pub chain-order : {a e : ℕ} {rs : List LabelRow} → Chain a rs e → InOrder rs
chain-order Chain.none = InOrder.none
chain-order (Chain.more {r = r} v l c) =
    let b = valid-bounded r v in
    InOrder.more (chain-from r.lowest (omega arith) c) (chain-order c)

pub chain-below : {a e : ℕ} {rs : List LabelRow} (x : ℕ) → x < a → Chain a rs e → covering rs x ≡ []
chain-below {a} {e} {rs} x h c = covering-none rs x a h (chain-from a (omega arith) c)

pub chain-above : {a e : ℕ} {rs : List LabelRow} (x : ℕ) → e ≤ x → Chain a rs e → covering rs x ≡ []
unfolding covering
chain-above x h Chain.none = refl
chain-above x h (Chain.more {r = r} {rs = rs} v l c) =
    let up = chain-rises c in
    covering-later r rs x (covers-above r x (omega arith)) ∙ chain-above x h c

-- a label in between is covered by one row
pub chain-once : {a e : ℕ} {rs : List LabelRow} (x : ℕ) → a ≤ x → x < e → Chain a rs e → covering rs x ≡ row_of rs x ∷ []
chain-once x l h Chain.none = absurd (omega arith)
chain-once x l h (Chain.more {r = r} {rs = rs} v q c) =
    cases (leb x r.highest)
    (λ t. let g : x ≤ r.highest = leb-true _ _ t in
    let u : covers r x ≡ true = covers-inside r x (omega arith) g in
    covering-first r rs x u ∙ rw (chain-below x (omega arith) c, row_of-first r rs x u))
    (λ t. let g : r.highest < x = leb-false _ _ t in
    let u : covers r x ≡ false = covers-above r x g in
    covering-later r rs x u ∙ chain-once x (omega arith) h c ∙ rw (row_of-later r rs x u))

-- how often labels are covered: from a to e once, elsewhere not at all
pub record Counted (a e : ℕ) (rs : List LabelRow) : Type 0 where
  pub below : (x : ℕ) → x < a → length (covering rs x) ≡ 0
  pub inside : (x : ℕ) → a ≤ x → x < e → length (covering rs x) ≡ 1
  pub above : (x : ℕ) → e ≤ x → length (covering rs x) ≡ 0

pub chain-counted : {a e : ℕ} {rs : List LabelRow} → Chain a rs e → Counted a e rs
chain-counted c = record {
  below = λ x h. ap length (chain-below x h c);
  inside = λ x l h. ap length (chain-once x l h c);
  above = λ x h. ap length (chain-above x h c);
}

-- one row less, where the first covers the label, or doesn't
less-first : (r : LabelRow) (rs : List LabelRow) (x n : ℕ) → covers r x ≡ true
    → length (covering (r ∷ rs) x) ≡ n → suc (length (covering rs x)) ≡ n
less-first r rs x n u e = sym (ap length (covering-first r rs x u)) ∙ e

less-later : (r : LabelRow) (rs : List LabelRow) (x n : ℕ) → covers r x ≡ false
    → length (covering (r ∷ rs) x) ≡ n → length (covering rs x) ≡ n
less-later r rs x n u e = sym (ap length (covering-later r rs x u)) ∙ e

module _ {a e : ℕ} {r : LabelRow} {rs : List LabelRow} (b : Bounded r) (k : Counted a e (r ∷ rs)) where
  begins : Each (λ s. r.lowest ≤ s.lowest) rs → a ≤ e → r.lowest ≡ a
  begins o up =
      cases (ltb r.lowest a)
      (λ t. let h : r.lowest < a = ltb-true _ _ t in
      let z = less-first r rs r.lowest 0 (covers-inside r r.lowest (omega arith) b.rises) (k.below r.lowest h) in
      absurd (omega arith))
      (λ t. let h : a ≤ r.lowest = ltb-false _ _ t in
      cases (ltb a r.lowest)
      (λ t. let l : a < r.lowest = ltb-true _ _ t in
      cases (ltb r.lowest e)
      (λ t. let g : r.lowest < e = ltb-true _ _ t in
      let z = less-later r rs a 1 (covers_below r a l) (k.inside a (omega arith) (omega arith)) in
      let n = ap length (covering-none rs a r.lowest l o) in
      absurd (omega (arith, sym n ∙ z)))
      (λ t. let g : e ≤ r.lowest = ltb-false _ _ t in
      let z = less-first r rs r.lowest 0 (covers-inside r r.lowest (omega arith) b.rises) (k.above r.lowest g) in
      absurd (omega arith)))
      (λ t. let l : r.lowest ≤ a = ltb-false _ _ t in omega arith))

  stops : r.highest < e
  stops =
      cases (ltb r.highest e)
      (λ t. ltb-true _ _ t)
      (λ t. let h : e ≤ r.highest = ltb-false _ _ t in
      let z = less-first r rs r.highest 0 (covers-inside r r.highest b.rises (omega arith)) (k.above r.highest h) in
      absurd (omega arith))

  counted-rest : r.lowest ≡ a → Counted (r.highest + 1) e rs
  counted-rest l = record {
    below = λ x h. cases (ltb x r.lowest)
        (λ t. less-later r rs x 0 (covers_below r x (ltb-true _ _ t)) (k.below x (let g = ltb-true x r.lowest t in omega arith)))
        (λ t. let g : r.lowest ≤ x = ltb-false _ _ t in
        let s = stops in
        let z = less-first r rs x 1 (covers-inside r x g (omega arith)) (k.inside x (omega arith) (omega arith)) in
        omega arith);
    inside = λ x g h. let w = b.rises in less-later r rs x 1 (covers-above r x (omega arith)) (k.inside x (omega arith) h);
    above = λ x h. let s = stops in less-later r rs x 0 (covers-above r x (omega arith)) (k.above x h);
  }

pub counted-chain : (rs : List LabelRow) {a e : ℕ} → a ≤ e → Each Valid rs → InOrder rs → Counted a e rs → Chain a rs e
unfolding covering
counted-chain [] {a} {e} h Each.none InOrder.none k =
    cases (ltb a e)
    (λ t. let z = k.inside a (omega arith) (ltb-true _ _ t) in absurd (omega arith))
    (λ t. let g : e ≤ a = ltb-false _ _ t in
    let q : a ≡ e = omega arith in
    subst (λ (m : ℕ). Chain a [] m) q Chain.none)
counted-chain (r ∷ rs) {a} {e} h (Each.more v vs) (InOrder.more o os) k =
    let b = valid-bounded r v in
    let l = begins b k o h in
    let s = stops b k in
    Chain.more v l (counted-chain rs (omega arith) vs os (counted-rest b k l))

-- the check passes such rows
pub chain-passed : {a e : ℕ} {rs : List LabelRow} (i : ℕ) (rest : List LabelRow) → Chain a rs e
    → coverage_from (Ok a) i (rs ++ rest) ≡ coverage_from (Ok e) (i + length rs) rest
chain-passed {a} i rest Chain.none = ap (λ (n : ℕ). coverage_from (Ok a) n rest) (sym (add-zero i))
chain-passed {a} {e} i rest (Chain.more {r = r} {rs = rs} v l c) =
    let n : (i + 1) + length rs ≡ i + suc (length rs) = omega arith in
    coverage-first (Ok a) i r (rs ++ rest) (extended_fits a i r v (omega arith) (omega arith))
    ∙ chain-passed (i + 1) rest c ∙ ap (λ (k : ℕ). coverage_from (Ok e) k rest) n

-- one row more behind them
pub chain_snoc : {a e : ℕ} {rs : List LabelRow} (r : LabelRow) → Chain a rs e → Valid r → r.lowest ≡ e
    → Chain a (rs ++ (r ∷ [])) (r.highest + 1)
chain_snoc r Chain.none v l = Chain.more {r = r} v l Chain.none
chain_snoc r (Chain.more {r = q} w k c) v l = Chain.more {r = q} w k (chain_snoc r c v l)
