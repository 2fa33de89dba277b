-- Binary search in a sound list: the row sought is one of `count` rows from `low` on, since every row before ends below the label and the
-- last of these doesn't; the highest labels ascend, so that by the last row of the first half the search goes on past that half or within
-- what is left. A row that covers the label is the one sought. Assumes nothing.
use Rattle.std.specs.Prelude.{Ok}
use Rattle.std.proofs.Common.{◌≡◌, ℕ, zero, suc, ◌+◌, ◌-◌, ◌/◌, ◌<◌, ◌≤◌, true, cond, ltb, List, ◌∷◌, length, get_or, sym, refl, ◌∙◌, subst, arith, ltb-false, ltb-true}
use borrow.Table.Steps.{cases}
use Rattle.rule.specs.Rule.{largest_label}
use Rattle.label_rows.specs.declared.LabelRow.{LabelRow}
use Rattle.label_rows.specs.Coverage.{coverage}
use Rattle.label_rows.specs.Class.{covers, no_row, row_of}
use Rattle.label_rows.proofs.Rows.{valid-bounded, covers-inside, covers-above, covers-bounds, row_of-first, row_of-later}
use Rattle.label_rows.proofs.Chain.{Chain}
use Rattle.label_rows.proofs.Once.{sound-chain}

abbrev pub highest_at : List LabelRow → ℕ → ℕ
highest_at rows k = (get_or rows k no_row).highest

abbrev pub lowest_at : List LabelRow → ℕ → ℕ
lowest_at rows k = (get_or rows k no_row).lowest

-- rows one behind another begin where the first does or later, each no higher than it ends, and above those before it
chain-lowest : {a e : ℕ} {rs : List LabelRow} (k : ℕ) → Chain a rs e → k < length rs → a ≤ lowest_at rs k
chain-lowest k Chain.none h = absurd (omega arith)
chain-lowest zero (Chain.more v l c) h = omega arith
chain-lowest (suc k) (Chain.more {r = r} v l c) h =
    let b = valid-bounded r v in
    let up = chain-lowest k c (omega arith) in
    omega arith

chain-valued : {a e : ℕ} {rs : List LabelRow} (k : ℕ) → Chain a rs e → k < length rs → lowest_at rs k ≤ highest_at rs k
chain-valued k Chain.none h = absurd (omega arith)
chain-valued zero (Chain.more {r = r} v l c) h = (valid-bounded r v).rises
chain-valued (suc k) (Chain.more v l c) h = chain-valued k c (omega arith)

chain-apart : {a e : ℕ} {rs : List LabelRow} (j k : ℕ) → Chain a rs e → j < k → k < length rs → highest_at rs j < lowest_at rs k
chain-apart j k Chain.none l h = absurd (omega arith)
chain-apart j zero (Chain.more v q c) l h = absurd (omega arith)
chain-apart zero (suc k) (Chain.more {r = r} v q c) l h = let up = chain-lowest k c (omega arith) in omega arith
chain-apart (suc j) (suc k) (Chain.more v q c) l h = chain-apart j k c (omega arith) (omega arith)

-- the highest labels of rows one behind another: above where these begin, ascending, the last at the end
chain-highest : {a e : ℕ} {rs : List LabelRow} (k : ℕ) → Chain a rs e → k < length rs → a ≤ highest_at rs k
chain-highest k Chain.none h = absurd (omega arith)
chain-highest zero (Chain.more {r = r} v l c) h = let b = valid-bounded r v in omega arith
chain-highest (suc k) (Chain.more {r = r} v l c) h =
    let b = valid-bounded r v in
    let up = chain-highest k c (omega arith) in
    omega arith

chain-ascends : {a e : ℕ} {rs : List LabelRow} (j k : ℕ) → Chain a rs e → j ≤ k → k < length rs → highest_at rs j ≤ highest_at rs k
chain-ascends j k Chain.none l h = absurd (omega arith)
chain-ascends zero zero (Chain.more v q c) l h = omega arith
chain-ascends zero (suc k) (Chain.more {r = r} v q c) l h = let up = chain-highest k c (omega arith) in omega arith
chain-ascends (suc j) zero (Chain.more v q c) l h = absurd (omega arith)
chain-ascends (suc j) (suc k) (Chain.more v q c) l h = chain-ascends j k c (omega arith) (omega arith)

chain-tail : (k : ℕ) {b e : ℕ} (r : LabelRow) {rs : List LabelRow} → Chain b rs e → b ≡ r.highest + 1 → k ≡ length rs → highest_at (r ∷ rs) k + 1 ≡ e
chain-tail zero r Chain.none q n = sym q
chain-tail (suc k) r Chain.none q n = absurd (omega arith)
chain-tail zero r (Chain.more w p c) q n = absurd (omega arith)
chain-tail (suc k) r (Chain.more {r = s} w p c) q n = chain-tail k s c refl (omega arith)

chain-last : {a e : ℕ} {rs : List LabelRow} (k : ℕ) → Chain a rs e → k + 1 ≡ length rs → highest_at rs k + 1 ≡ e
chain-last k Chain.none n = absurd (omega arith)
chain-last k (Chain.more {r = r} v q c) n = chain-tail k r c refl (omega arith)

chain-some : {a e : ℕ} {rs : List LabelRow} → Chain a rs e → a < e → 0 < length rs
chain-some Chain.none h = absurd (omega arith)
chain-some (Chain.more v q c) h = omega arith

-- the first row that doesn't end below a label is its row
chain-found : {a e : ℕ} {rs : List LabelRow} (x k : ℕ) → Chain a rs e → a ≤ x → k < length rs
    → ((j : ℕ) → j < k → highest_at rs j < x) → x ≤ highest_at rs k → row_of rs x ≡ get_or rs k no_row
chain-found x k Chain.none l h before at = absurd (omega arith)
chain-found x zero (Chain.more {r = r} {rs = rs} v q c) l h before at = row_of-first r rs x (covers-inside r x (omega arith) at)
chain-found x (suc k) (Chain.more {r = r} {rs = rs} v q c) l h before at =
    let first : r.highest < x = before 0 (omega arith) in
    row_of-later r rs x (covers-above r x first) ∙ chain-found x k c (omega arith) (omega arith) (λ j g. before (suc j) (omega arith)) at

-- where the search stands
pub record Within (rows : List LabelRow) (x low count : ℕ) : Type 0 where
  pub some : 0 < count
  pub inside : low + count ≤ length rows
  pub before : (j : ℕ) → j < low → highest_at rows j < x
  pub reaches : (k : ℕ) → k + 1 ≡ low + count → x ≤ highest_at rows k

module _ (rows : List LabelRow) (sound : coverage rows ≡ Ok tt) (x : ℕ) where
  pub some-row : 0 < length rows
  some-row = chain-some (sound-chain rows sound) (omega arith)

  pub row-rises : (k : ℕ) → k < length rows → lowest_at rows k ≤ highest_at rows k
  row-rises k h = chain-valued k (sound-chain rows sound) h

  -- in all rows, or in one that covers the label
  within_all : x ≤ largest_label → Within rows x 0 (length rows)
  within_all h = record {
    some = some-row;
    inside = omega arith;
    before = λ j g. absurd (omega arith);
    reaches = λ k e. let last = chain-last k (sound-chain rows sound) (omega arith) in omega arith;
  }

  within-one : (k : ℕ) → k < length rows → covers (get_or rows k no_row) x ≡ true → Within rows x k 1
  within-one k h e =
      let b = covers-bounds (get_or rows k no_row) x e in
      record {
        some = omega arith;
        inside = omega arith;
        before = λ j g. let up = chain-apart j k (sound-chain rows sound) g h in omega (arith, b.0);
        reaches = λ i f. subst (λ (j : ℕ). x ≤ highest_at rows j) (sym (omega arith)) b.1;
      }

  -- where it begins, by a row that was guessed
  pub within-start : x ≤ largest_label → (k : ℕ) → k < length rows
      → Within rows x (cond (covers (get_or rows k no_row) x) k 0) (cond (covers (get_or rows k no_row) x) 1 (length rows))
  within-start h k g =
      cases (covers (get_or rows k no_row) x)
      (λ found. rw found (within-one k g found))
      (λ missed. rw missed (within_all h))

  -- a turn, by the last row of the first half
  module _ (low count : ℕ) (m : 1 < count) (w : Within rows x low count) where
    within-up : highest_at rows (low + count / 2 - 1) < x → Within rows x (low + count / 2) (count - count / 2)
    within-up h =
        let i = w.inside in
        record {
          some = omega arith;
          inside = omega arith;
          before = λ j g. let up = chain-ascends j (low + count / 2 - 1) (sound-chain rows sound) (omega arith) (omega arith) in omega arith;
          reaches = λ k e. w.reaches k (omega arith);
        }

    within-down : x ≤ highest_at rows (low + count / 2 - 1) → Within rows x low (count - count / 2)
    within-down h =
        let i = w.inside in
        record {
          some = omega arith;
          inside = omega arith;
          before = w.before;
          reaches = λ k e. let up = chain-ascends (low + count / 2 - 1) k (sound-chain rows sound) (omega arith) (omega arith) in omega arith;
        }

    pub within-next : Within rows x (cond (ltb (highest_at rows (low + count / 2 - 1)) x) (low + count / 2) low) (count - count / 2)
    within-next =
        let highest = highest_at rows (low + count / 2 - 1) in
        cases (ltb highest x)
        (λ below. rw below (within-up (ltb-true highest x below)))
        (λ reached. rw reached (within-down (ltb-false highest x reached)))

  pub within-found : (k : ℕ) → Within rows x k 1 → get_or rows k no_row ≡ row_of rows x
  within-found k w = let i = w.inside in sym (chain-found x k (sound-chain rows sound) (omega arith) (omega arith) w.before (w.reaches k refl))
