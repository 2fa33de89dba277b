-- Laws of one row, and of the rows that cover a label. Assumes nothing.
use Rattle.std.proofs.Common.{◌≡◌, ℕ, ◌<◌, ◌≤◌, Bool, true, false, ◌&&◌, ◌||◌, ltb, leb, List, [], ◌∷◌, refl, ◌∙◌, arith, ltb-false, le-ltb, le-leb, leb-true}
use mathlib.Core.Bool.{and-eq-true_iff}
use borrow.Author.Tests.{lt-leb}
use Rattle.rule.specs.Rule.{largest_label}
use Rattle.label_rows.specs.declared.LabelRow.{LabelRow}
use Rattle.label_rows.specs.Coverage.{invalid, largest_class}
use Rattle.label_rows.specs.Class.{covers, row_of}
use Rattle.label_rows.specs.Once.{covering, Each, Valid}

neither : (a b : Bool) → (a || b) ≡ false → (a ≡ false) × (b ≡ false)
neither true b e = (cc, cc)
neither false b e = (refl, e)

pub record Bounded (r : LabelRow) : Type 0 where
  pub rises : r.lowest ≤ r.highest
  pub labels : r.highest ≤ largest_label
  pub classes : r.class ≤ largest_class

pub valid-bounded : (r : LabelRow) → Valid r → Bounded r
unfolding invalid
valid-bounded r v =
    let p = neither (ltb r.highest r.lowest) (ltb largest_label r.highest || ltb largest_class r.class) v in
    let q = neither (ltb largest_label r.highest) (ltb largest_class r.class) p.1 in
    record { rises = ltb-false _ _ p.0; labels = ltb-false _ _ q.0; classes = ltb-false _ _ q.1 }

pub bounded-valid : {r : LabelRow} → Bounded r → Valid r
unfolding invalid
bounded-valid {r} b = rw (le-ltb _ _ b.rises, le-ltb _ _ b.labels, le-ltb _ _ b.classes)

module _ (r : LabelRow) (x : ℕ) where
  pub covers-inside : r.lowest ≤ x → x ≤ r.highest → covers r x ≡ true
  unfolding covers
  covers-inside l h = rw (le-leb _ _ l, le-leb _ _ h)

  pub covers_below : x < r.lowest → covers r x ≡ false
  unfolding covers
  covers_below l = rw (lt-leb _ _ l)

  pub covers-above : r.highest < x → covers r x ≡ false
  unfolding covers
  covers-above h = rw (lt-leb _ _ h) (ends (leb r.lowest x))
    where
      ends : (b : Bool) → (b && false) ≡ false
      ends true = refl
      ends false = refl

  pub covers-bounds : covers r x ≡ true → (r.lowest ≤ x) × (x ≤ r.highest)
  unfolding covers
  covers-bounds e =
      let both = (and-eq-true_iff (leb r.lowest x) (leb x r.highest)).0 e in
      (leb-true _ _ both.0, leb-true _ _ both.1)

module _ (r : LabelRow) (rs : List LabelRow) (x : ℕ) where
  pub covering-first : covers r x ≡ true → covering (r ∷ rs) x ≡ r ∷ covering rs x
  unfolding covering
  covering-first e = rw e

  pub covering-later : covers r x ≡ false → covering (r ∷ rs) x ≡ covering rs x
  unfolding covering
  covering-later e = rw e

  pub row_of-first : covers r x ≡ true → row_of (r ∷ rs) x ≡ r
  unfolding row_of
  row_of-first e = rw e

  pub row_of-later : covers r x ≡ false → row_of (r ∷ rs) x ≡ row_of rs x
  unfolding row_of
  row_of-later e = rw e

-- no row covers a label below all of them, and no valid row one above the largest
pub covering-none : (rs : List LabelRow) (x a : ℕ) → x < a → Each (λ r. a ≤ r.lowest) rs → covering rs x ≡ []
unfolding covering
covering-none [] x a l Each.none = refl
covering-none (r ∷ rs) x a l (Each.more h hs) = covering-later r rs x (covers_below r x (omega arith)) ∙ covering-none rs x a l hs

pub covering-beyond : (rs : List LabelRow) (x : ℕ) → largest_label < x → Each Valid rs → covering rs x ≡ []
unfolding covering
covering-beyond [] x l Each.none = refl
covering-beyond (r ∷ rs) x l (Each.more h hs) =
    let b = valid-bounded r h in
    covering-later r rs x (covers-above r x (omega arith)) ∙ covering-beyond rs x l hs
