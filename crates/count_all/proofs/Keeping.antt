-- What is kept of counts: as long as the nodes fit 64 bits no count wraps, since none is above the nodes; and where they don't fit, what is
-- kept stays apart from counts that fit: the most nodes with more behind them are too many, and with nothing they have no tops. Assumes nothing.
use Rattle.std.proofs.Common.{◌≡◌, ℕ, suc, ◌+◌, ◌%◌, ◌^◌, ◌<◌, ◌≤◌, min, max, Bool, true, false, cond, eqb, refl, ◌∙◌, arith}
use Rattle.forest.specs.Outcome.{divider, entry}
use Rattle.count_all.specs.declared.Counts.{Counts}
use Rattle.count_all.specs.Counts.{no_counts, joined, beside, filling, over, one_tree}
use Rattle.count_all.specs.Kept.{most, Bounded, Keeps, TooMany, IsNone, Joins}

-- counts that fit are kept as they are
pub keeps-exact : {c m : Counts} → Keeps c m → m.nodes ≤ most → c ≡ m
keeps-exact (Keeps.exact p f) fits = refl
keeps-exact (Keeps.above p f q r) fits = absurd (omega arith)

keeps-bounded : {c m : Counts} → Keeps c m → Bounded m
keeps-bounded (Keeps.exact p f) = p
keeps-bounded (Keeps.above p f q r) = p

-- never more nodes than there are
keeps-least : {c m : Counts} → Keeps c m → c.nodes ≤ m.nodes
keeps-least (Keeps.exact p f) = omega arith
keeps-least (Keeps.above p f q r) = omega arith

-- too many
keeps-many : {c m : Counts} → TooMany c → Bounded m → most < m.nodes → Keeps c m
keeps-many t p f = Keeps.above p f t.nodes t.tops

-- nothing
pub keeps-none : {c : Counts} → IsNone c → Keeps c no_counts
keeps-none e = rw e (Keeps.exact {m = no_counts} (record { entries = omega arith; tops = omega arith; levels = omega arith }) (omega arith))

-- both together
joined-bounded : {m k : Counts} (l : ℕ) → Bounded m → Bounded k → l ≤ m.nodes + k.nodes → Bounded (joined m k l)
joined-bounded l g h low =
    record { entries = omega (arith, g.entries, h.entries); tops = omega (arith, g.tops, h.tops); levels = low }

pub joined-many : {a b c : Counts} → TooMany c → most < a.nodes + b.nodes → (m k : Counts) (l : ℕ) → Keeps a m → Keeps b k
    → l ≤ m.nodes + k.nodes → Keeps c (joined m k l)
joined-many t more m k l p q low =
    keeps-many t (joined-bounded l (keeps-bounded p) (keeps-bounded q) low) (omega (arith, keeps-least p, keeps-least q))

-- the nodes together, with these other counts
abbrev sums : Counts → Counts → ℕ → ℕ → ℕ → Counts
sums a b x y v = record { nodes = a.nodes + b.nodes; entries = x; tops = y; levels = v }

module _ (x y v : ℕ) where
  pub joined-fits : {a b : Counts} → a.nodes + b.nodes ≤ most → x ≡ (a.entries + b.entries) % 2 ^ 64 → y ≡ (a.tops + b.tops) % 2 ^ 64
      → Joins a b v (sums a b x y v)
  joined-fits fits e t m k l (Keeps.exact g i) (Keeps.exact h j) low same =
      let e' : x ≡ m.entries + k.entries = omega (arith, g.entries, h.entries) in
      let t' : y ≡ m.tops + k.tops = omega (arith, g.tops, h.tops) in
      let l' : v ≡ l = same fits in
      rw (e', t', l') (Keeps.exact {m = joined m k l} (joined-bounded l g h low) fits)
  joined-fits {a} {b} fits e t m k l (Keeps.exact g i) (Keeps.above h j q r) low same =
      Keeps.above {c = sums a b x y v} {m = joined m k l} (joined-bounded l g h low) (omega arith) (omega arith) (omega (arith, g.tops))
  joined-fits {a} {b} fits e t m k l (Keeps.above g i q r) (Keeps.exact h j) low same =
      Keeps.above {c = sums a b x y v} {m = joined m k l} (joined-bounded l g h low) (omega arith) (omega arith) (omega (arith, h.tops))
  joined-fits fits e t m k l (Keeps.above g i q r) (Keeps.above h j q' r') low same = absurd (omega arith)

-- the levels of both, as long as the nodes fit
module _ {a b m k : Counts} (p : Keeps a m) (q : Keeps b k) (fits : m.nodes + k.nodes ≤ most) where
  first-exact : a ≡ m
  first-exact = keeps-exact p (omega arith)

  second-exact : b ≡ k
  second-exact = keeps-exact q (omega arith)

  pub beside-levels : {v : ℕ} → v ≡ max a.levels b.levels → v ≡ (beside m k).levels
  unfolding beside
  beside-levels e = rw (e, first-exact, second-exact)

  pub filling-levels : {v w : ℕ} → w ≡ (a.tops + b.levels) % 2 ^ 64 → v ≡ max a.levels w → v ≡ (filling m k).levels
  unfolding filling
  filling-levels {v} {w} f e =
      let small : w ≡ m.tops + k.levels = (rw (first-exact, second-exact) at f) ∙ wraps m.tops k.levels (omega (arith, (keeps-bounded p).tops, (keeps-bounded q).levels)) in
      rw (e, first-exact, small)
    where
      wraps : (i j : ℕ) → i + j ≤ most → (i + j) % 2 ^ 64 ≡ i + j
      wraps i j h = omega arith

module _ {a b : Counts} where
  pub beside-low : (m k : Counts) → Keeps a m → Keeps b k → (beside m k).levels ≤ m.nodes + k.nodes
  unfolding beside
  beside-low m k p q = omega (arith, (keeps-bounded p).levels, (keeps-bounded q).levels)

  pub filling-low : (m k : Counts) → Keeps a m → Keeps b k → (filling m k).levels ≤ m.nodes + k.nodes
  unfolding filling
  filling-low m k p q = omega (arith, (keeps-bounded p).tops, (keeps-bounded p).levels, (keeps-bounded q).levels)

-- a node over them: an entry counts for at most as much as a node
bit-one : (b : Bool) → cond b 0 1 ≤ 1
bit-one true = omega arith
bit-one false = omega arith

entry-one : (a : ℕ) → entry a ≤ 1
unfolding entry
entry-one a = bit-one (eqb a divider)

over-bounded : (a : ℕ) {m : Counts} → Bounded m → Bounded (over a m)
unfolding over
over-bounded a g = record { entries = omega (arith, g.entries, entry-one a); tops = omega arith; levels = omega (arith, g.levels) }

pub over-many : (a : ℕ) {b c : Counts} → TooMany c → b.nodes ≡ most → (m : Counts) → Keeps b m → Keeps c (over a m)
unfolding over
over-many a t full m p = keeps-many t (over-bounded a (keeps-bounded p)) (omega (arith, keeps-least p))

pub over-fits : (a w x y : ℕ) {b : Counts} → (b.nodes ≡ most → ⊥) → w ≡ entry a → x ≡ (b.entries + w) % 2 ^ 64 → y ≡ (b.levels + 1) % 2 ^ 64
    → (m : Counts) → Keeps b m → Keeps (record { nodes = b.nodes + 1; entries = x; tops = 1; levels = y }) (over a m)
unfolding over
over-fits a w x y free q e l m (Keeps.exact g i) =
    let n' : m.nodes + 1 ≡ suc m.nodes = omega arith in
    let e' : x ≡ entry a + m.entries = omega (arith, g.entries, entry-one a) in
    let l' : y ≡ suc m.levels = omega (arith, g.levels) in
    rw (n', e', l') (Keeps.exact {m = over a m} (over-bounded a g) (omega arith))
over-fits a w x y free q e l m (Keeps.above g i full r) = absurd (free full)

-- one tree of what has a top
pub single_tree : (x : ℕ) {b : Counts} → x ≡ min b.tops 1 → (m : Counts) → Keeps b m
    → Keeps (record { nodes = b.nodes; entries = b.entries; tops = x; levels = b.levels }) (one_tree m)
unfolding one_tree
single_tree x e m (Keeps.exact g i) = rw e (Keeps.exact {m = one_tree m} (record { entries = g.entries; tops = omega (arith, g.tops); levels = g.levels }) i)
single_tree x {b} e m (Keeps.above g i q r) =
    Keeps.above {c = record { nodes = b.nodes; entries = b.entries; tops = x; levels = b.levels }} {m = one_tree m} (record { entries = g.entries; tops = omega (arith, g.tops); levels = g.levels }) i q (omega arith)
