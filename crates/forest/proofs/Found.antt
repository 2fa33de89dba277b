-- What same and differ mean (document 02, Note 4). Of two lists the verdict is true exactly if they are equal, with their length; it is
-- false at k exactly if the first k − 1 pairs agree and the k-th doesn't, a node against an ended list included. By recursion over both
-- lists. The lists of two forests are equal exactly if the forests are. Assumes nothing.
use Prim.Native.Nat.{ℕ, zero, suc, ◌-◌, ◌≤◌}
use native.Mathlib.Omega.{arith}
use mathlib.Core.Logic.{◌↔◌, ◌≢◌}
use mathlib.Core.Path.{◌≡◌, refl, sym, ◌∙◌, ap}
use mathlib.Core.Bool.{true, false, false≢true, and-eq-true_iff}
use mathlib.Core.List.{List, [], ◌∷◌}
use Rattle.std.specs.Prelude.{Some, Ok, slice_get}
use lib.ListN.{length, take}
use lib.Dec.{eqb}
use borrow.Author.Tests.{eqb-true, eq-eqb}
use Rattle.plan.specs.Check.{rules_of}
use Rattle.forest.specs.declared.Compared.{Compared}
use Rattle.forest.specs.Forest.{Forest, forest, weigh, one}
use Rattle.forest.specs.Reference.{Path}
use Rattle.forest.specs.Compare.{listed, same_node, Found, further, found, subtree_at, pairs_found, compare}
use Rattle.forest.proofs.Cases.{by_bool}
use Rattle.forest.proofs.Listed.{listed-injective}
use Rattle.forest.proofs.Compare.{answer-exactly, within-exactly, Comparable, compares, found-least, found-same, listed-length}

-- a pair agrees exactly if label and level do
node-exactly : (x y : ℕ × ℕ) → (same_node x y ≡ true) ↔ (x ≡ y)
unfolding same_node
node-exactly x y = (
  λ e.
      let h = (and-eq-true_iff (eqb x.0 y.0) (eqb x.1 y.1)).0 e in
      λ i. (eqb-true x.0 y.0 h.0 i, eqb-true x.1 y.1 h.1 i),
  λ e. (and-eq-true_iff (eqb x.0 y.0) (eqb x.1 y.1)).1
      (eq-eqb x.0 y.0 (ap (λ (z : ℕ × ℕ). z.0) e), eq-eqb x.1 y.1 (ap (λ (z : ℕ × ℕ). z.1) e)),
)

-- the first difference of two lists, at place j counted from 0: the first j pairs agree, and the next doesn't
abbrev FirstDiffer : List (ℕ × ℕ) → List (ℕ × ℕ) → ℕ → Type 0
FirstDiffer xs ys j = (take j xs ≡ take j ys) × (slice_get xs j ≢ slice_get ys j)

-- a difference is told from 1
differ-least : (xs ys : List (ℕ × ℕ)) → (found xs ys).0 ≡ false → 1 ≤ (found xs ys).1
unfolding found
differ-least [] [] e = absurd (false≢true (sym e))
differ-least [] (y ∷ ys) e = omega arith
differ-least (x ∷ xs) ys e = found-least x xs ys

found-differ : (xs ys : List (ℕ × ℕ)) (j : ℕ) → (found xs ys).0 ≡ false → (found xs ys).1 ≡ suc j → FirstDiffer xs ys j
unfolding found
found-differ [] [] j v e = absurd (false≢true (sym v))
found-differ [] (y ∷ ys) zero v e = (refl, λ q. let z : ◌≡◌ {A = ℕ} 0 1 = cc in omega arith)
found-differ [] (y ∷ ys) (suc j) v e = absurd (omega arith)
found-differ (x ∷ xs) [] zero v e = (refl, λ q. let z : ◌≡◌ {A = ℕ} 0 1 = cc in omega arith)
found-differ (x ∷ xs) [] (suc j) v e = absurd (omega arith)
found-differ (x ∷ xs) (y ∷ ys) zero v e =
    by_bool (same_node x y) (λ u. absurd (omega (arith, differ-least xs ys (rw u at v), rw u at e)))
    (λ u. (refl, λ d. let p : x ≡ y = cc in false≢true (sym u ∙ (node-exactly x y).1 p)))
found-differ (x ∷ xs) (y ∷ ys) (suc j) v e =
    by_bool (same_node x y)
    (λ u.
    let q : suc (found xs ys).1 ≡ suc (suc j) = rw u at e in
    let h = found-differ xs ys j (rw u at v) (omega arith) in
    (λ k. (node-exactly x y).0 u k ∷ h.0 k, h.1))
    (λ u. absurd (omega (arith, rw u at e)))

differ-found : (xs ys : List (ℕ × ℕ)) (j : ℕ) → FirstDiffer xs ys j → found xs ys ≡ (false, suc j)
unfolding found
differ-found [] [] j h = absurd (h.1 refl)
differ-found [] (y ∷ ys) zero h = refl
differ-found [] (y ∷ ys) (suc j) h = absurd (let e = h.0 in let z : ◌≡◌ {A = ℕ} 0 1 = cc in omega arith)
differ-found (x ∷ xs) [] zero h = refl
differ-found (x ∷ xs) [] (suc j) h = absurd (let e = h.0 in let z : ◌≡◌ {A = ℕ} 0 1 = cc in omega arith)
differ-found (x ∷ xs) (y ∷ ys) zero h = by_bool (same_node x y) (λ u. absurd (h.1 (ap Some ((node-exactly x y).0 u)))) (λ u. rw u)
differ-found (x ∷ xs) (y ∷ ys) (suc j) h =
    let e = h.0 in
    let p : x ≡ y = cc in
    let q : take j xs ≡ take j ys = cc in
    rw ((node-exactly x y).1 p) (ap further (differ-found xs ys j (q, h.1)))

-- "The count is the place, from 1, of the first pair that differs, a node against an ended list included"
pub found-differ-exactly : (xs ys : List (ℕ × ℕ)) (k : ℕ)
    → (found xs ys ≡ (false, k)) ↔ ((1 ≤ k) × (take (k - 1) xs ≡ take (k - 1) ys) × (slice_get xs (k - 1) ≢ slice_get ys (k - 1)))
found-differ-exactly xs ys zero = (
  λ e. absurd (omega (arith, differ-least xs ys (ap (λ (x : Found). x.0) e), ap (λ (x : Found). x.1) e)),
  λ h. absurd (omega (arith, h.0)),
)
found-differ-exactly xs ys (suc j) =
    let before : suc j - 1 ≡ j = omega arith in
    rw before (
      λ e. let h = found-differ xs ys j (ap (λ (x : Found). x.0) e) (ap (λ (x : Found). x.1) e) in (omega arith, h.0, h.1),
      λ h. differ-found xs ys j (h.1, h.2),
    )

-- ".. or the common length": two lists agree exactly if they are equal
found-true : (xs ys : List (ℕ × ℕ)) → (found xs ys).0 ≡ true → xs ≡ ys
unfolding found
found-true [] [] v = refl
found-true [] (y ∷ ys) v = absurd (false≢true v)
found-true (x ∷ xs) [] v = absurd (false≢true v)
found-true (x ∷ xs) (y ∷ ys) v =
    by_bool (same_node x y) (λ u. λ k. (node-exactly x y).0 u k ∷ found-true xs ys (rw u at v) k) (λ u. absurd (false≢true (rw u at v)))

pub found-same-exactly : (xs ys : List (ℕ × ℕ)) (k : ℕ) → (found xs ys ≡ (true, k)) ↔ ((xs ≡ ys) × (k ≡ length xs))
found-same-exactly xs ys k = (
  λ e.
      let p = found-true xs ys (ap (λ (x : Found). x.0) e) in
      let q : found xs ys ≡ (true, length xs) = ap (found xs) (sym p) ∙ found-same xs in
      (p, ap (λ (x : Found). x.1) (sym e ∙ q)),
  λ h. rw h.1 (ap (found xs) (sym h.0) ∙ found-same xs),
)

-- two forests agree exactly if they are equal, and the count is then the number of their nodes
pub forests-same-exactly : (f g : Forest ℕ) (k : ℕ) → (pairs_found f g ≡ (true, k)) ↔ ((f ≡ g) × (k ≡ weigh one f))
unfolding pairs_found
forests-same-exactly f g k =
    let h = found-same-exactly (listed 0 f) (listed 0 g) k in (
      λ e. (listed-injective f g 0 (h.0 e).0, (h.0 e).1 ∙ listed-length 0 f),
      λ e. h.1 (ap (listed 0) e.0, e.1 ∙ sym (listed-length 0 f)),
    )

-- so at two nodes: same exactly if their subtrees are equal, with the number of their nodes; differ exactly at the place of the first pair
-- that differs; and both only up to the budget
module _ {s work first second : List ℕ} {n start r t : ℕ} {p q : Path} (h : Comparable s work first second n start r t p q) (b k : ℕ) where
  abbrev single_tree : Forest ℕ
  single_tree = subtree_at (forest (rules_of s) r) p

  abbrev two-tree : Forest ℕ
  two-tree = subtree_at (forest (rules_of s) t) q

  pub compares-same-exactly : (compare s work first second b ≡ Ok (Compared.Same k)) ↔ ((single_tree ≡ two-tree) × (k ≡ weigh one single_tree) × (k ≤ b))
  compares-same-exactly =
      let x = within-exactly b (pairs_found single_tree two-tree) true k in
      let y = forests-same-exactly single_tree two-tree k in
      rw (compares h b) (answer-exactly (λ e. let v = x.0 e in let w = y.0 v.0 in (w.0, w.1, v.1), λ e. x.1 (y.1 (e.0, e.1), e.2)))

  pub compares-differ-exactly : (compare s work first second b ≡ Ok (Compared.Differ k))
      ↔ ((1 ≤ k)
      × (take (k - 1) (listed 0 single_tree) ≡ take (k - 1) (listed 0 two-tree))
      × (slice_get (listed 0 single_tree) (k - 1) ≢ slice_get (listed 0 two-tree) (k - 1))
      × (k ≤ b))
  unfolding pairs_found
  compares-differ-exactly =
      let x = within-exactly b (pairs_found single_tree two-tree) false k in
      let y = found-differ-exactly (listed 0 single_tree) (listed 0 two-tree) k in
      rw (compares h b)
      (answer-exactly (λ e. let v = x.0 e in let w = y.0 v.0 in (w.0, w.1, w.2, v.1), λ e. x.1 (y.1 (e.0, e.1, e.2), e.3)))
