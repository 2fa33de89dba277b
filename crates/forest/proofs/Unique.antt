-- Where labels know their neighbours, nodes with one parent and one previous sibling are one node: the parent's path is the same
-- by induction, and so is the number of siblings before. So two nodes with one position are one. Assumes nothing.
use Prim.Native.Nat.{ℕ, zero, suc}
use mathlib.Core.Path.{◌≡◌, refl, sym, ◌∙◌, ap, ap₂}
use mathlib.Core.List.{[], ◌∷◌}
use Rattle.std.specs.Prelude.{Option, Some, None}
use Rattle.std.proofs.lemmas.Option.{none-some, same_Some}
use Rattle.forest.specs.Expression.{Expression}
use Rattle.forest.specs.Forest.{Forest}
use Rattle.forest.specs.Place.{Side}
use Rattle.forest.specs.Letter.{Letter}
use Rattle.forest.specs.Reference.{Path, label_at, tried}
use Rattle.forest.specs.Good.{Sort, Good}
use Rattle.forest.specs.Position.{Position, Located, located_of, Named, node}
use Rattle.forest.proofs.Neighbours.{Neighbours, Knows, neighbour, tried-neighbour}
use Rattle.forest.proofs.Reach.{parent-named, sibling-before}
use Rattle.forest.proofs.Knows.{located-knows}

module _ {A : Type 0} {N : Neighbours A} {g : Forest A} (k : Knows A N None None None g) where
  up-label : {a : A} (i : ℕ) (p : Path) → label_at g (i ∷ p) ≡ Some a → label_at g p ≡ N.up a
  unfolding tried neighbour
  up-label i p e = tried-neighbour k Letter.parent (i ∷ p) e

  left-label : {a : A} (i : ℕ) (p : Path) → label_at g (suc i ∷ p) ≡ Some a → label_at g (i ∷ p) ≡ N.next Side.left a
  unfolding tried neighbour
  left-label i p e = tried-neighbour k (Letter.sibling Side.left) (suc i ∷ p) e

  left-first : {a b : A} (i : ℕ) (p : Path) → label_at g (1 ∷ p) ≡ Some a → label_at g (suc (suc i) ∷ p) ≡ Some b → N.next Side.left a ≡ N.next Side.left b → ⊥
  unfolding label_at
  left-first i p d e q =
      let c : (c : A) × (label_at g (suc i ∷ p) ≡ Some c) = sibling-before g i p e in
      none-some c.0 (left-label zero p d ∙ q ∙ sym (left-label (suc i) p e) ∙ c.1)

  same_number : (i j : ℕ) (p : Path) {a b : A} → label_at g (suc i ∷ p) ≡ Some a → label_at g (suc j ∷ p) ≡ Some b → N.next Side.left a ≡ N.next Side.left b → i ≡ j
  same_number zero zero p d e q = refl
  same_number zero (suc j) p d e q = absurd (left-first j p d e q)
  same_number (suc i) zero p d e q = absurd (left-first i p e d (sym q))
  same_number (suc i) (suc j) p d e q =
      let c : (c : A) × (label_at g (suc i ∷ p) ≡ Some c) = sibling-before g i p d in
      ap suc (same_number i j p c.1 (left-label (suc j) p e ∙ sym q ∙ sym (left-label (suc i) p d) ∙ c.1) refl)

  same-named : (p q : Path) → Named g p → Named g q → label_at g p ≡ label_at g q → ((a : A) → label_at g p ≡ Some a → label_at g q ≡ Some a → p ≡ q) → p ≡ q
  unfolding label_at
  same-named [] [] m n e f = refl
  same-named [] (j ∷ q) m (node d) e f = absurd (none-some _ (e ∙ d))
  same-named (i ∷ p) q (node d) n e f = f _ d (sym e ∙ d)

  -- nodes with one parent and one previous sibling have one path
  pub same-path : (p q : Path) {a b : A} → label_at g p ≡ Some a → label_at g q ≡ Some b → N.up a ≡ N.up b → N.next Side.left a ≡ N.next Side.left b → p ≡ q
  unfolding label_at
  same-path [] q d e u l = absurd (none-some _ d)
  same-path (zero ∷ p) q d e u l = absurd (none-some _ d)
  same-path (suc i ∷ p) [] d e u l = absurd (none-some _ e)
  same-path (suc i ∷ p) (zero ∷ q) d e u l = absurd (none-some _ e)
  same-path (suc i ∷ p) (suc j ∷ q) d e u l =
      let m : p ≡ q = same-named p q (parent-named (suc i) p d) (parent-named (suc j) q e) (up-label (suc i) p d ∙ u ∙ sym (up-label (suc j) q e)) (λ c x y. same-path p q x y refl refl) in
      ap₂ (λ n r. suc n ∷ r) (same_number i j p d (rw m e) l) m

-- two nodes of the located forest with one position are one node
pub same-position : {w : Expression} → Good Sort.row w → {e f : Expression} {z : Position} (p q : Path) → label_at (located_of w) p ≡ Some (e, z) → label_at (located_of w) q ≡ Some (f, z) → p ≡ q
same-position g p q d e = same-path (located-knows g) p q d e refl refl

pub same-expression : {w : Expression} → Good Sort.row w → {e f : Expression} {z : Position} (p q : Path) → label_at (located_of w) p ≡ Some (e, z) → label_at (located_of w) q ≡ Some (f, z) → e ≡ f
same-expression {w} g {e} {f} {z} p q d h =
    ap (λ (x : Located). x.0) (same_Some (e, z) (f, z) (sym d ∙ ap (label_at (located_of w)) (same-position g p q d h) ∙ h))
