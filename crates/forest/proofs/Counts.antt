-- What counts do under append, relabel and substitution, and so what each right-hand side adds: the sums and the largest of both. A
-- value with a hole is counted without its hole, and what is put into the hole is counted once, below
-- the nodes over the hole. Assumes nothing.
use Prim.Native.Nat.{ℕ, suc, ◌+◌, ◌*◌, ◌/◌, ◌%◌, ◌≤◌, ◌<◌, max}
use native.Mathlib.Nat.{zero-mul, one-mul, suc-mul, add-mul}
use native.Mathlib.Omega.{arith}
use mathlib.Core.Logic.{◌≢◌}
use mathlib.Core.Path.{◌≡◌, refl, sym, ◌∙◌, ap, ap₂}
use mathlib.Core.Bool.{Bool, true, false, cond}
use mathlib.Core.List.{◌∷◌, ◌++◌}
use lib.ListN.{length, length-append}
use lib.Dec.{eqb}
use borrow.Author.Tests.{eq-eqb, ne_eqb, eqb-true, eqb-false}
use Rattle.words.specs.Number.{base, bytes}
use Rattle.words.proofs.Laws.{length-bytes}
use Rattle.record.specs.declared.Format.{Format}
use Rattle.record.specs.Format.{high_length, label_length}
use Rattle.forest.specs.Expression.{Expression}
use Rattle.forest.specs.Algebra.{Hedge, ◌·◌, ◌⟨◌⟩, value}
use Rattle.forest.specs.Sizes.{holes}
use Rattle.forest.specs.Forest.{Forest, append, trees, count, weigh, one, levels, text}
use Rattle.forest.specs.Relabel.{relabel}
use Rattle.forest.specs.Outcome.{node_length}
use Rattle.forest.specs.Good.{Sort, Good}
use Rattle.forest.proofs.Values.{holes-concat, holes-⟨⟩, closed-⟨⟩, value-node, value-part, value-holes, OneTree, tree-value}
use Rattle.forest.proofs.Forget.{trees-concat}

module _ {A : Type 0} where
  pub count-append : (f g : Forest A) → count (append f g) ≡ count f + count g
  unfolding append count
  count-append Forest.none g = omega arith
  count-append (Forest.tree a c f) g = rw (count-append f g) (omega arith)

  pub weigh-append : (w : A → ℕ) (f g : Forest A) → weigh w (append f g) ≡ weigh w f + weigh w g
  unfolding append weigh
  weigh-append w Forest.none g = omega arith
  weigh-append w (Forest.tree a c f) g = rw (weigh-append w f g) (omega arith)

  pub levels-append : (f g : Forest A) → levels (append f g) ≡ max (levels f) (levels g)
  unfolding append levels
  levels-append Forest.none g = omega arith
  levels-append (Forest.tree a c f) g = rw (levels-append f g) (omega arith)

module _ (f : Format) where
  -- the label's bytes and two more a node
  pub text_length : (g : Forest ℕ) → length (text f g) ≡ node_length f * weigh one g
  unfolding text weigh
  text_length Forest.none = omega arith
  text_length (Forest.tree a c g) =
      rw (length-append (bytes (label_length f) a) (text f c ++ (41 ∷ text f g)), length-append (text f c) (41 ∷ text f g), length-bytes (label_length f) a)
      (omega (arith, text_length c, text_length g))

-- "Plans with the old mark keep .. their texts": the one byte of a narrow label is the label
pub text-narrow : (a : ℕ) (c g : Forest ℕ) → a < base
    → text Format.Narrow (Forest.tree a c g) ≡ 40 ∷ a ∷ (text Format.Narrow c ++ (41 ∷ text Format.Narrow g))
unfolding text bytes high_length
text-narrow a c g small = let low : a % base ≡ a = omega arith in rw low

-- "a wide label as three bytes, low first"
pub text-wide : (x y z : ℕ) (c g : Forest ℕ) → x < base → y < base → z < base
    → text Format.Wide (Forest.tree (x + base * (y + base * z)) c g) ≡ 40 ∷ x ∷ y ∷ z ∷ (text Format.Wide c ++ (41 ∷ text Format.Wide g))
unfolding text bytes high_length
text-wide x y z c g p q r =
    let low : (x + base * (y + base * z)) % base ≡ x = omega arith in
    let rest : (x + base * (y + base * z)) / base ≡ y + base * z = omega arith in
    let middle : (y + base * z) % base ≡ y = omega arith in
    let last : (y + base * z) / base ≡ z = omega arith in
    let high : z % base ≡ z = omega arith in
    rw (low, rest, middle, last, high)

module _ {A B : Type 0} (h : A → B) where
  pub weigh-relabel : (w : B → ℕ) (g : Forest A) → weigh w (relabel h g) ≡ weigh (λ a. w (h a)) g
  unfolding relabel weigh
  weigh-relabel w Forest.none = refl
  weigh-relabel w (Forest.tree a c f) = ap₂ (λ m n. w (h a) + m + n) (weigh-relabel w c) (weigh-relabel w f)

  pub levels-relabel : (g : Forest A) → levels (relabel h g) ≡ levels g
  unfolding relabel levels
  levels-relabel Forest.none = refl
  levels-relabel (Forest.tree a c f) = ap₂ (λ m n. max (suc m) n) (levels-relabel c) (levels-relabel f)

-- the nodes of a hedge, and those of what stands in each hole
weigh-holes : (w : ℕ → ℕ) (f g : Hedge) → weigh w (trees (f ⟨ g ⟩)) ≡ weigh w (trees f) + holes f * weigh w (trees g)
unfolding ◌⟨◌⟩ trees weigh holes
weigh-holes w Hedge.ε g = rw (zero-mul (weigh w (trees g))) (omega arith)
weigh-holes w (Hedge.hole f) g =
    rw (trees-concat g (f ⟨ g ⟩), weigh-append w (trees g) (trees (f ⟨ g ⟩)), weigh-holes w f g, suc-mul (holes f) (weigh w (trees g))) (omega arith)
weigh-holes w (Hedge.node a c f) g = rw (weigh-holes w c g, weigh-holes w f g, add-mul (holes c) (holes f) (weigh w (trees g))) (omega arith)

pub weigh-⟨⟩ : (w : ℕ → ℕ) (f g : Hedge) → holes f ≡ 1 → weigh w (trees (f ⟨ g ⟩)) ≡ weigh w (trees f) + weigh w (trees g)
weigh-⟨⟩ w f g q = weigh-holes w f g ∙ ap (λ n. weigh w (trees f) + n) (ap (λ n. n * weigh w (trees g)) q ∙ one-mul (weigh w (trees g)))

-- how many nodes lie over the hole
unfoldable pub hole_depth : Hedge → ℕ
unfolding holes
hole_depth Hedge.ε = 0
hole_depth (Hedge.hole f) = 0
hole_depth (Hedge.node a c f) = cond (eqb (holes c) 0) (hole_depth f) (suc (hole_depth c))

-- where the only hole is: first, under the first node, or past it
data Holed : Hedge → Type 0 where
  first : {f : Hedge} → holes f ≡ 0 → Holed (Hedge.hole f)
  under : {a : ℕ} {c f : Hedge} → Holed c → holes c ≡ 1 → holes f ≡ 0 → Holed (Hedge.node a c f)
  past : {a : ℕ} {c f : Hedge} → holes c ≡ 0 → Holed f → Holed (Hedge.node a c f)

holed : (f : Hedge) → holes f ≡ 1 → Holed f
unfolding holes
holed Hedge.ε q = absurd (omega arith)
holed (Hedge.hole f) q = first {f = f} (omega arith)
holed (Hedge.node a c f) q = go (eqb (holes c) 0) refl (holed c) (holed f)
  where
    go : (p : Bool) → eqb (holes c) 0 ≡ p → (holes c ≡ 1 → Holed c) → (holes f ≡ 1 → Holed f) → Holed (Hedge.node a c f)
    go true t γ φ = let z : holes c ≡ 0 = eqb-true (holes c) 0 t in past z (φ (omega arith))
    go false t γ φ = let z : holes c ≢ 0 = eqb-false (holes c) 0 t in under {f = f} (γ (omega arith)) (omega arith) (omega arith)

depth-under : (a : ℕ) (c f : Hedge) → holes c ≡ 1 → hole_depth (Hedge.node a c f) ≡ suc (hole_depth c)
unfolding hole_depth
depth-under a c f q = rw (ne_eqb (holes c) 0 (λ z. omega arith))

depth-past : (a : ℕ) (c f : Hedge) → holes c ≡ 0 → hole_depth (Hedge.node a c f) ≡ hole_depth f
unfolding hole_depth
depth-past a c f q = rw (eq-eqb (holes c) 0 q)

-- the levels of a hedge, and those of what stands in its hole, below the nodes over the hole
levels-holed : {f : Hedge} (g : Hedge) → Holed f → levels (trees (f ⟨ g ⟩)) ≡ max (levels (trees f)) (hole_depth f + levels (trees g))
unfolding ◌⟨◌⟩ trees levels
levels-holed g (first {f} q) = rw (closed-⟨⟩ f g q, trees-concat g f, levels-append (trees g) (trees f)) (unfold hole_depth in omega arith)
levels-holed g (under {a} {c} {f} h p q) = rw (closed-⟨⟩ f g q, levels-holed g h, depth-under a c f p) (omega arith)
levels-holed g (past {a} {c} {f} q h) = rw (closed-⟨⟩ c g q, levels-holed g h, depth-past a c f q) (omega arith)

pub levels-⟨⟩ : (f g : Hedge) → holes f ≡ 1 → levels (trees (f ⟨ g ⟩)) ≡ max (levels (trees f)) (hole_depth f + levels (trees g))
levels-⟨⟩ f g q = levels-holed g (holed f q)

-- one hole within another
depth-concat-one : {f : Hedge} (g : Hedge) → Holed f → hole_depth (f · g) ≡ hole_depth f
unfolding ◌·◌
depth-concat-one g (first q) = unfold hole_depth in refl
depth-concat-one g (under {a} {c} {f} h p q) = depth-under a c (f · g) p ∙ sym (depth-under a c f p)
depth-concat-one g (past {a} {c} {f} q h) = depth-past a c (f · g) q ∙ depth-concat-one g h ∙ sym (depth-past a c f q)

depth-concat-two : (f g : Hedge) → holes f ≡ 0 → hole_depth (f · g) ≡ hole_depth g
unfolding ◌·◌ holes
depth-concat-two Hedge.ε g q = refl
depth-concat-two (Hedge.hole f) g q = absurd (omega arith)
depth-concat-two (Hedge.node a c f) g q = depth-past a c (f · g) (omega arith) ∙ depth-concat-two f g (omega arith)

depth-holed : {f : Hedge} (g : Hedge) → Holed f → holes g ≡ 1 → hole_depth (f ⟨ g ⟩) ≡ hole_depth f + hole_depth g
unfolding ◌⟨◌⟩
depth-holed g (first {f} q) k = depth-concat-one (f ⟨ g ⟩) (holed g k) ∙ (unfold hole_depth in omega arith)
depth-holed g (under {a} {c} {f} h p q) k =
    depth-under a (c ⟨ g ⟩) (f ⟨ g ⟩) (holes-⟨⟩ c g ∙ ap₂ ◌*◌ p k) ∙ rw (depth-holed g h k, depth-under a c f p) (omega arith)
depth-holed g (past {a} {c} {f} q h) k =
    depth-past a (c ⟨ g ⟩) (f ⟨ g ⟩) (ap holes (closed-⟨⟩ c g q) ∙ q) ∙ depth-holed g h k ∙ ap (λ n. n + hole_depth g) (sym (depth-past a c f q))

pub hole_depth-⟨⟩ : (f g : Hedge) → holes f ≡ 1 → holes g ≡ 1 → hole_depth (f ⟨ g ⟩) ≡ hole_depth f + hole_depth g
hole_depth-⟨⟩ f g p q = depth-holed g (holed f p) q

-- What each right-hand side adds: pairs first
module _ (r : ℕ) (b c : Expression) where
  pub pair-trees : trees (value (Expression.pair r b c)) ≡ append (trees (value b)) (trees (value c))
  unfolding value
  pair-trees = trees-concat (value b) (value c)

  pub count-pair : count (trees (value (Expression.pair r b c))) ≡ count (trees (value b)) + count (trees (value c))
  count-pair = ap count pair-trees ∙ count-append (trees (value b)) (trees (value c))

  pub weigh-pair : (w : ℕ → ℕ) → weigh w (trees (value (Expression.pair r b c))) ≡ weigh w (trees (value b)) + weigh w (trees (value c))
  weigh-pair w = ap (weigh w) pair-trees ∙ weigh-append w (trees (value b)) (trees (value c))

  pub levels-pair : levels (trees (value (Expression.pair r b c))) ≡ max (levels (trees (value b))) (levels (trees (value c)))
  levels-pair = ap levels pair-trees ∙ levels-append (trees (value b)) (trees (value c))

-- a node over C
module _ (r a : ℕ) (c : Expression) where
  pub node-trees : trees (value (Expression.node r a c)) ≡ Forest.tree a (trees (value c)) Forest.none
  unfolding trees
  node-trees = ap trees (value-node r a c)

  pub weigh-node : (w : ℕ → ℕ) → weigh w (trees (value (Expression.node r a c))) ≡ w a + weigh w (trees (value c))
  unfolding weigh
  weigh-node w = ap (weigh w) node-trees ∙ omega arith

  pub levels-node : levels (trees (value (Expression.node r a c))) ≡ suc (levels (trees (value c)))
  unfolding levels
  levels-node = ap levels node-trees ∙ omega arith

-- a part, without its hole, and the depth of its hole
module _ (r a : ℕ) (b c : Expression) where
  part-trees : trees (value (Expression.part r a b c)) ≡ Forest.tree a (append (trees (value b)) (trees (value c))) Forest.none
  unfolding trees
  part-trees = ap trees (value-part r a b c) ∙ ap (λ t. Forest.tree a t Forest.none) (trees-concat (value b) (Hedge.hole (value c)))

  pub weigh-part : (w : ℕ → ℕ) → weigh w (trees (value (Expression.part r a b c))) ≡ w a + weigh w (trees (value b)) + weigh w (trees (value c))
  unfolding weigh
  weigh-part w = ap (weigh w) part-trees ∙ rw (weigh-append w (trees (value b)) (trees (value c))) (omega arith)

  pub levels-part : levels (trees (value (Expression.part r a b c))) ≡ suc (max (levels (trees (value b))) (levels (trees (value c))))
  unfolding levels
  levels-part = ap levels part-trees ∙ rw (levels-append (trees (value b)) (trees (value c))) (omega arith)

  pub hole_depth-part : Good Sort.row b → Good Sort.row c → hole_depth (value (Expression.part r a b c)) ≡ 1
  unfolding holes
  hole_depth-part g h =
      ap hole_depth (value-part r a b c)
      ∙ depth-under a (value b · Hedge.hole (value c)) Hedge.ε
      (holes-concat (value b) (Hedge.hole (value c)) ∙ ap₂ (λ m n. m + suc n) (value-holes g) (value-holes h))
      ∙ ap suc (depth-concat-two (value b) (Hedge.hole (value c)) (value-holes g) ∙ (unfold hole_depth in refl))

-- fill and join: C in the hole of the spine B
module _ {b : Expression} (g : Good Sort.spine b) (c : Expression) where
  pub weigh-fill : (w : ℕ → ℕ) → weigh w (trees (value b ⟨ value c ⟩)) ≡ weigh w (trees (value b)) + weigh w (trees (value c))
  weigh-fill w = weigh-⟨⟩ w (value b) (value c) (value-holes g)

  pub levels-fill : levels (trees (value b ⟨ value c ⟩)) ≡ max (levels (trees (value b))) (hole_depth (value b) + levels (trees (value c)))
  levels-fill = levels-⟨⟩ (value b) (value c) (value-holes g)

  pub hole_depth-join : Good Sort.spine c → hole_depth (value b ⟨ value c ⟩) ≡ hole_depth (value b) + hole_depth (value c)
  hole_depth-join h = hole_depth-⟨⟩ (value b) (value c) (value-holes g) (value-holes h)

-- a tree is one tree
one-tree-count : {f : Hedge} → OneTree f → count (trees f) ≡ 1
unfolding trees count
one-tree-count OneTree.single_tree = refl

pub count-tree : {e : Expression} → Good Sort.tree e → count (trees (value e)) ≡ 1
count-tree g = one-tree-count (tree-value g)
