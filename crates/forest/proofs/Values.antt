-- The laws of the forest algebra, and that a plan's values stay within it: a closed value has no hole and a holed one exactly
-- one, so that each concatenation and each substitution that a value is made by is one that the paper defines. Each law is one
-- induction over a hedge; the rest goes over the sorts of expressions. Assumes nothing.
use Prim.Native.Nat.{ℕ, suc, ◌+◌, ◌*◌, ◌≤◌, ◌<◌}
use native.Mathlib.Nat.{zero-mul, one-mul, suc-mul, add-mul}
use native.Mathlib.Omega.{arith}
use mathlib.Core.Path.{◌≡◌, refl, sym, ◌∙◌, ap, ap₂}
use mathlib.Core.List.{List}
use lib.ListN.{length}
use Rattle.rule.specs.declared.Rule.{Rule}
use Rattle.rule.specs.Sound.{Sound, Closed}
use Rattle.forest.specs.Expression.{Expression, expression}
use Rattle.forest.specs.Algebra.{Hedge, x, ◌·◌, ◌⟨◌⟩, single, value}
use Rattle.forest.specs.Sizes.{holes}
use Rattle.forest.specs.Forest.{Forest, trees, forest}
use Rattle.forest.specs.Good.{Sort, Good}
use Rattle.forest.proofs.Unfold.{rule-good, closed-row}

-- concatenation: a monoid
pub concat-ε : (f : Hedge) → f · Hedge.ε ≡ f
unfolding ◌·◌
concat-ε Hedge.ε = refl
concat-ε (Hedge.hole f) = ap Hedge.hole (concat-ε f)
concat-ε (Hedge.node a c f) = ap (Hedge.node a c) (concat-ε f)

pub concat-assoc : (f g h : Hedge) → (f · g) · h ≡ f · (g · h)
unfolding ◌·◌
concat-assoc Hedge.ε g h = refl
concat-assoc (Hedge.hole f) g h = ap Hedge.hole (concat-assoc f g h)
concat-assoc (Hedge.node a c f) g h = ap (Hedge.node a c) (concat-assoc f g h)

-- substitution: in both sides of a concatenation, and one after the other
pub concat-⟨⟩ : (f g h : Hedge) → (f · g) ⟨ h ⟩ ≡ f ⟨ h ⟩ · g ⟨ h ⟩
unfolding ◌·◌ ◌⟨◌⟩
concat-⟨⟩ Hedge.ε g h = refl
concat-⟨⟩ (Hedge.hole f) g h = ap (λ k. h · k) (concat-⟨⟩ f g h) ∙ sym (concat-assoc h (f ⟨ h ⟩) (g ⟨ h ⟩))
concat-⟨⟩ (Hedge.node a c f) g h = ap (Hedge.node a (c ⟨ h ⟩)) (concat-⟨⟩ f g h)

pub ⟨⟩-assoc : (f g h : Hedge) → f ⟨ g ⟩ ⟨ h ⟩ ≡ f ⟨ g ⟨ h ⟩ ⟩
unfolding ◌⟨◌⟩
⟨⟩-assoc Hedge.ε g h = refl
⟨⟩-assoc (Hedge.hole f) g h = concat-⟨⟩ g (f ⟨ g ⟩) h ∙ ap (λ k. g ⟨ h ⟩ · k) (⟨⟩-assoc f g h)
⟨⟩-assoc (Hedge.node a c f) g h = ap₂ (Hedge.node a) (⟨⟩-assoc c g h) (⟨⟩-assoc f g h)

-- the holes of both
pub holes-concat : (f g : Hedge) → holes (f · g) ≡ holes f + holes g
unfolding ◌·◌ holes
holes-concat Hedge.ε g = omega arith
holes-concat (Hedge.hole f) g = rw (holes-concat f g) (omega arith)
holes-concat (Hedge.node a c f) g = rw (holes-concat f g) (omega arith)

pub holes-⟨⟩ : (f g : Hedge) → holes (f ⟨ g ⟩) ≡ holes f * holes g
unfolding ◌⟨◌⟩ holes
holes-⟨⟩ Hedge.ε g = sym (zero-mul (holes g))
holes-⟨⟩ (Hedge.hole f) g = rw (holes-concat g (f ⟨ g ⟩), holes-⟨⟩ f g, suc-mul) (omega arith)
holes-⟨⟩ (Hedge.node a c f) g = rw (holes-⟨⟩ c g, holes-⟨⟩ f g, add-mul)

-- nothing to replace
pub closed-⟨⟩ : (f g : Hedge) → holes f ≡ 0 → f ⟨ g ⟩ ≡ f
unfolding ◌⟨◌⟩ holes
closed-⟨⟩ Hedge.ε g q = refl
closed-⟨⟩ (Hedge.hole f) g q = absurd (omega arith)
closed-⟨⟩ (Hedge.node a c f) g q = ap₂ (Hedge.node a) (closed-⟨⟩ c g (omega arith)) (closed-⟨⟩ f g (omega arith))

-- the values of a node and of a part, written out
pub value-node : (r a : ℕ) (c : Expression) → value (Expression.node r a c) ≡ Hedge.node a (value c) Hedge.ε
unfolding value ◌⟨◌⟩
value-node r a c = ap (λ h. Hedge.node a h Hedge.ε) (concat-ε (value c))

pub value-part : (r a : ℕ) (b c : Expression) → value (Expression.part r a b c) ≡ Hedge.node a (value b · Hedge.hole (value c)) Hedge.ε
unfolding value ◌⟨◌⟩ ◌·◌
value-part r a b c = ap (λ h. Hedge.node a h Hedge.ε) (concat-ε (value b · Hedge.hole (value c)))

-- "V0 .. without a hole", "V1 .. with a hole": the holes that a value of each sort has
abbrev pub holes_of : Sort → ℕ
holes_of Sort.row = 0
holes_of Sort.tree = 0
holes_of Sort.spine = 1

holes-fill : (b c : Expression) → holes (value b) ≡ 1 → holes (value b ⟨ value c ⟩) ≡ holes (value c)
holes-fill b c p = holes-⟨⟩ (value b) (value c) ∙ ap (λ n. n * holes (value c)) p ∙ one-mul (holes (value c))

pub value-holes : {s : Sort} {e : Expression} → Good s e → holes (value e) ≡ holes_of s
unfolding value holes
value-holes Good.empty = refl
value-holes (Good.pair {b = b} {c = c} g h) = holes-concat (value b) (value c) ∙ ap₂ ◌+◌ (value-holes g) (value-holes h)
value-holes (Good.grown g) = value-holes g
value-holes (Good.node {r = r} {a = a} {c = c} g) = ap holes (value-node r a c) ∙ ap (λ n. n + 0) (value-holes g)
value-holes (Good.fill {b = b} {c = c} g h) = holes-fill b c (value-holes g) ∙ value-holes h
value-holes (Good.part {r = r} {a = a} {b = b} {c = c} g h) =
    ap holes (value-part r a b c) ∙ ap (λ n. n + 0) (holes-concat (value b) (Hedge.hole (value c)) ∙ ap₂ (λ m n. m + suc n) (value-holes g) (value-holes h))
value-holes (Good.join {b = b} {c = c} g h) = holes-fill b c (value-holes g) ∙ value-holes h

-- "horizontal concatenation, only defined if" not both have a hole; "substitution, only defined if" the first has one
abbrev pub Concatenable : Hedge → Hedge → Type 0
Concatenable f g = holes f + holes g ≤ 1

abbrev pub Substitutable : Hedge → Type 0
Substitutable f = holes f ≡ 1

-- every operation that makes the value of an expression is defined
abbrev pub Defined : Expression → Type 0
Defined (Expression.empty r) = Unit {0}
Defined (Expression.pair r b c) = Concatenable (value b) (value c) × Defined b × Defined c
Defined (Expression.node r a c) = Substitutable (single a) × Defined c
Defined (Expression.fill r b c) = Substitutable (value b) × Defined b × Defined c
Defined (Expression.part r a b c) =
    Substitutable (single a) × Concatenable (value b) (x · value c) × Concatenable x (value c) × Defined b × Defined c
Defined (Expression.join r b c) = Substitutable (value b) × Defined b × Defined c

few : {m n k l : ℕ} → m ≡ k → n ≡ l → k + l ≤ 1 → m + n ≤ 1
few p q h = omega arith

pub value-defined : {s : Sort} {e : Expression} → Good s e → Defined e
unfolding holes ◌·◌
value-defined Good.empty = tt
value-defined (Good.pair g h) = (few (value-holes g) (value-holes h) (omega arith), value-defined g, value-defined h)
value-defined (Good.grown g) = value-defined g
value-defined (Good.node g) = (refl, value-defined g)
value-defined (Good.fill g h) = (value-holes g, value-defined g, value-defined h)
value-defined (Good.part g h) =
    (refl, few (value-holes g) (ap suc (value-holes h)) (omega arith), few refl (value-holes h) (omega arith), value-defined g, value-defined h)
value-defined (Good.join g h) = (value-holes g, value-defined g, value-defined h)

-- the value of a tree, and of a spine, is a single tree
pub data OneTree : Hedge → Type 0 where
  single_tree : {a : ℕ} {c : Hedge} → OneTree (Hedge.node a c Hedge.ε)

one-tree-⟨⟩ : {f : Hedge} (g : Hedge) → OneTree f → OneTree (f ⟨ g ⟩)
unfolding ◌⟨◌⟩
one-tree-⟨⟩ g single_tree = single_tree

pub spine-value : {e : Expression} → Good Sort.spine e → OneTree (value e)
unfolding value ◌⟨◌⟩
spine-value (Good.part g h) = single_tree
spine-value (Good.join {c = c} g h) = one-tree-⟨⟩ (value c) (spine-value g)

pub tree-value : {e : Expression} → Good Sort.tree e → OneTree (value e)
unfolding value ◌⟨◌⟩
tree-value (Good.node g) = single_tree
tree-value (Good.fill {c = c} g h) = one-tree-⟨⟩ (value c) (spine-value g)

-- a forest is a hedge without a hole, and nothing is lost on the way there and back
unfoldable pub hedge : Forest ℕ → Hedge
hedge Forest.none = Hedge.ε
hedge (Forest.tree a c f) = Hedge.node a (hedge c) (hedge f)

pub hedge-trees : (h : Hedge) → holes h ≡ 0 → hedge (trees h) ≡ h
unfolding hedge trees holes
hedge-trees Hedge.ε q = refl
hedge-trees (Hedge.hole f) q = absurd (omega arith)
hedge-trees (Hedge.node a c f) q = ap₂ (Hedge.node a) (hedge-trees c (omega arith)) (hedge-trees f (omega arith))

pub trees-hedge : (g : Forest ℕ) → trees (hedge g) ≡ g
unfolding hedge trees
trees-hedge Forest.none = refl
trees-hedge (Forest.tree a c f) = ap₂ (Forest.tree a) (trees-hedge c) (trees-hedge f)

pub holes-hedge : (g : Forest ℕ) → holes (hedge g) ≡ 0
unfolding hedge holes
holes-hedge Forest.none = refl
holes-hedge (Forest.tree a c f) = ap₂ ◌+◌ (holes-hedge c) (holes-hedge f)

-- so for the rules of a sound plan: their values are defined, and a closed rule's forest is its value
module _ {R : List Rule} {rank : ℕ → ℕ} (S : Sound R rank) where
  pub rule-defined : (r : ℕ) → r < length R → Defined (expression R r)
  rule-defined r h = value-defined (rule-good S r h)

  pub closed-value : {r : ℕ} → Closed R r → holes (value (expression R r)) ≡ 0
  closed-value c = value-holes (closed-row S c)

  pub forest-value : {r : ℕ} → Closed R r → hedge (forest R r) ≡ value (expression R r)
  unfolding forest
  forest-value {r} c = hedge-trees (value (expression R r)) (closed-value c)
