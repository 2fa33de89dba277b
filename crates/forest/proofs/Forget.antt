-- Forgetting the cells of the placed forest gives the algebra's forest, for every expression. The placed forest of e, with
-- what stands in the hole, is e's value with that substituted: `placed` is the algebra's recursion with a place handed down,
-- and the sides that it skips are empty. Assumes nothing.
use Prim.Native.Nat.{ℕ}
use mathlib.Core.Path.{◌≡◌, refl, sym, ◌∙◌, ap, ap₂, fun_ext}
use mathlib.Core.Bool.{◌&&◌}
use mathlib.Core.Bool.{Bool, true, false, cond, and-eq-true_iff, false≢true}
use mathlib.Core.List.{List, ◌∷◌}
use Rattle.rule.specs.declared.Rule.{Rule}
use Rattle.forest.specs.Expression.{Expression, expression, rule_number}
use Rattle.forest.specs.Algebra.{Hedge, ◌·◌, ◌⟨◌⟩, value}
use Rattle.forest.specs.Forest.{Forest, append, trees, forest}
use Rattle.forest.specs.Relabel.{relabel}
use Rattle.forest.specs.Place.{Cells, Side, Placed, cell_row, cell_spine, row_of_node, row_of_part, is_empty, representative, step, placed, placed_of, placed_forest}
use Rattle.forest.specs.Ends.{has_none}
use Rattle.forest.proofs.Append.{relabel-append}
use Rattle.forest.specs.Good.{Sort, Good}
use Rattle.forest.proofs.Values.{concat-ε, concat-⟨⟩, ⟨⟩-assoc, value-node, value-part, OneTree, tree-value}

-- trees and labels of both
pub trees-concat : (f g : Hedge) → trees (f · g) ≡ append (trees f) (trees g)
unfolding ◌·◌ trees append
trees-concat Hedge.ε g = refl
trees-concat (Hedge.hole f) g = trees-concat f g
trees-concat (Hedge.node a c f) g = ap (Forest.tree a (trees c)) (trees-concat f g)

-- trees leaves holes out
pub trees-⟨ε⟩ : (f : Hedge) → trees (f ⟨ Hedge.ε ⟩) ≡ trees f
unfolding ◌·◌ ◌⟨◌⟩ trees
trees-⟨ε⟩ Hedge.ε = refl
trees-⟨ε⟩ (Hedge.hole f) = trees-⟨ε⟩ f
trees-⟨ε⟩ (Hedge.node a c f) = ap₂ (Forest.tree a) (trees-⟨ε⟩ c) (trees-⟨ε⟩ f)

-- an empty expression's value is the empty forest
pub empty-value : (e : Expression) → is_empty e ≡ true → value e ≡ Hedge.ε
unfolding is_empty value ◌·◌
empty-value (Expression.empty r) q = refl
empty-value (Expression.pair r b c) q =
    let t : (is_empty b ≡ true) × (is_empty c ≡ true) = (and-eq-true_iff (is_empty b) (is_empty c)).0 q in
    ap₂ ◌·◌ (empty-value b t.0) (empty-value c t.1)
empty-value (Expression.node r a c) q = absurd (false≢true q)
empty-value (Expression.fill r b c) q = absurd (false≢true q)
empty-value (Expression.part r a b c) q = absurd (false≢true q)
empty-value (Expression.join r b c) q = absurd (false≢true q)

-- the label of a placed node
abbrev pub label : Placed → ℕ
label p = p.0

-- h is what stands in the hole, wherever it is asked; placed anywhere, e is its value with h in the hole
abbrev pub HoleForgets : (Cells → Forest Placed) → Hedge → Type 0
HoleForgets hole h = (cs : Cells) → relabel label (hole cs) ≡ trees h

abbrev pub Forgets : Expression → (Cells → Forest Placed) → Hedge → Type 0
Forgets e hole h = (cs : Cells) → relabel label (placed e cs hole) ≡ trees (value e ⟨ h ⟩)

module _ (hole : Cells → Forest Placed) (h : Hedge) where
  pair-forgets : (r : ℕ) (b c : Expression) → Forgets b hole h → Forgets c hole h → Forgets (Expression.pair r b c) hole h
  unfolding placed value ◌·◌
  pair-forgets r b c β γ cs = go (is_empty b) (is_empty c) refl refl
    where
      left : Cells
      left = step Side.left r (representative b) cs

      right : Cells
      right = step Side.right r (representative c) cs

      whole : Bool → Bool → Forest Placed
      whole p q = cond p (placed c cs hole) (cond q (placed b cs hole) (append (placed b left hole) (placed c right hole)))

      go : (p q : Bool) → is_empty b ≡ p → is_empty c ≡ q → relabel label (whole p q) ≡ trees ((value b · value c) ⟨ h ⟩)
      go true q p' q' = γ cs ∙ ap (λ v. trees ((v · value c) ⟨ h ⟩)) (sym (empty-value b p'))
      go false true p' q' = β cs ∙ ap (λ v. trees (v ⟨ h ⟩)) (sym (concat-ε (value b)) ∙ ap (λ v. value b · v) (sym (empty-value c q')))
      go false false p' q' =
          relabel-append label (placed b left hole) (placed c right hole)
          ∙ ap₂ append (β left) (γ right)
          ∙ sym (trees-concat (value b ⟨ h ⟩) (value c ⟨ h ⟩))
          ∙ ap trees (sym (concat-⟨⟩ (value b) (value c) h))

  node-forgets : (r a : ℕ) (c : Expression) → Forgets c hole h → Forgets (Expression.node r a c) hole h
  unfolding placed relabel trees ◌⟨◌⟩
  node-forgets r a c γ cs = rw (value-node r a c) (ap (λ t. Forest.tree a t Forest.none) (γ _))

  part-forgets : (r a : ℕ) (b c : Expression) → HoleForgets hole h → Forgets b hole h → Forgets c hole h → Forgets (Expression.part r a b c) hole h
  unfolding placed relabel trees ◌⟨◌⟩
  part-forgets r a b c η β γ cs =
      rw (value-part r a b c, concat-⟨⟩ (value b) (Hedge.hole (value c)) h, trees-concat (value b ⟨ h ⟩) (h · value c ⟨ h ⟩), trees-concat h (value c ⟨ h ⟩))
      (ap (λ t. Forest.tree a t Forest.none)
      (relabel-append label (placed b left hole) (append (hole cs) (placed c right hole))
      ∙ ap₂ append (β left) (relabel-append label (hole cs) (placed c right hole) ∙ ap₂ append (η cs) (γ right))))
    where
      left : Cells
      left = (cell_row, row_of_part Side.left, representative b, 0) ∷ cs

      right : Cells
      right = (cell_row, row_of_part Side.right, representative c, 0) ∷ cs

-- The placed forest without its cells, whatever stands in the hole.
pub placed-forgets : (e : Expression) (hole : Cells → Forest Placed) (h : Hedge) → HoleForgets hole h → Forgets e hole h
unfolding placed value
placed-forgets (Expression.empty r) hole h η cs = unfold relabel trees ◌⟨◌⟩ in refl
placed-forgets (Expression.pair r b c) hole h η cs = pair-forgets hole h r b c (placed-forgets b hole h η) (placed-forgets c hole h η) cs
placed-forgets (Expression.node r a c) hole h η cs = node-forgets hole h r a c (placed-forgets c hole h η) cs
placed-forgets (Expression.fill r b c) hole h η cs =
    placed-forgets b (λ last. placed c last hole) (value c ⟨ h ⟩) (placed-forgets c hole h η) _ ∙ ap trees (sym (⟨⟩-assoc (value b) (value c) h))
placed-forgets (Expression.part r a b c) hole h η cs = part-forgets hole h r a b c η (placed-forgets b hole h η) (placed-forgets c hole h η) cs
placed-forgets (Expression.join r b c) hole h η cs =
    placed-forgets b (λ around. placed c (step Side.right r (rule_number c) cs) hole) (value c ⟨ h ⟩) (λ around. placed-forgets c hole h η _) _
    ∙ ap trees (sym (⟨⟩-assoc (value b) (value c) h))

pub placed_of-forgets : (e : Expression) → relabel label (placed_of e) ≡ trees (value e)
unfolding placed_of
placed_of-forgets e = placed-forgets e (λ around. Forest.none) Hedge.ε (λ cs. unfold relabel trees in refl) _ ∙ trees-⟨ε⟩ (value e)

pub placed_forest-forgets : (R : List Rule) (r : ℕ) → relabel label (placed_forest R r) ≡ forest R r
unfolding placed_forest forest
placed_forest-forgets R r = placed_of-forgets (expression R r)

-- "empty" is what it says: a row's expression is empty exactly when its forest has no tree
pub has_none-append : {A : Type 0} (f g : Forest A) → has_none (append f g) ≡ has_none f && has_none g
unfolding has_none append
has_none-append Forest.none g = refl
has_none-append (Forest.tree a c f) g = refl

one-tree-some : {f : Hedge} → OneTree f → has_none (trees f) ≡ false
unfolding has_none trees
one-tree-some OneTree.single_tree = refl

tree-some : {e : Expression} → Good Sort.tree e → is_empty e ≡ false
unfolding is_empty
tree-some (Good.node g) = refl
tree-some (Good.fill g h) = refl

pub empty-no-trees : {e : Expression} → Good Sort.row e → has_none (trees (value e)) ≡ is_empty e
unfolding is_empty value
empty-no-trees Good.empty = unfold has_none trees in refl
empty-no-trees (Good.pair {b = b} {c = c} g h) =
    ap has_none (trees-concat (value b) (value c)) ∙ has_none-append (trees (value b)) (trees (value c)) ∙ ap₂ ◌&&◌ (empty-no-trees g) (empty-no-trees h)
empty-no-trees (Good.grown g) = one-tree-some (tree-value g) ∙ sym (tree-some g)

-- closed expressions never ask what stands in the hole
abbrev SameHole : Sort → (Cells → Forest Placed) → (Cells → Forest Placed) → Type 0
SameHole Sort.row φ ψ = Unit {0}
SameHole Sort.tree φ ψ = Unit {0}
SameHole Sort.spine φ ψ = φ ≡ ψ

same-placed : {s : Sort} {e : Expression} → Good s e → (cs : Cells) (φ ψ : Cells → Forest Placed) → SameHole s φ ψ → placed e cs φ ≡ placed e cs ψ
unfolding placed
same-placed Good.empty cs φ ψ q = refl
same-placed (Good.pair {r = r} {b = b} {c = c} g h) cs φ ψ q =
    ap₂ (cond (is_empty b)) (same-placed h cs φ ψ tt)
    (ap₂ (cond (is_empty c)) (same-placed g cs φ ψ tt)
    (ap₂ append (same-placed g (step Side.left r (representative b) cs) φ ψ tt) (same-placed h (step Side.right r (representative c) cs) φ ψ tt)))
same-placed (Good.grown g) cs φ ψ q = same-placed g cs φ ψ q
same-placed (Good.node {r = r} {a = a} {c = c} g) cs φ ψ q =
    ap (λ t. Forest.tree (a, (cell_spine, r, 0, 0) ∷ cs) t Forest.none)
    (same-placed g ((cell_row, row_of_node, representative c, 0) ∷ (cell_spine, r, 0, 0) ∷ cs) φ ψ tt)
same-placed (Good.fill {r = r} {b = b} {c = c} g h) cs φ ψ q =
    same-placed g ((cell_spine, r, 0, 0) ∷ cs) (λ last. placed c last φ) (λ last. placed c last ψ) (fun_ext (λ last. same-placed h last φ ψ tt))
same-placed (Good.part {r = r} {a = a} {b = b} {c = c} g h) cs φ ψ q = ap (λ ρ. placed (Expression.part r a b c) cs ρ) q
same-placed (Good.join {r = r} {b = b} {c = c} g h) cs φ ψ q = ap (λ ρ. placed (Expression.join r b c) cs ρ) q

-- a closed expression never asks what a hole holds
pub closed-placed : {e : Expression} → Good Sort.row e → (cs : Cells) (φ ψ : Cells → Forest Placed) → placed e cs φ ≡ placed e cs ψ
closed-placed g cs φ ψ = same-placed g cs φ ψ tt
