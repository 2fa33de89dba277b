-- The same forest with other labels: a walker takes the same paths on it, and its answers are relabelled. Each part of the
-- walker looks at the shape alone, so every law is one induction. Assumes nothing.
use Prim.Native.Nat.{ℕ, zero, suc}
use mathlib.Core.Path.{◌≡◌, refl, sym, ◌∙◌, ap, ap₂}
use mathlib.Core.Bool.{Bool, true, false, cond, not, ◌&&◌}
use mathlib.Core.List.{List, [], ◌∷◌, map}
use Rattle.std.specs.Prelude.{Option, None, option_map}
use Rattle.forest.specs.Forest.{Forest, count}
use Rattle.forest.specs.Relabel.{relabel}
use Rattle.forest.specs.Place.{Side}
use Rattle.forest.specs.Letter.{Letter, is_root}
use Rattle.forest.specs.Reference.{Path, later, from, below, top, children_at, node_at, label_at, end_of, tried, is_above, answer, moved, answers, path_after}
use Rattle.forest.proofs.Cases.{by-option}
use Rattle.forest.proofs.Steps.{moved_nowhere, moved-node}

module _ {A B : Type 0} (h : A → B) where
  pub count-relabel : (g : Forest A) → count (relabel h g) ≡ count g
  unfolding relabel count
  count-relabel Forest.none = refl
  count-relabel (Forest.tree a c f) = ap suc (count-relabel f)

  later-relabel : (i : ℕ) (g : Forest A) → later i (relabel h g) ≡ relabel h (later i g)
  unfolding relabel later
  later-relabel zero g = refl
  later-relabel (suc i) Forest.none = refl
  later-relabel (suc i) (Forest.tree a c f) = later-relabel i f

  from-relabel : (i : ℕ) (g : Forest A) → from i (relabel h g) ≡ relabel h (from i g)
  unfolding relabel from
  from-relabel zero g = refl
  from-relabel (suc i) g = later-relabel i g

  below-relabel : (g : Forest A) → below (relabel h g) ≡ relabel h (below g)
  unfolding relabel below
  below-relabel Forest.none = refl
  below-relabel (Forest.tree a c f) = refl

  top-relabel : (g : Forest A) → top (relabel h g) ≡ option_map h (top g)
  unfolding relabel top
  top-relabel Forest.none = refl
  top-relabel (Forest.tree a c f) = refl

  pub children_at-relabel : (g : Forest A) (p : Path) → children_at (relabel h g) p ≡ relabel h (children_at g p)
  unfolding children_at
  children_at-relabel g [] = refl
  children_at-relabel g (i ∷ p) = ap (λ x. below (from i x)) (children_at-relabel g p) ∙ ap below (from-relabel i (children_at g p)) ∙ below-relabel (from i (children_at g p))

  pub node_at-relabel : (g : Forest A) (p : Path) → node_at (relabel h g) p ≡ relabel h (node_at g p)
  unfolding node_at relabel
  node_at-relabel g [] = refl
  node_at-relabel g (i ∷ p) = ap (from i) (children_at-relabel g p) ∙ from-relabel i (children_at g p)

  pub label_at-relabel : (g : Forest A) (p : Path) → label_at (relabel h g) p ≡ option_map h (label_at g p)
  unfolding label_at
  label_at-relabel g p = ap top (node_at-relabel g p) ∙ top-relabel (node_at g p)

  end_of-relabel : (s : Side) (g : Forest A) → end_of s (relabel h g) ≡ end_of s g
  unfolding end_of
  end_of-relabel Side.left g = refl
  end_of-relabel Side.right g = count-relabel g

  pub tried-relabel : (g : Forest A) (c : Letter) (p : Path) → tried (relabel h g) c p ≡ tried g c p
  unfolding tried
  tried-relabel g (Letter.root s) p = ap (λ i. i ∷ []) (end_of-relabel s g)
  tried-relabel g (Letter.child s) p = ap (λ i. i ∷ p) (ap (end_of s) (children_at-relabel g p) ∙ end_of-relabel s (children_at g p))
  tried-relabel g (Letter.sibling s) [] = refl
  tried-relabel g (Letter.sibling s) (i ∷ p) = refl
  tried-relabel g Letter.parent [] = refl
  tried-relabel g Letter.parent (i ∷ p) = refl
  tried-relabel g Letter.stay p = refl

  map-cond : (b : Bool) (x : Option A) → cond b None (option_map h x) ≡ option_map h (cond b None x)
  map-cond true x = refl
  map-cond false x = refl

  pub answer-relabel : (g : Forest A) (c : Letter) (p : Path) → answer (relabel h g) c p ≡ option_map h (answer g c p)
  unfolding answer
  answer-relabel g c p =
      ap (cond (is_above p && not (is_root c)) None) (ap (label_at (relabel h g)) (tried-relabel g c p) ∙ label_at-relabel g (tried g c p))
      ∙ map-cond (is_above p && not (is_root c)) (label_at g (tried g c p))

  pub moved-relabel : (g : Forest A) (c : Letter) (p : Path) → moved (relabel h g) c p ≡ moved g c p
  moved-relabel g c p =
      by-option (answer g c p) (λ e. moved_nowhere (relabel h g) c p (answer-relabel g c p ∙ ap (option_map h) e) ∙ sym (moved_nowhere g c p e))
      (λ a e. moved-node (relabel h g) c p (answer-relabel g c p ∙ ap (option_map h) e) ∙ tried-relabel g c p ∙ sym (moved-node g c p e))

  pub answers-relabel : (g : Forest A) (cs : List Letter) (p : Path) → answers (relabel h g) cs p ≡ map (option_map h) (answers g cs p)
  unfolding answers
  answers-relabel g [] p = refl
  answers-relabel g (c ∷ cs) p = ap₂ ◌∷◌ (answer-relabel g c p) (ap (answers (relabel h g) cs) (moved-relabel g c p) ∙ answers-relabel g cs (moved g c p))

  pub path_after-relabel : (g : Forest A) (cs : List Letter) (p : Path) → path_after (relabel h g) cs p ≡ path_after g cs p
  unfolding path_after
  path_after-relabel g [] p = refl
  path_after-relabel g (c ∷ cs) p = ap (path_after (relabel h g) cs) (moved-relabel g c p) ∙ path_after-relabel g cs (moved g c p)
