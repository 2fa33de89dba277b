-- An expression has the counts of the forest that it is worth: by induction over the sorts of expressions, each right-hand side being one law
-- of the forest's counts. What is filled has a tree, since a hole lies below a node. Assumes nothing.
use Rattle.std.proofs.Common.{◌≡◌, ℕ, suc, ◌+◌, ◌<◌, ◌≤◌, min, true, false, eqb, List, sym, refl, ap, ◌∙◌, ap₂, arith, eq-eqb, eqb-true}
use mathlib.Core.Bool.{and-eq-true_iff, false≢true}
use Rattle.forest.specs.Expression.{Expression}
use Rattle.forest.specs.Algebra.{value}
use Rattle.forest.specs.Forest.{Forest, trees, count, weigh, one, levels}
use Rattle.forest.specs.Outcome.{entry}
use Rattle.forest.specs.Good.{Sort, Good}
use Rattle.forest.proofs.Counts.{count-pair, weigh-pair, levels-pair, weigh-node, levels-node, weigh-part, levels-part, hole_depth, hole_depth-part, hole_depth-join, weigh-fill, levels-fill, count-tree}
use Rattle.count_passes.specs.Tally.{Unfolds}
use Rattle.count_all.specs.declared.Counts.{Counts}
use Rattle.count_all.specs.Counts.{forest_counts, beside, filling, over, one_tree, counts_in}
use Rattle.count_all.specs.Kept.{most, Keeps, is_above}
use Rattle.count_all.specs.Rows.{Counted}

-- the counts of a value whose tops are h
abbrev with_tops : ℕ → Expression → Counts
with_tops h e =
    let g = trees (value e) in record { nodes = weigh one g; entries = weigh entry g; tops = h; levels = levels g }

-- by sort: of a closed expression those of its forest, of a holed one with the depth of its hole
abbrev Told : Sort → Expression → Type 0
Told Sort.row e = counts_in e ≡ forest_counts (trees (value e))
Told Sort.tree e = counts_in e ≡ forest_counts (trees (value e))
Told Sort.spine e = counts_in e ≡ with_tops (hole_depth (value e)) e

-- a hole lies below a node
deep : {e : Expression} → Good Sort.spine e → 1 ≤ hole_depth (value e)
unfolding value
deep (Good.part {r = r} {a = a} {b = b} {c = c} g h) = omega (arith, hole_depth-part r a b c g h)
deep (Good.join {c = c} g h) = omega (arith, hole_depth-join g c h, deep g)

module _ (r : ℕ) (b c : Expression) where
  pair-counts : beside (forest_counts (trees (value b))) (forest_counts (trees (value c))) ≡ forest_counts (trees (value (Expression.pair r b c)))
  unfolding beside
  pair-counts = λ i.
      record {
        nodes = sym (weigh-pair r b c one) i;
        entries = sym (weigh-pair r b c entry) i;
        tops = sym (count-pair r b c) i;
        levels = sym (levels-pair r b c) i;
      }

  -- a hole that is filled: with a tree, or with what has a hole
  module _ (g : Good Sort.spine b) where
    fill-counts : (h : Good Sort.tree c)
        → one_tree (filling (with_tops (hole_depth (value b)) b) (forest_counts (trees (value c)))) ≡ forest_counts (trees (value (Expression.fill r b c)))
    unfolding filling one_tree value
    fill-counts h =
        let top : min (hole_depth (value b) + count (trees (value c))) 1 ≡ count (trees (value (Expression.fill r b c))) = omega (arith, deep g, count-tree (Good.fill {r = r} g h)) in
        λ i.
        record {
          nodes = sym (weigh-fill g c one) i;
          entries = sym (weigh-fill g c entry) i;
          tops = top i;
          levels = sym (levels-fill g c) i;
        }

    join-counts : (h : Good Sort.spine c)
        → filling (with_tops (hole_depth (value b)) b) (with_tops (hole_depth (value c)) c) ≡ with_tops (hole_depth (value (Expression.join r b c))) (Expression.join r b c)
    unfolding filling value
    join-counts h = λ i.
        record {
          nodes = sym (weigh-fill g c one) i;
          entries = sym (weigh-fill g c entry) i;
          tops = sym (hole_depth-join g c h) i;
          levels = sym (levels-fill g c) i;
        }

  part-counts : (a : ℕ) → Good Sort.row b → Good Sort.row c
      → over a (beside (forest_counts (trees (value b))) (forest_counts (trees (value c)))) ≡ with_tops (hole_depth (value (Expression.part r a b c))) (Expression.part r a b c)
  unfolding beside over
  part-counts a g h =
      let all : suc (weigh one (trees (value b)) + weigh one (trees (value c))) ≡ weigh one (trees (value (Expression.part r a b c))) = omega (arith, weigh-part r a b c one) in
      let some : entry a + (weigh entry (trees (value b)) + weigh entry (trees (value c))) ≡ weigh entry (trees (value (Expression.part r a b c))) = omega (arith, weigh-part r a b c entry) in
      λ i. record { nodes = all i; entries = some i; tops = sym (hole_depth-part r a b c g h) i; levels = sym (levels-part r a b c) i }

node_counts : (r a : ℕ) (c : Expression) → Good Sort.row c → over a (forest_counts (trees (value c))) ≡ forest_counts (trees (value (Expression.node r a c)))
unfolding over
node_counts r a c g =
    let all : suc (weigh one (trees (value c))) ≡ weigh one (trees (value (Expression.node r a c))) = omega (arith, weigh-node r a c one) in
    λ i.
    record {
      nodes = all i;
      entries = sym (weigh-node r a c entry) i;
      tops = sym (count-tree (Good.node {r = r} {a = a} g)) i;
      levels = sym (levels-node r a c) i;
    }

told : {s : Sort} {e : Expression} → Good s e → Told s e
unfolding counts_in
told Good.empty = unfold value trees count weigh levels in refl
told (Good.pair {r = r} {b = b} {c = c} g h) = ap₂ beside (told g) (told h) ∙ pair-counts r b c
told (Good.grown g) = told g
told (Good.node {r = r} {a = a} {c = c} g) = ap (over a) (told g) ∙ node_counts r a c g
told (Good.fill {r = r} {b = b} {c = c} g h) = ap₂ (λ (m k : Counts). one_tree (filling m k)) (told g) (told h) ∙ fill-counts r b c g h
told (Good.part {r = r} {a = a} {b = b} {c = c} g h) = ap₂ (λ (m k : Counts). over a (beside m k)) (told g) (told h) ∙ part-counts r b c a g h
told (Good.join {r = r} {b = b} {c = c} g h) = ap₂ filling (told g) (told h) ∙ join-counts r b c g h

-- where there are nodes there are trees
nodes-trees : (g : Forest ℕ) → count g ≡ 0 → weigh one g ≡ 0
unfolding count weigh
nodes-trees Forest.none z = refl
nodes-trees (Forest.tree a c f) z = absurd (omega arith)

-- the test of what is kept of a forest's counts: the nodes don't fit, or all counts are as they are
module _ (g : Forest ℕ) where
  pub forest-above : {c : Counts} → Keeps c (forest_counts g) → is_above c ≡ true → most < weigh one g
  forest-above (Keeps.exact p f) h =
      let all : weigh one g ≡ most = eqb-true (weigh one g) most ((and-eq-true_iff (eqb (weigh one g) most) (eqb (count g) 0)).0 h).0 in
      let none : count g ≡ 0 = eqb-true (count g) 0 ((and-eq-true_iff (eqb (weigh one g) most) (eqb (count g) 0)).0 h).1 in
      absurd (omega (arith, nodes-trees g none))
  forest-above (Keeps.above p f q r) h = f

  pub forest-exact : {c : Counts} → Keeps c (forest_counts g) → is_above c ≡ false → (c ≡ forest_counts g) × (weigh one g ≤ most)
  forest-exact (Keeps.exact p f) h = (refl, f)
  forest-exact {c} (Keeps.above p f q r) h = absurd (false≢true (sym h ∙ rw (eq-eqb c.nodes most q, eq-eqb c.tops 0 r)))

-- and so of a closed rule
pub row_counts : {n r : ℕ} {c : Counts} {s t : List ℕ} → Counted n r c s t → (E : ℕ → Expression) → Unfolds s n E → Good Sort.row (E r)
    → Keeps c (forest_counts (trees (value (E r))))
row_counts p E u g = rw (told g) at (p.counts E u)
