-- The reference walker on the located forest moves as the neighbours of positions say, for every node there knows its
-- neighbours. On the placed forest, which is the located one relabelled, it takes the same paths. Assumes nothing.
use mathlib.Core.Path.{◌≡◌, sym, ◌∙◌, ap}
use mathlib.Core.List.{List}
use Rattle.std.specs.Prelude.{Some, option_map}
use Rattle.forest.specs.Expression.{Expression}
use Rattle.forest.specs.Place.{Side, placed_of}
use Rattle.forest.specs.Letter.{Letter}
use Rattle.forest.specs.Reference.{Path, label_at, answer, moved, path_after}
use Rattle.forest.specs.Good.{Sort, Good}
use Rattle.forest.specs.Position.{Position, located_of, enter, child, sibling, parent}
use Rattle.forest.proofs.Relabel.{label_at-relabel, answer-relabel, moved-relabel, path_after-relabel}
use Rattle.forest.proofs.Neighbours.{neighbour, answer-neighbour, answer-edge}
use Rattle.forest.proofs.Knows.{located-knows, located-root}
use Rattle.forest.proofs.Placed.{placed_as, placed-of}

-- at the root, from anywhere
pub answer-root : {w : Expression} → Good Sort.row w → (s : Side) (p : Path) → answer (located_of w) (Letter.root s) p ≡ enter s w (Position.start w)
answer-root {w} g s p = answer-edge (located_of w) s p ∙ located-root g s

-- at the node e at z
module _ {w : Expression} (g : Good Sort.row w) (p : Path) {e : Expression} {z : Position} (here : label_at (located_of w) p ≡ Some (e, z)) where
  pub answer-child : (s : Side) → answer (located_of w) (Letter.child s) p ≡ child s e z
  unfolding neighbour
  answer-child s = answer-neighbour (located-knows g) (Letter.child s) p here

  pub answer-sibling : (s : Side) → answer (located_of w) (Letter.sibling s) p ≡ sibling s z
  unfolding neighbour
  answer-sibling s = answer-neighbour (located-knows g) (Letter.sibling s) p here

  pub answer-parent : answer (located_of w) Letter.parent p ≡ parent z
  unfolding neighbour
  answer-parent = answer-neighbour (located-knows g) Letter.parent p here

  pub answer-stay : answer (located_of w) Letter.stay p ≡ Some (e, z)
  unfolding neighbour
  answer-stay = answer-neighbour (located-knows g) Letter.stay p here

-- the walker on the placed forest
module _ (w : Expression) where
  pub placed-label_at : (p : Path) → label_at (placed_of w) p ≡ option_map placed_as (label_at (located_of w) p)
  placed-label_at p = ap (λ g. label_at g p) (sym (placed-of w)) ∙ label_at-relabel placed_as (located_of w) p

  pub placed-answer : (c : Letter) (p : Path) → answer (placed_of w) c p ≡ option_map placed_as (answer (located_of w) c p)
  placed-answer c p = ap (λ g. answer g c p) (sym (placed-of w)) ∙ answer-relabel placed_as (located_of w) c p

  pub placed-moved : (c : Letter) (p : Path) → moved (placed_of w) c p ≡ moved (located_of w) c p
  placed-moved c p = ap (λ g. moved g c p) (sym (placed-of w)) ∙ moved-relabel placed_as (located_of w) c p

  pub placed-after : (cs : List Letter) (p : Path) → path_after (placed_of w) cs p ≡ path_after (located_of w) cs p
  placed-after cs p = ap (λ g. path_after g cs p) (sym (placed-of w)) ∙ path_after-relabel placed_as (located_of w) cs p
