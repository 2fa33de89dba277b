-- Document 02, Note 7, for the closed rules of accepted plans: "Each case's condition is a definition, and at every node the first in the sequence that
-- holds gives the finger's answer, nowhere where none holds." Cells and label of the answer are the placed forest's; the label alone
-- is that of the forest that a plan means. Assumes nothing.
use Prim.Native.Nat.{ℕ}
use mathlib.Core.Path.{◌≡◌, refl, sym, ap, ◌∙◌}
use mathlib.Core.List.{List}
use Rattle.std.specs.Prelude.{Option, None, Some, option_map, Ok}
use Rattle.rule.specs.Sound.{Closed}
use Rattle.plan.specs.Check.{checked, rules_of}
use Rattle.forest.specs.Expression.{expression}
use Rattle.forest.specs.Forest.{Forest, forest}
use Rattle.forest.specs.Place.{Side, Placed, placed_forest}
use Rattle.forest.specs.Letter.{Letter}
use Rattle.forest.specs.Reference.{Path, label_at, answer}
use Rattle.forest.proofs.Forget.{label}
use Rattle.forest.proofs.Relabel.{answer-relabel}
use Rattle.model.specs.Facts.{Facts, facts_of}
use Rattle.model.specs.Model.{Node, standing}
use Rattle.model.specs.Neighbour.{sibling_cases, first_that}
use Rattle.model.specs.Walk as model
use Rattle.model.specs.FirstCase.{FirstCase, placed_node}
use Rattle.model.proofs.Neighbour.{first-cases}
use Rattle.demand.proofs.Walkable.{Walkable}
use Rattle.demand.proofs.Plans.{walked-good, walked-fit, walkable}

-- labels taken off one by one
map-twice : (F : Facts) (x : Option Node) → option_map label (option_map (placed_node F) x) ≡ option_map (λ (y : Node). model.label (F.rule y.0)) x
map-twice F None = refl
map-twice F (Some y) = refl

module _ (s : List ℕ) (n start : ℕ) (accepted : checked s ≡ Ok (record { n = n; start = start })) (r : ℕ) (C : Closed (rules_of s) r) where
  abbrev G : Forest Placed
  G = placed_forest (rules_of s) r

  abbrev F : Facts
  F = facts_of (rules_of s)

  -- at every node, known by its cells, exactly one condition holds, and the first that holds gives the finger's answer
  pub neighbour-cases : (side : Side) (p : Path) (a : Placed) → label_at G p ≡ Some a → FirstCase F side (standing F a.1, a.1) (answer G (Letter.sibling side) p)
  unfolding placed_forest
  neighbour-cases side p a h = first-cases F (expression (rules_of s) r) (walked-fit s n start accepted r C) (walked-good s n start accepted r C) side p a h

  -- and so of the labels that a walk answers
  pub neighbour-labels : (side : Side) (p : Path) (a : Placed) → label_at G p ≡ Some a
      → answer (forest (rules_of s) r) (Letter.sibling side) p ≡ option_map (λ (y : Node). model.label (F.rule y.0)) (first_that (sibling_cases F side (standing F a.1, a.1)))
  neighbour-labels side p a h =
      ap (λ (g : Forest ℕ). answer g (Letter.sibling side) p) (sym (walkable s n start accepted r C).forgets)
      ∙ answer-relabel label G (Letter.sibling side) p
      ∙ ap (option_map label) (neighbour-cases side p a h).first
      ∙ map-twice F (first_that (sibling_cases F side (standing F a.1, a.1)))
