-- The L or R of a part as the code has it, and what it says of cases 1 and 2 of document 003's function →.
use Rattle.std.specs.Prelude.{ℕ, ◌≡◌, true, false, cond, List}
use Rattle.std.specs.Prelude.{Option, None, Some}
use Rattle.forest.specs.Place.{Side}
use Rattle.forest.specs.Letter.{Letter}
use Rattle.model.specs.Facts.{Facts}
use Rattle.model.specs.Model.{Node}
use Rattle.model.specs.Neighbour.{fails, up, arm_has_tree, into_arm}
use Rattle.facts.specs.Facts.{facts_in}
use Rattle.move_parts.specs.declared.Outcome.{Outcome}
use Rattle.move_parts.specs.Change.{Decided}
use Rattle.moves.specs.declared.UpArm.{UpArm}

-- the representative of an L or R; none, where it has no tree or there is no L or R
unfoldable pub arm_over : Facts → Option ℕ → Option ℕ
arm_over F None = None
arm_over F (Some a) = cond (F.is_empty a) None (Some (F.representative a))

-- of node x: the condition of case 1 holds, and a change is its answer; ↑(v) = u and it doesn't hold (then 2's does, if u is a part);
-- ↑(v) = ⊥
unfoldable pub ArmUp : List ℕ → List ℕ → ℕ → Side → Node → UpArm → Type 0
ArmUp t s k d x (UpArm.HasTree y) =
    let F = facts_in t in (arm_has_tree F d x ≡ true) × Decided t s k (Letter.sibling d) (Outcome.Node y) (into_arm F d (up F x))
ArmUp t s k d x UpArm.IsEmpty = (arm_has_tree (facts_in t) d x ≡ false) × (fails (up (facts_in t) x) ≡ false)
ArmUp t s k d x UpArm.Off = up (facts_in t) x ≡ None
