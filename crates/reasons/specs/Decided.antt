-- The reason by what is decided at a place: whether the walked forest is empty, whether the place is above it, and whether the letter leads
-- to a node.
use Rattle.std.specs.Prelude.{Bool, true, false, cond}
use Rattle.std.specs.Prelude.{Option, None, Some}
use Rattle.forest.specs.Letter.{Letter}
use Rattle.reasons.specs.declared.Reason.{Reason}
use Rattle.reasons.specs.Reason.{end_reason, reason_above}

-- there is such a node
unfoldable pub is_found : {A : Type 0} → Option A → Bool
is_found None = false
is_found (Some a) = true

-- the reason of a letter that leads nowhere from a node, where it can; a, z and s always lead to one
unfoldable pub stop_reason : Letter → Reason
unfolding end_reason
stop_reason (Letter.root s) = Reason.Moves
stop_reason (Letter.child s) = Reason.NoChildren
stop_reason (Letter.sibling s) = end_reason s
stop_reason Letter.parent = Reason.Root
stop_reason Letter.stay = Reason.Moves

-- at a node
unfoldable pub decided_at : Letter → Bool → Reason
unfolding stop_reason
decided_at c leads = cond leads Reason.Moves (stop_reason c)

-- "Where 1 and 2 both fit, 2 is given."
unfoldable pub decided : Bool → Bool → Letter → Bool → Reason
unfolding reason_above decided_at
decided empty above c leads = cond empty Reason.NoTrees (cond above (reason_above c) (decided_at c leads))
