-- The code's states of the test of stored cells as the model writes them, and what is asked of them.
use Rattle.std.specs.Prelude.{ℕ, cond}
use Rattle.std.specs.Prelude.{Option, None, Some}
use Rattle.forest.specs.Place.{cell_spine}
use Rattle.model.specs.Facts.{Facts}
use Rattle.model.specs.Model.{outer, inner_of}
use Rattle.model.specs.Stored as model
use Rattle.model.specs.Stored.{spine_in}
use Rattle.place_check.specs.declared.State.{State}

abbrev pub state_of : State → model.State
state_of State.Above = model.State.above
state_of (State.At p k o) = model.State.at p k o
state_of State.Wrong = model.State.wrong

-- P of the rule, if there is one, and of the rules of a state
unfoldable pub MaybeHas : (ℕ → Type 0) → Option ℕ → Type 0
MaybeHas P None = Unit {0}
MaybeHas P (Some r) = P r

unfoldable pub StateHas : (ℕ → Type 0) → model.State → Type 0
StateHas P model.State.above = Unit {0}
StateHas P (model.State.at p k o) = P p × MaybeHas P o
StateHas P model.State.wrong = Unit {0}

-- the state after the opening of the spine of tree a
unfoldable pub after_spine : Facts → model.State → ℕ → model.State
after_spine F st a = cond (spine_in F st a) (model.State.at (outer F a) cell_spine (inner_of (F.rule a))) model.State.wrong
