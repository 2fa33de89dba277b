-- The rule one step above is found by its depth. Assumes nothing.
use Prim.Native.Nat.{ℕ, ◌+◌, ◌-◌}
use mathlib.Core.Path.{◌≡◌, ◌∙◌}
use native.Mathlib.Numerals.{add-one}
use Rattle.forest.specs.Place.{Side}
use Rattle.model.specs.Facts.{Facts}
use Rattle.model.specs.Run.{along, one_above}
use Rattle.facts.proofs.one_above.Goals as goal

-- one above in steps
above : (F : Facts) (s : Side) (a b d r : ℕ) → d ≡ F.depth s b → r ≡ along F s (F.depth s a - (d + 1)) a → r ≡ one_above F s a b
unfolding one_above
above F s a b d r e h = h ∙ rw (e, add-one)

pub returns : goal.returns
returns c = (above _ _ _ _ _ _ c.depth_at.ensures c.level.ensures.0, c.level.ensures.1)
