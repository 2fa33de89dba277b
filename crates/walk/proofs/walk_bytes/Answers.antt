-- The first byte that is no letter is turned down; else the letters are walked. Assumes nothing.
use mathlib.Core.Path.{sym, ◌∙◌}
use Rattle.forest.specs.Walk.{letters_judged}
use Rattle.work_rows.proofs.Rows.{within_none}
use Rattle.walk_place.proofs.Places.{refused-walks}
use Rattle.walk.proofs.walk_bytes.Goals as goal

pub returns-in-Some : goal.returns-in-Some
unfolding letters_judged
returns-in-Some c = (refused-walks _ _ _ _ _ (rw (sym c.first_other.ensures ∙ c.in-Some.is)), within_none 0 _ _)

pub returns-in-None : goal.returns-in-None
unfolding letters_judged
returns-in-None c = rw (sym c.first_other.ensures ∙ c.in-None.is) c.walk_letters.ensures
