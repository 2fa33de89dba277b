-- A pair's B has its trees passed, a join's B its parts; other rules have no step. Assumes nothing.
use mathlib.Core.Path.{sym, ◌∙◌}
use Rattle.facts.specs.Closes.{Names}
use Rattle.transfer_path.specs.CellSpot.{step_spot}
use Rattle.transfer_climb.proofs.Levels.{took-here}
use Rattle.transfer_climb.proofs.Rows.{row_room, told, names, join-sides, other_step}
use Rattle.transfer_climb.proofs.right_step.Goals as goal

pub tops_at-requires : goal.tops_at-requires
unfolding Names
tops_at-requires c = row_room c.requires.0 (names c.requires.0 c.requires.1 (sym c.in-Pair.is ∙ c.rule_at.ensures)).0

pub through-requires : goal.through-requires
unfolding Names
through-requires c = let e = sym c.in-Join.is ∙ c.rule_at.ensures in
    (c.requires.0, (names c.requires.0 c.requires.1 e).0, (join-sides c.requires.0 c.requires.1 e).0, c.requires.2)

pub returns-in-Pair : goal.returns-in-Pair
unfolding Names step_spot
returns-in-Pair c = let e = sym c.in-Pair.is ∙ c.rule_at.ensures in
    rw (← e) (c.pass.ensures _ _ c.requires.2 (told c.requires.0 (names c.requires.0 c.requires.1 e).0 c.tops_at.ensures))

pub returns-in-Join : goal.returns-in-Join
unfolding step_spot
returns-in-Join c = rw (← (sym c.in-Join.is ∙ c.rule_at.ensures)) c.through.ensures

pub returns-in_default : goal.returns-in_default
returns-in_default c = rw (← c.rule_at.ensures, other_step _ c.rule_at.result _ c.in_default.not-Pair c.in_default.not-Join) (took-here c.requires.2)
