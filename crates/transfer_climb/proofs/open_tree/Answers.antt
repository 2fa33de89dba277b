-- A tree in a part's hole is a level below it, behind the trees of its L; any other stands where it is. Assumes nothing.
use mathlib.Core.Path.{sym, ◌∙◌}
use Rattle.facts.specs.Closes.{Names}
use Rattle.transfer_path.specs.CellSpot.{spine_spot}
use Rattle.transfer_climb.proofs.Levels.{took-here}
use Rattle.transfer_climb.proofs.Rows.{row_room, told, names, other-spine}
use Rattle.transfer_climb.proofs.open_tree.Goals as goal

pub tops_at-ahead-requires : goal.tops_at-ahead-requires
unfolding Names
tops_at-ahead-requires c = row_room c.requires.0 (names c.requires.0 c.requires.1 (sym c.in-Part.is ∙ c.rule_at.ensures)).0

pub returns-in-Part : goal.returns-in-Part
unfolding Names spine_spot
returns-in-Part c = let e = sym c.in-Part.is ∙ c.rule_at.ensures in
    rw (← e) (c.enter.ensures _ (told c.requires.0 (names c.requires.0 c.requires.1 e).0 c.tops_at-ahead.ensures))

pub returns-in_default : goal.returns-in_default
returns-in_default c = rw (← c.rule_at.ensures, other-spine _ c.rule_at.result _ c.in_default.not-Part) (took-here c.requires.2)
