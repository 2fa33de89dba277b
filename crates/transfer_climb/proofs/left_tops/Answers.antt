-- A part's L has a row, which tells its trees; of other rules none is asked. Assumes nothing.
use mathlib.Core.Path.{sym, ap, ◌∙◌}
use Prim.Native.Nat.{ℕ, min}
use Rattle.facts.specs.Closes.{Names}
use Rattle.transfer_path.specs.Follow.{most_place}
use Rattle.transfer_path.specs.CellSpot.{left_tops}
use Rattle.transfer_climb.proofs.Rows.{row_room, told, names, other-left}
use Rattle.transfer_climb.proofs.left_tops.Goals as goal

pub tops_at-requires : goal.tops_at-requires
unfolding Names
tops_at-requires c = row_room c.requires.0 (names c.requires.0 c.requires.1 (sym c.in-Part.is ∙ c.rule_at.ensures)).0

pub returns-in-Part : goal.returns-in-Part
unfolding Names left_tops
returns-in-Part c = let e = sym c.in-Part.is ∙ c.rule_at.ensures in
    rw (← e) (told c.requires.0 (names c.requires.0 c.requires.1 e).0 c.tops_at.ensures)

pub returns-in_default : goal.returns-in_default
returns-in_default c = rw (← c.rule_at.ensures) (sym (ap (λ (k : ℕ). min k most_place) (other-left _ c.rule_at.result c.in_default.not-Part)))
