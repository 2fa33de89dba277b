-- Of a join the part is one of its B or of its C; else the rule is the part. Assumes nothing.
use mathlib.Core.Path.{sym, ◌∙◌}
use Rattle.facts.specs.Closes.{Names}
use Rattle.transfer_climb.proofs.Rows.{row_room, names}
use Rattle.transfer_climb.proofs.Parts.{down-left, down-right, down-other}
use Rattle.transfer_climb.proofs.go_down.Goals as goal

pub tops_at-parts-requires : goal.tops_at-parts-requires
unfolding Names
tops_at-parts-requires c = row_room c.requires.0 (names c.requires.0 c.requires.1.inside (sym c.in-Join.is ∙ c.rule_at.ensures)).0

pub returns-then-part-parts : goal.returns-then-part-parts
returns-then-part-parts c = down-left c.requires.0 c.requires.1 (sym c.in-Join.is ∙ c.rule_at.ensures) c.tops_at-parts.ensures c.if-part-parts.true

pub returns-else-part-parts : goal.returns-else-part-parts
returns-else-part-parts c = down-right c.requires.0 c.requires.1 (sym c.in-Join.is ∙ c.rule_at.ensures) c.tops_at-parts.ensures c.if-part-parts.false

pub returns-in_default : goal.returns-in_default
returns-in_default c = down-other c.requires.0 c.requires.1 c.rule_at.ensures c.in_default.not-Join c.left_tops.ensures
