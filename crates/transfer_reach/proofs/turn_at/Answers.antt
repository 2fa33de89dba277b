-- A pair's tree is on the side that the left side's trees tell; each way is a law. Assumes nothing.
use mathlib.Core.Path.{sym, ◌∙◌}
use Rattle.facts.specs.Closes.{Names}
use Rattle.transfer_climb.proofs.Rows.{row_room, names}
use Rattle.transfer_reach.proofs.Turning.{turns-left, turns-right, turns-tree}
use Rattle.transfer_reach.proofs.turn_at.Goals as goal

pub tops_at-tops-requires : goal.tops_at-tops-requires
unfolding Names
tops_at-tops-requires c = row_room c.requires.0 (names c.requires.0 c.requires.1 (sym c.in-Pair.is ∙ c.rule_at.ensures)).0

pub representative_at-to-requires : goal.representative_at-to-requires
unfolding Names
representative_at-to-requires c = (names c.requires.0 c.requires.1 (sym c.in-Pair.is ∙ c.rule_at.ensures)).0

pub returns-then-i-tops : goal.returns-then-i-tops
returns-then-i-tops c = turns-left c.requires.0 c.requires.1 c.requires.2 (sym c.in-Pair.is ∙ c.rule_at.ensures)
    c.tops_at-tops.ensures c.if-i-tops.true c.representative_at-to.ensures

pub representative_at-to-requires-in-Pair : goal.representative_at-to-requires-in-Pair
unfolding Names
representative_at-to-requires-in-Pair c = (names c.requires.0 c.requires.1 (sym c.in-Pair.is ∙ c.rule_at.ensures)).1

pub returns-else-i-tops : goal.returns-else-i-tops
returns-else-i-tops c = turns-right c.requires.0 c.requires.1 c.requires.2 (sym c.in-Pair.is ∙ c.rule_at.ensures)
    c.tops_at-tops.ensures c.if-i-tops.false c.representative_at-to-in-Pair.ensures

pub returns-in_default : goal.returns-in_default
returns-in_default c = turns-tree c.requires.0 c.rule_at.result c.requires.1 c.rule_at.ensures c.in_default.not-Pair
