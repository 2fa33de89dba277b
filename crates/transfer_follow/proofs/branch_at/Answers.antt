-- Above the forest the roots; at a node its row, or its L, hole and R. Assumes nothing.
use mathlib.Core.Path.{sym, ◌∙◌}
use Rattle.facts.specs.Closes.{Names}
use Rattle.transfer_climb.proofs.Rows.{names}
use Rattle.transfer_follow.specs.Levels.{under_rule}
use Rattle.transfer_follow.proofs.Branches.{branch-roots, branch-under, under-other}
use Rattle.transfer_follow.proofs.branch_at.Goals as goal

pub returns-then-at-eq0 : goal.returns-then-at-eq0
returns-then-at-eq0 c = let in_then = c in
    branch-roots _ _ _ _ _ in_then.if-at-eq0.true c.in_row.ensures

pub in_row-requires-in-Node : goal.in_row-requires-in-Node
unfolding Names
in_row-requires-in-Node c = let past-under = c in
    let past-rule = past-under in
    let entry = past-rule in
    (entry.requires.0, names entry.requires.0 entry.requires.1 (sym past-under.in-Node.is ∙ past-rule.rule_at.ensures), entry.requires.3)

pub in_part-requires : goal.in_part-requires
unfolding Names
in_part-requires c = let past-left = c in
    let past-rule = past-left in
    let entry = past-rule in
    let both = names entry.requires.0 entry.requires.1 (sym past-left.in-Part.is ∙ past-rule.rule_at.ensures) in
    (entry.requires.0, both.0, both.1, entry.requires.3)

pub returns-in-Node : goal.returns-in-Node
unfolding under_rule
returns-in-Node c = let past-under = c in
    let past-rule = past-under in
    branch-under _ _ _ _ _ past-rule.if-at-eq0.false (sym past-under.in-Node.is ∙ past-rule.rule_at.ensures) c.in_row-in-Node.ensures

pub returns-in-Part : goal.returns-in-Part
unfolding under_rule
returns-in-Part c = let past-left = c in
    let past-rule = past-left in
    branch-under _ _ _ _ _ past-rule.if-at-eq0.false (sym past-left.in-Part.is ∙ past-rule.rule_at.ensures) c.in_part.ensures

pub returns-in_default : goal.returns-in_default
returns-in_default c = let past-rule = c in
    branch-under _ _ _ _ _ past-rule.if-at-eq0.false past-rule.rule_at.ensures (under-other _ _ _ c.in_default.not-Node c.in_default.not-Part)
