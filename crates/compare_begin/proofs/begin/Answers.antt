-- Each arm of the match is a case of `begun_of`. Assumes nothing.
use Rattle.compare_begin.proofs.Begins.{begin-row, node-ready, node-begun, part-ready, around-ready, part-begun, other-rule}
use Rattle.compare_begin.proofs.begin.Goals as goal

pub rule_at-requires : goal.rule_at-requires
rule_at-requires c = begin-row c.requires

pub lay-requires : goal.lay-requires
lay-requires c = node-ready c.requires

pub hole-x-requires : goal.hole-x-requires
hole-x-requires c = part-ready c.requires c.rule_at.ensures c.in-Part.is

pub around-requires : goal.around-requires
around-requires c = around-ready c.requires c.rule_at.ensures c.in-Part.is c.hole-x.ensures

pub returns-in-Node : goal.returns-in-Node
returns-in-Node c = node-begun c.requires c.rule_at.ensures c.in-Node.is c.lay.ensures

pub returns-in-Part : goal.returns-in-Part
returns-in-Part c = part-begun c.requires c.rule_at.ensures c.in-Part.is c.hole-x.ensures c.around.ensures

pub returns-in_default : goal.returns-in_default
returns-in_default c = other-rule c.requires c.rule_at.ensures c.in_default.not-Node c.in_default.not-Part
