-- No cell, another cell than a spine's, a fill, or another rule: a case of `opened_by` each. Assumes nothing.
use Rattle.compare_begin.proofs.Holes.{filler-none, filler-not, filler-ready, filler-laid, filler-other}
use Rattle.compare_begin.proofs.filler.Goals as goal

pub returns-then-i-eq0 : goal.returns-then-i-eq0
returns-then-i-eq0 c = filler-none c.requires c.if-i-eq0.true

pub returns-then-cell-ne-SPINE : goal.returns-then-cell-ne-SPINE
returns-then-cell-ne-SPINE c = filler-not c.requires c.if-i-eq0.false c.read-cell.ensures c.if-cell-ne-SPINE.true

pub lay-requires : goal.lay-requires
lay-requires c = filler-ready c.requires c.if-i-eq0.false c.read-cell.ensures c.if-cell-ne-SPINE.false
    c.rule_at.ensures c.in-Fill.is

pub returns-in-Fill : goal.returns-in-Fill
returns-in-Fill c = filler-laid c.requires c.if-i-eq0.false c.read-cell.ensures c.if-cell-ne-SPINE.false
    c.rule_at.ensures c.in-Fill.is c.lay.ensures

pub returns-in_default : goal.returns-in_default
returns-in_default c = filler-other c.requires c.if-i-eq0.false c.read-cell.ensures c.if-cell-ne-SPINE.false
    c.rule_at.ensures c.in_default.not-Fill
