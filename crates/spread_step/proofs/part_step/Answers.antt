-- Both ways are the definition's; the rules named have rows, so their tasks can be read. Assumes nothing.
use borrow.Author.Tests.{eq-eqb, ne_eqb}
use Rattle.rule.specs.Names.{part_one, part_two}
use Rattle.spread_step.specs.Step.{rule_step}
use Rattle.spread_step.proofs.Named.{named-room}
use Rattle.spread_step.proofs.part_step.Goals as goal

pub whole-requires : goal.whole-requires
whole-requires c = named-room c.requires _ part_one

pub returns-then-p-eq-BEFORE : goal.returns-then-p-eq-BEFORE
unfolding rule_step
returns-then-p-eq-BEFORE c = rw (eq-eqb _ _ c.if-p-eq-BEFORE.true, ← c.whole.ensures) c.opening.ensures

pub whole-requires-2 : goal.whole-requires-2
whole-requires-2 c = named-room c.requires _ part_two

pub returns : goal.returns
unfolding rule_step
returns c = rw (ne_eqb _ _ c.if-p-eq-BEFORE.false, ← c.whole-2.ensures) c.nothing.ensures
