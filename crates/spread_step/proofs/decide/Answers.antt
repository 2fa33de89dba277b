-- The closing task is tested for as the definition does; any other has a row, and both ways the same is done. Assumes nothing.
use mathlib.Core.Path.{sym}
use native.Mathlib.Omega.{arith}
use borrow.Author.Tests.{eq-eqb, ne_eqb}
use Rattle.spread_step.specs.Step.{step_of}
use Rattle.spread_step.proofs.Named.{at-rule}
use Rattle.spread_step.proofs.decide.Goals as goal

pub returns-then-task-eq-CLOSE : goal.returns-then-task-eq-CLOSE
unfolding step_of
returns-then-task-eq-CLOSE c = rw (eq-eqb _ _ c.if-task-eq-CLOSE.true)

pub field16-requires : goal.field16-requires
field16-requires c = omega (arith, (c.requires c.if-task-eq-CLOSE.false).room)

pub rule_at-requires : goal.rule_at-requires
rule_at-requires c = (c.requires c.if-task-eq-CLOSE.false).room

pub rule_step-requires : goal.rule_step-requires
rule_step-requires c = at-rule (sym c.rule_at.ensures) (c.requires c.if-task-eq-CLOSE.false)

pub returns-then-field16-lt-FILL : goal.returns-then-field16-lt-FILL
unfolding step_of
returns-then-field16-lt-FILL c = rw (ne_eqb _ _ c.if-task-eq-CLOSE.false, ← c.rule_at.ensures) c.rule_step.ensures

pub rule_at-requires-2 : goal.rule_at-requires-2
rule_at-requires-2 c = (c.requires c.if-task-eq-CLOSE.false).room

pub rule_step-requires-2 : goal.rule_step-requires-2
rule_step-requires-2 c = at-rule (sym c.rule_at-2.ensures) (c.requires c.if-task-eq-CLOSE.false)

pub returns : goal.returns
unfolding step_of
returns c = rw (ne_eqb _ _ c.if-task-eq-CLOSE.false, ← c.rule_at-2.ensures) c.rule_step-2.ensures
