-- Each arm of the match is a clause of the definition. Assumes nothing.
use mathlib.Core.Path.{sym, ap, ◌∙◌}
use borrow.Author.Tests.{eq-eqb, ne_eqb}
use Rattle.rule.specs.declared.Rule.{Rule}
use Rattle.model.specs.Stored.{row_under, row_in}
use Rattle.facts.specs.Facts.{facts_in, In}
use Rattle.place_check.specs.declared.State.{State as CodeState}
use Rattle.place_check.specs.States.{state_of}
use Rattle.place_check.proofs.States.{at_has}
use Rattle.place_check.proofs.row_in.Goals as goal

pub returns-then-number-eq-NODE_ROW : goal.returns-then-number-eq-NODE_ROW
unfolding row_in
returns-then-number-eq-NODE_ROW c = rw (c.in-Above.is, eq-eqb _ _ c.if-number-eq-NODE_ROW.true)

pub rule_at-requires : goal.rule_at-requires
rule_at-requires c = (at_has (In c.args.work.now) c.in-At.is c.requires).0

pub returns-else-number-eq-NODE_ROW : goal.returns-else-number-eq-NODE_ROW
unfolding row_in
returns-else-number-eq-NODE_ROW c = rw (c.in-Above.is, ne_eqb _ _ c.if-number-eq-NODE_ROW.false)

pub returns-in-At : goal.returns-in-At
unfolding row_in
returns-in-At c = let a = c.args in let F = facts_in a.work.now in
    c.row_under.ensures ∙ ap (λ (x : Rule). row_under x c.in-At.kind a.number) c.rule_at.ensures
    ∙ sym (ap (λ (z : CodeState). row_in F a.r (state_of z) a.number) c.in-At.is)

pub returns-in-Wrong : goal.returns-in-Wrong
unfolding row_in
returns-in-Wrong c = rw c.in-Wrong.is
