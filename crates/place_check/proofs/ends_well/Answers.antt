-- Each arm of the match is a clause of the definition. Assumes nothing.
use mathlib.Core.Path.{sym, ap, ◌∙◌}
use Rattle.rule.specs.declared.Rule.{Rule}
use Rattle.model.specs.Stored.{is_node, ends_well}
use Rattle.facts.specs.Facts.{facts_in, In}
use Rattle.place_check.specs.declared.State.{State as CodeState}
use Rattle.place_check.specs.States.{state_of}
use Rattle.place_check.proofs.States.{at_has, other-end}
use Rattle.place_check.proofs.ends_well.Goals as goal

pub returns-in_default : goal.returns-in_default
returns-in_default c = sym (other-end (facts_in c.args.work.now) c.args.state c.in_default.not-At)

pub rule_at-requires : goal.rule_at-requires
rule_at-requires c = (at_has (In c.args.work.now) c.in-At.is c.requires).0

pub returns : goal.returns
unfolding ends_well
returns c = let a = c.args in let F = facts_in a.work.now in
    c.is_node.ensures ∙ ap (λ (x : Rule). is_node x c.in-At.kind) c.rule_at.ensures
    ∙ sym (ap (λ (z : CodeState). ends_well F (state_of z)) c.in-At.is)
