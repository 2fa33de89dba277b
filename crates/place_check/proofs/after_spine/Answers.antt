-- The spine may open or not. Assumes nothing.
use mathlib.Core.Path.{◌≡◌, sym, ap, ◌∙◌}
use Rattle.rule.specs.declared.Rule.{Rule}
use Rattle.forest.specs.Place.{cell_spine}
use Rattle.model.specs.Stored.{State, spine_at, spine_in}
use Rattle.facts.specs.Facts.{facts_in, In}
use Rattle.place_check.specs.declared.State.{State as CodeState}
use Rattle.place_check.specs.States.{state_of}
use Rattle.place_check.proofs.States.{at_has, spine-has, spine-opens, spine-shut, other-after-spine}
use Rattle.place_check.proofs.after_spine.Goals as goal

pub returns-in_default : goal.returns-in_default
returns-in_default c = sym (other-after-spine (facts_in c.args.work.now) c.args.state c.args.a c.in_default.not-At)

pub rule_at-requires : goal.rule_at-requires
rule_at-requires c = (at_has (In c.args.work.now) c.in-At.is c.requires).0

pub outer_at-requires : goal.outer_at-requires
outer_at-requires c = (let a = c.args in let P = In a.work.now in let has = at_has P c.in-At.is c.requires in
    spine-has P c.rule_at.result c.in-At.p c.in-At.kind a.a c.in-At.inner has.0 has.1 (sym c.spine_at.ensures ∙ c.if-spine_at.true))

pub inner_of-requires : goal.inner_of-requires
inner_of-requires c = (let a = c.args in let P = In a.work.now in let has = at_has P c.in-At.is c.requires in
    spine-has P c.rule_at.result c.in-At.p c.in-At.kind a.a c.in-At.inner has.0 has.1 (sym c.spine_at.ensures ∙ c.if-spine_at.true))

pub returns-then-spine_at : goal.returns-then-spine_at
unfolding spine_in
returns-then-spine_at c = let a = c.args in let F = facts_in a.work.now in
    (λ i. State.at (c.outer_at.ensures i) cell_spine (c.inner_of.ensures i)) ∙ sym (spine-opens F (state_of a.state) a.a ((let the-may-open : (let a = c.args in spine_in (facts_in a.work.now) (state_of a.state) a.a ≡ c.spine_at.result) = let a = c.args in let F = facts_in a.work.now in ap (λ (z : CodeState). spine_in F (state_of z) a.a) c.in-At.is
    ∙ ap (λ (x : Rule). spine_at x c.in-At.p c.in-At.kind c.in-At.inner a.a) (sym c.rule_at.ensures)
    ∙ sym c.spine_at.ensures in the-may-open) ∙ c.if-spine_at.true))

pub returns : goal.returns
unfolding spine_in
returns c = let a = c.args in sym (spine-shut (facts_in a.work.now) (state_of a.state) a.a ((let the-may-open : (let a = c.args in spine_in (facts_in a.work.now) (state_of a.state) a.a ≡ c.spine_at.result) = let a = c.args in let F = facts_in a.work.now in ap (λ (z : CodeState). spine_in F (state_of z) a.a) c.in-At.is
    ∙ ap (λ (x : Rule). spine_at x c.in-At.p c.in-At.kind c.in-At.inner a.a) (sym c.rule_at.ensures)
    ∙ sym c.spine_at.ensures in the-may-open) ∙ c.if-spine_at.false))
