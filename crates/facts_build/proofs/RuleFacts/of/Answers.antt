-- Each arm of the match is a case of `rule_facts_of`. Assumes nothing.
use mathlib.Core.Logic.{inl, inr}
use mathlib.Core.Path.{◌∙◌}
use Rattle.facts_build.proofs.Cases.{join-both, join-steps, empty-own, node-own, fill-own, part-own}
use Rattle.facts_build.proofs.RuleFacts.of.Goals as goal

pub of_pair-requires : goal.of_pair-requires
of_pair-requires c = rw c.in-Pair.is at c.requires

pub stepping-requires : goal.stepping-requires
stepping-requires c = join-both _ c.args.r _ _ (rw c.in-Join.is at c.requires)

pub returns-in-Pair : goal.returns-in-Pair
returns-in-Pair c = rw c.in-Pair.is c.of_pair.ensures

pub returns-in-Join : goal.returns-in-Join
returns-in-Join c = rw c.in-Join.is (c.stepping.ensures ∙ join-steps _ _ _ _)

pub returns-in-Empty : goal.returns-in-Empty
returns-in-Empty c = rw c.in-Empty.is (c.own.ensures ∙ empty-own _ _)

pub returns-in-Node : goal.returns-in-Node
returns-in-Node c =
    elim c.in-Node.is [
      | inl (_, _, e) ↦ rw e (c.own-in-Node.ensures ∙ node-own _ _ _ _)
      | inr (inl (_, _, e)) ↦ rw e (c.own-in-Node.ensures ∙ fill-own _ _ _ _)
      | inr (inr (_, _, _, e)) ↦ rw e (c.own-in-Node.ensures ∙ part-own _ _ _ _ _)
    ]
