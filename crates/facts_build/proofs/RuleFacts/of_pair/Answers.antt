-- The tests for emptiness are those of the definition. Assumes nothing.
use mathlib.Core.Path.{sym, ◌∙◌}
use Rattle.rule.specs.Names.{Names}
use Rattle.facts.proofs.Ready.{ready-room}
use Rattle.facts_build.proofs.Cases.{first-empty, second_empty, neither-empty, pair-both}
use Rattle.facts_build.proofs.RuleFacts.of_pair.Goals as goal

pub is_empty_at-requires : goal.is_empty_at-requires
is_empty_at-requires c = ready-room c.requires _ Names.pair_one

pub read-requires : goal.read-requires
read-requires c = ready-room c.requires _ (search (Names.pair_one, Names.pair_two))

pub returns-then-is_empty_at : goal.returns-then-is_empty_at
returns-then-is_empty_at c = c.read.ensures ∙ first-empty _ _ _ _ (sym c.is_empty_at.ensures ∙ c.if-is_empty_at.true)

pub is_empty_at-requires-2 : goal.is_empty_at-requires-2
is_empty_at-requires-2 c = ready-room c.requires _ Names.pair_two

pub read-requires-then-is_empty_at-2 : goal.read-requires-then-is_empty_at-2
read-requires-then-is_empty_at-2 c = ready-room c.requires _ Names.pair_one

pub returns-then-is_empty_at-2 : goal.returns-then-is_empty_at-2
returns-then-is_empty_at-2 c = c.read-then-is_empty_at-2.ensures ∙ second_empty _ _ _ _ (sym c.is_empty_at.ensures ∙ c.if-is_empty_at.false) (sym c.is_empty_at-2.ensures ∙ c.if-is_empty_at-2.true)

pub representative_at-left-requires : goal.representative_at-left-requires
representative_at-left-requires c = ready-room c.requires _ Names.pair_one

pub representative_at-right-requires : goal.representative_at-right-requires
representative_at-right-requires c = ready-room c.requires _ Names.pair_two

pub stepping-requires : goal.stepping-requires
stepping-requires c = rw (c.representative_at-left.ensures, c.representative_at-right.ensures) (pair-both _ c.args.r _ _ c.requires)

pub returns : goal.returns
returns c = let a = c.args in
    c.stepping.ensures ∙ rw (c.representative_at-left.ensures, c.representative_at-right.ensures)
    (neither-empty _ a.r a.first a.second (sym c.is_empty_at.ensures ∙ c.if-is_empty_at.false) (sym c.is_empty_at-2.ensures ∙ c.if-is_empty_at-2.false))
