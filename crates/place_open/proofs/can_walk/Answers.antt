-- Beyond the rules, or by the rule's kind. Assumes nothing.
use native.Mathlib.Omega.{arith}
use mathlib.Core.Path.{◌∙◌}
use Rattle.facts.specs.Facts.{facts_in}
use Rattle.place_open.proofs.Places.{none-beyond, closed-within}
use Rattle.place_open.proofs.can_walk.Goals as goal

pub returns-then-r-n : goal.returns-then-r-n
returns-then-r-n c = let a = c.args in none-beyond (facts_in a.rows.now) a.n a.r (omega arith)

pub rule_at-requires : goal.rule_at-requires
rule_at-requires c = let many = c.requires in omega arith

pub returns : goal.returns
returns c = let a = c.args in
    c.is_closed.ensures ∙ closed-within (facts_in a.rows.now) a.n a.r (omega arith) c.rule_at.ensures
