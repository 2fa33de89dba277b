-- A rule without trees has no row; else the row lies over its representative. Assumes nothing.
use mathlib.Core.Path.{sym, ap, ◌∙◌}
use Rattle.facts.specs.Facts.{facts_in}
use Rattle.move_parts.specs.declared.Change.{Change}
use Rattle.move_parts.specs.declared.Outcome.{Outcome}
use Rattle.move_parts.proofs.Outcomes.{row-empty, row-some}
use Rattle.move_parts.proofs.row.Goals as goal

pub returns-then-is_empty_at : goal.returns-then-is_empty_at
returns-then-is_empty_at c = let a = c.args in
    sym (row-empty (facts_in a.work.now) a.k a.number a.a (sym c.is_empty_at.ensures ∙ c.if-is_empty_at.true))

pub returns : goal.returns
returns c = let a = c.args in
    ap (λ v. Outcome.Node (Change.Row a.k a.number v)) c.representative_at-over.ensures
    ∙ sym (row-some (facts_in a.work.now) a.k a.number a.a (sym c.is_empty_at.ensures ∙ c.if-is_empty_at.false))
