-- The three tests in their order are those of `decided`. Assumes nothing.
use native.Mathlib.Omega.{arith}
use mathlib.Core.Path.{sym, ◌∙◌}
use Rattle.letter_moves.proofs.Stands.{walked-in}
use Rattle.letter_reason.proofs.Leads.{no-trees, above-trees, at_node}
use Rattle.letter_reason.proofs.reason_at.Goals as goal

pub is_empty_at-requires : goal.is_empty_at-requires
is_empty_at-requires c = walked-in c.requires.rows

pub returns-then-is_empty_at : goal.returns-then-is_empty_at
returns-then-is_empty_at c = no-trees _ _ _ _ (sym c.is_empty_at.ensures ∙ c.if-is_empty_at.true)

pub returns-then-at-eq0 : goal.returns-then-at-eq0
returns-then-at-eq0 c = let a = c.args in
    let trees = sym c.is_empty_at.ensures ∙ c.if-is_empty_at.false in
    c.above_reason.ensures ∙ above-trees _ _ _ a.cursor.now a.at.used trees c.if-at-eq0.true

pub returns : goal.returns
returns c = let a = c.args in
    let trees = sym c.is_empty_at.ensures ∙ c.if-is_empty_at.false in
    c.node_reason.ensures ∙ at_node _ _ _ a.cursor.now a.at.used trees (omega (arith, c.if-at-eq0.false))
