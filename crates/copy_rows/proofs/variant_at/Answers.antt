-- The inner variant is made of the rule, the others are read. Assumes nothing.
use mathlib.Core.Path.{sym, ap, ◌∙◌}
use Rattle.copy_rows.specs.Table.{inner_of}
use Rattle.copy_rows.proofs.Rules.{named-few, variant-inner, variant-kept}
use Rattle.copy_rows.proofs.variant_at.Goals as goal

pub inner_of-requires : goal.inner_of-requires
inner_of-requires c = named-few (sym c.rule_at.ensures) c.requires.0

pub returns-then-t-eq-INNER : goal.returns-then-t-eq-INNER
returns-then-t-eq-INNER c = let a = c.args in
    variant-inner a.work.now a.r a.t c.if-t-eq-INNER.true (c.inner_of.ensures ∙ ap inner_of c.rule_at.ensures)

pub returns : goal.returns
returns c = let a = c.args in
    variant-kept a.work.now a.r a.t c.requires.1 c.if-t-eq-INNER.false c.rule_in.ensures
