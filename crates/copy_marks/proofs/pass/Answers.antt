-- A marked variant marks what it names, another nothing. Assumes nothing.
use Rattle.copy_marks.proofs.Marks.{variant-nameable, passed-marked, passed-unmarked}
use Rattle.copy_marks.proofs.pass.Goals as goal

pub mark_named-requires : goal.mark_named-requires
mark_named-requires c = variant-nameable c.requires.0 c.requires.1 c.variant_at-rule.ensures

pub returns-then-is_marked : goal.returns-then-is_marked
returns-then-is_marked c = passed-marked c.is_marked.ensures c.if-is_marked.true c.variant_at-rule.ensures c.mark_named.ensures

pub returns-else-is_marked : goal.returns-else-is_marked
returns-else-is_marked c = passed-unmarked c.is_marked.ensures c.if-is_marked.false
