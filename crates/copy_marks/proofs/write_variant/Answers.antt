-- A marked variant is written and numbered, another passed over. Assumes nothing.
use Rattle.copy_marks.proofs.Marks.{variant-nameable}
use Rattle.copy_marks.proofs.Writing.{wide_fits, variant-written, variant-skipped}
use Rattle.copy_marks.proofs.write_variant.Goals as goal

pub renumbered-rule-requires : goal.renumbered-rule-requires
renumbered-rule-requires c = variant-nameable c.requires.0.markable c.requires.1 c.variant_at-variant.ensures

pub write-requires : goal.write-requires
write-requires c = wide_fits _ _ _ c.requires.0.space c.requires.2

pub returns-then-is_marked : goal.returns-then-is_marked
returns-then-is_marked c = variant-written _ _ _ _ _ c.is_marked.ensures c.if-is_marked.true c.variant_at-variant.ensures c.renumbered-rule.ensures c.encode.ensures c.write.ensures c.put_mark.ensures

pub returns : goal.returns
returns c = variant-skipped _ _ _ _ _ c.is_marked.ensures c.if-is_marked.false
