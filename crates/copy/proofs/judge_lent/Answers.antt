-- By cases on what was judged before, and then by the tests in their order. Assumes nothing.
use mathlib.Core.Path.{sym, ◌∙◌}
use borrow.Author.Tests.{le-leb, lt-leb}
use Rattle.copy_variants.specs.Variants.{most_copied}
use Rattle.copy.specs.Copy.{count_judged, lent_judged}
use Rattle.refusal.proofs.Passed.{handed-on}
use Rattle.copy.proofs.judge_lent.Goals as goal

pub returns-then-n-gt-MOST_COPIED : goal.returns-then-n-gt-MOST_COPIED
unfolding count_judged lent_judged
returns-then-n-gt-MOST_COPIED c s t e f = rw (c.in_ok-n.was, lt-leb _ most_copied c.if-n-gt-MOST_COPIED.true)

pub returns-then-enough_lent : goal.returns-then-enough_lent
unfolding count_judged lent_judged
returns-then-enough_lent c s t e f = rw (c.in_ok-n.was, le-leb _ most_copied c.if-n-gt-MOST_COPIED.false, f, sym (c.enough_lent.ensures s e) ∙ c.if-enough_lent.true)

pub returns : goal.returns
unfolding count_judged lent_judged
returns c s t e f = rw (c.in_ok-n.was, le-leb _ most_copied c.if-n-gt-MOST_COPIED.false, f, sym (c.enough_lent.ensures s e) ∙ c.if-enough_lent.false)

pub returns-in_err-n : goal.returns-in_err-n
unfolding count_judged lent_judged
returns-in_err-n c s t e f = rw (handed-on c.from_residual.result c.from_residual.ensures.1) (rw c.in_err-n.was)
