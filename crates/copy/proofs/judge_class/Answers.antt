-- By cases on check's answer, and then on the class. Assumes nothing.
use native.Mathlib.Omega.{arith}
use mathlib.Core.Path.{sym, ◌∙◌}
use borrow.Author.Tests.{le-leb, lt-leb}
use Rattle.label_rows.specs.Coverage.{largest_class}
use Rattle.copy.specs.Copy.{class_judged}
use Rattle.refusal.proofs.Passed.{handed-on}
use Rattle.copy.proofs.judge_class.Goals as goal

pub returns-then-class-gt-LARGEST_CLASS : goal.returns-then-class-gt-LARGEST_CLASS
unfolding class_judged
returns-then-class-gt-LARGEST_CLASS c = let class = c.args.class in
    rw (sym c.check.ensures ∙ c.in_ok-checked.was, lt-leb class largest_class c.if-class-gt-LARGEST_CLASS.true)

pub returns : goal.returns
unfolding class_judged
returns c = let class = c.args.class in
    rw (sym c.check.ensures ∙ c.in_ok-checked.was, le-leb class largest_class (omega (arith, c.if-class-gt-LARGEST_CLASS.false)))

pub returns-in_err-checked : goal.returns-in_err-checked
unfolding class_judged
returns-in_err-checked c = rw (handed-on c.from_residual.result c.from_residual.ensures.1) (rw (sym c.check.ensures ∙ c.in_err-checked.was))
