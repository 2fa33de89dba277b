-- Seven texts one after the other. Assumes nothing.
use native.Mathlib.Omega.{arith}
use Rattle.stroll_line.specs.Said.{answer_of}
use Rattle.page_line.specs.Page.{line_bytes, page_line}
use Rattle.decimal.proofs.Texts.{pushed_both}
use Rattle.page_line.proofs.Lines.{pushed-so, number_short, line-long}
use Rattle.page_line.proofs.put_line.Goals as goal

pub put_right-requires : goal.put_right-requires
put_right-requires c = (number_short c.args.i c.requires.0, omega arith, omega arith)

pub returns : goal.returns
unfolding page_line
returns c = pushed-so line_bytes (line-long c.args.i c.args.letter (answer_of c.args.word) c.requires.0 c.requires.1)
    (pushed_both c.put_right.ensures.0
    (pushed_both c.push.ensures
    (pushed_both c.push-2.ensures
    (pushed_both c.push-3.ensures
    (pushed_both c.put_label.ensures.0 (pushed_both c.put_blanks.ensures.0 c.push-4.ensures))))))
