-- "-" behind seven blanks for nowhere, else the digits right set. Assumes nothing.
use native.Mathlib.Omega.{arith}
use mathlib.Core.Path.{ap}
use lib.ListN.{length}
use Rattle.stroll_line.specs.Lines.{shown}
use Rattle.stroll_line.specs.Said.{answer_of}
use Rattle.stroll_line.proofs.Shown.{shown-label}
use Rattle.decimal.proofs.Texts.{pushed_both, pushed_as}
use Rattle.page_line.proofs.Lines.{pushed-so, right-long, nowhere-is}
use Rattle.page_line.proofs.put_label.Goals as goal

pub returns-then-word-eq-NOWHERE : goal.returns-then-word-eq-NOWHERE
returns-then-word-eq-NOWHERE c = pushed-so 8 (right-long 8 (shown (answer_of c.args.word)) c.requires.0)
    (pushed_as (nowhere-is c.args.word c.if-word-eq-NOWHERE.true) (pushed_both c.put_blanks.ensures.0 c.push.ensures))

pub put_right-requires : goal.put_right-requires
put_right-requires c = let same = shown-label c.args.word c.if-word-eq-NOWHERE.false in
    (omega (arith, ap length same, c.requires.0), omega arith, omega arith)

pub returns-else-word-eq-NOWHERE : goal.returns-else-word-eq-NOWHERE
returns-else-word-eq-NOWHERE c = rw (shown-label c.args.word c.if-word-eq-NOWHERE.false) c.put_right.ensures
