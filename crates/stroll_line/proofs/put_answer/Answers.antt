-- "-" for nowhere, else the digits. Assumes nothing.
use native.Mathlib.Omega.{arith}
use mathlib.Core.Path.{sym, ap}
use lib.ListN.{length}
use Rattle.decimal.proofs.Texts.{pushed_as}
use Rattle.stroll_line.specs.Said.{answer_of}
use Rattle.stroll_line.proofs.Shown.{shown-nowhere, shown-label, shown-some}
use Rattle.stroll_line.proofs.put_answer.Goals as goal

pub push-requires : goal.push-requires
push-requires c = omega (arith, shown-some (answer_of c.args.word))

pub returns-then-word-eq-NOWHERE : goal.returns-then-word-eq-NOWHERE
returns-then-word-eq-NOWHERE c = pushed_as (sym (shown-nowhere c.args.word c.if-word-eq-NOWHERE.true)) c.push.ensures

pub push_decimal-requires : goal.push_decimal-requires
push_decimal-requires c = omega (arith, ap length (shown-label c.args.word c.if-word-eq-NOWHERE.false))

pub returns-else-word-eq-NOWHERE : goal.returns-else-word-eq-NOWHERE
returns-else-word-eq-NOWHERE c = pushed_as (sym (shown-label c.args.word c.if-word-eq-NOWHERE.false)) c.push_decimal.ensures
