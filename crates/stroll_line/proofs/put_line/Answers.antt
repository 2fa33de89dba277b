-- Four texts one after the other. Assumes nothing.
use native.Mathlib.Omega.{arith}
use Rattle.stroll_line.specs.Lines.{line}
use Rattle.stroll_line.specs.Said.{answer_of}
use Rattle.decimal.proofs.Texts.{pushed_both}
use Rattle.stroll_line.proofs.Shown.{line-length}
use Rattle.stroll_line.proofs.put_line.Goals as goal

pub push-requires : goal.push-requires
push-requires c = let a = c.args in omega (arith, line-length a.letter (answer_of a.word))

pub push-requires-2 : goal.push-requires-2
push-requires-2 c = let a = c.args in omega (arith, line-length a.letter (answer_of a.word))

pub put_answer-requires : goal.put_answer-requires
put_answer-requires c = let a = c.args in omega (arith, line-length a.letter (answer_of a.word))

pub push-requires-3 : goal.push-requires-3
push-requires-3 c = let a = c.args in omega (arith, line-length a.letter (answer_of a.word))

pub returns : goal.returns
unfolding line
returns c = pushed_both c.push.ensures (pushed_both c.push-2.ensures (pushed_both c.put_answer.ensures c.push-3.ensures))
