-- The loop's invariant: the lines from letter i on are what is left of all lines. Assumes nothing.
use native.Mathlib.Omega.{arith}
use mathlib.Core.Path.{ap}
use lib.ListN.{length, length-append}
use Rattle.std.proofs.Common.{rules}
use Rattle.decimal.proofs.Texts.{pushed_front, pushing-start, pushing-more, pushing-end}
use Rattle.stroll_line.proofs.Shown.{lines-all, lines_more, lines_none}
use Rattle.stroll_line.proofs.put_lines.Goals as goal

pub loop-i-init : goal.loop-i-init
loop-i-init c = pushing-start (lines-all c.args.letters.now c.args.answers.now) (omega arith)

pub put_line-requires : goal.put_line-requires
put_line-requires c = let l = c.loop-i in
    let a = c.args in
    let more = simp length-append at (ap length (lines_more a.letters.now a.answers.now l.i (omega arith) c.read32-word.ensures)) in
    omega (arith, more, l.invariant.left.room)

pub loop-i-preserved : goal.loop-i-preserved
loop-i-preserved c = let l = c.loop-i in
    let a = c.args in
    pushing-more (lines_more a.letters.now a.answers.now l.i (omega arith) c.read32-word.ensures) c.put_line.ensures l.invariant

pub returns : goal.returns
returns c = let l = c.loop-i in
    let a = c.args in
    let same = l.invariant.same_reference in
    pushed_front c.new-text.ensures (pushing-end (lines_none a.letters.now a.answers.now l.i (omega arith)) l.invariant) (search rules) (search rules)
