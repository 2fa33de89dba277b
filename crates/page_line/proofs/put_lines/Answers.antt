-- The loop's invariant: the lines from letter i on are what is left of all lines. Assumes nothing.
use native.Mathlib.Omega.{arith}
use lib.ListN.{length}
use Rattle.stroll_line.specs.Said.{answers_from}
use Rattle.decimal.proofs.Texts.{pushing-start, pushing-more, pushing-end}
use Rattle.page_line.proofs.Lines.{lines_long, from-long, lines-all, lines_more, lines_none, shorts-all, shorts-more}
use Rattle.page_line.proofs.put_lines.Goals as goal

pub loop-i-init : goal.loop-i-init
loop-i-init c = let letters = c.args.letters.now in
    let given = c.args.given.now in
    let long = lines_long c.args.first letters (answers_from (length letters) given 0) c.requires.1 c.requires.2 (from-long (length letters) given 0) in
    (omega arith, shorts-all letters given c.requires.2, pushing-start (lines-all c.args.first letters given) (omega (arith, long)))

pub put_line-requires : goal.put_line-requires
put_line-requires c =
    let short = shorts-more c.args.letters.now c.args.given.now c.loop-i.i (omega arith) c.read32-word.ensures c.loop-i.invariant.1 in
    (omega arith, short.0, omega (arith, c.loop-i.invariant.2.same_length))

pub loop-i-preserved : goal.loop-i-preserved
loop-i-preserved c = let letters = c.args.letters.now in
    let given = c.args.given.now in
    let more = lines_more c.args.first letters given c.loop-i.i (omega arith) c.read32-word.ensures in (
      omega arith,
      (shorts-more letters given c.loop-i.i (omega arith) c.read32-word.ensures c.loop-i.invariant.1).1,
      pushing-more more c.put_line.ensures.0 c.loop-i.invariant.2,
    )

pub returns : goal.returns
returns c = (pushing-end (lines_none c.args.first c.args.letters.now c.args.given.now c.loop-i.i (omega arith)) c.loop-i.invariant.2, omega arith)
