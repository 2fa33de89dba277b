-- The loop's invariant: the lines from letter i on are what is left of all lines. Assumes nothing.
use Rattle.decimal.proofs.Texts.{Pushing}
use Rattle.stroll_line.proofs.Shown.{all_lines, lines_from}
use Rattle.stroll_line.proofs.put_lines.Given as goal

abbrev pub invariant-loop-i : goal.invariant-loop-i
invariant-loop-i l = Pushing (lines_from l.letters l.answers l.i) (all_lines l.letters l.answers) l.initial.text l.text
