-- The loop's invariant: the lines from letter i on are what is left of all lines. Assumes nothing.
use Prim.Native.Nat.{◌+◌, ◌-◌, ◌*◌}
use mathlib.Core.Path.{◌≡◌}
use lib.ListN.{length}
use Rattle.forest.specs.Walk.{answer_length}
use Rattle.decimal.proofs.Texts.{Pushing}
use Rattle.stroll_line.specs.Said.{answers_from}
use Rattle.page_line.specs.Page.{line_bytes, numbered, Shorts}
use Rattle.page_line.proofs.Lines.{lines_from}
use Rattle.page_line.proofs.put_lines.Given as goal

abbrev pub invariant-loop-i : goal.invariant-loop-i
invariant-loop-i l = (l.text.len ≡ l.initial.text.len + line_bytes * l.i)
    × Shorts (answers_from (length l.letters - l.i) l.given (answer_length * l.i))
    × Pushing (lines_from l.first l.letters l.given l.i) (numbered l.first l.letters (answers_from (length l.letters) l.given 0)) l.initial.text l.text
