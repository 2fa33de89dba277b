-- The loop's invariant: the words written and the letters still to come make up what all letters give. Assumes nothing.
use Rattle.letter_run.proofs.Letters.{Partway}
use Rattle.letter_run.proofs.run.Given as goal

abbrev pub invariant-loop-i : goal.invariant-loop-i
invariant-loop-i l = Partway l.r l.rows l.letters l.initial.at l.initial.cursor l.initial.answers l.i l.at l.cursor l.answers
