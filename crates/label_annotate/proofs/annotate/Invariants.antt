-- The rows before row r are marked. Assumes nothing.
use Rattle.label_annotate.specs.Annotated.{Annotated}
use Rattle.label_annotate.proofs.annotate.Given as goal

abbrev pub invariant-loop-r : goal.invariant-loop-r
invariant-loop-r l = Annotated l.rows l.class l.r l.fn.work l.work
