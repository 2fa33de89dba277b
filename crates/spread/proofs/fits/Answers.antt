-- So many bytes a node are at most the room where the nodes are at most that part of it, whatever the format. Assumes nothing.
use Rattle.spread.proofs.Answers.{fits-above, fits-shared}
use mathlib.Core.Path.{sym, ◌∙◌}
use native.Mathlib.Omega.{arith}
use Rattle.record.specs.declared.Format.{Format}
use Rattle.record.specs.Format.{high_length}
use Rattle.spread.proofs.fits.Goals as goal

pub returns-then-above : goal.returns-then-above
returns-then-above c = fits-above _ _ (sym c.above.ensures ∙ c.if-above.true) (omega arith)

pub returns-in-Narrow : goal.returns-in-Narrow
unfolding high_length
returns-in-Narrow c = fits-shared Format.Narrow _ _ c.in-Narrow.is (sym c.above.ensures ∙ c.if-above.false)

pub returns-in-Wide : goal.returns-in-Wide
unfolding high_length
returns-in-Wide c = fits-shared Format.Wide _ _ c.in-Wide.is (sym c.above.ensures ∙ c.if-above.false)
