-- Above the forest, or by the test of stored cells. Assumes nothing.
use mathlib.Core.Path.{◌∙◌}
use Rattle.facts.specs.Facts.{facts_in}
use Rattle.letter_moves.proofs.Stands.{rows-held, walked-in}
use Rattle.place_open.proofs.Places.{placed-above, placed-node}
use native.Mathlib.Omega.{arith}
use Rattle.place_open.proofs.placed.Goals as goal

pub returns-then-k-eq0 : goal.returns-then-k-eq0
returns-then-k-eq0 c = let a = c.args in placed-above (facts_in a.rows.now) a.r a.cursor.now a.k c.if-k-eq0.true

pub accepts-requires : goal.accepts-requires
accepts-requires c = let h = c.requires in (rows-held h.0, h.0.climbs, walked-in h.0, h.1)

pub returns : goal.returns
returns c = let a = c.args in c.accepts.ensures ∙ placed-node (facts_in a.rows.now) a.r a.cursor.now a.k (omega arith)
