-- The loop's invariant: the cells below the row are those below the row that the first cells end in. Assumes nothing.
use mathlib.Core.Path.{refl, sym, ◌∙◌}
use native.Mathlib.Omega.{arith}
use Rattle.place_cells.proofs.Stack.{top-kind}
use Rattle.letter_reason.proofs.Leads.{below-here, below_next, below_none}
use Rattle.letter_reason.proofs.below_row.Goals as goal

pub loop-below-init : goal.loop-below-init
loop-below-init c = refl

pub returns-then-read-eq-ROW : goal.returns-then-read-eq-ROW
returns-then-read-eq-ROW c = let a = c.args in
    let opens = sym (top-kind c.read.ensures) ∙ c.if-read-eq-ROW.true in
    sym (below-here a.cursor.now c.loop-below.below c.loop-below-test.true opens) ∙ c.loop-below.invariant

pub loop-below-preserved : goal.loop-below-preserved
loop-below-preserved c = let a = c.args in
    let same = below_next a.cursor.now c.loop-below.below c.loop-below-test.true
    (λ q. c.if-read-eq-ROW.false (top-kind c.read.ensures ∙ q)) in
    sym same ∙ c.loop-below.invariant

pub returns : goal.returns
returns c = let a = c.args in
    sym (below_none a.cursor.now c.loop-below.below (omega (arith, c.loop-below-test.false))) ∙ c.loop-below.invariant
