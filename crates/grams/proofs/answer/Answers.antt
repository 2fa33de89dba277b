-- The start rule's sum is made and judged, and the work cleared; or the refusal is handed on. Assumes nothing.
use native.Mathlib.Omega.{arith}
use Rattle.grams.proofs.Sums.{sum-answered, refused-answered}
use Rattle.refusal.proofs.Passed.{handed-on}
use Rattle.grams.proofs.answer.Goals as goal

pub total-sum-requires : goal.total-sum-requires
total-sum-requires c = let able = c.requires.rows _ _ c.in_ok-n.was in (able.ready, able.below)

pub clear_work-requires : goal.clear_work-requires
clear_work-requires c =
    let able = c.requires.rows _ _ c.in_ok-n.was in
    let same = c.total-sum.ensures.besides.beyond.same_length in omega (arith, able.words)

pub returns : goal.returns
returns c = sum-answered c.in_ok-n.was c.total-sum.ensures c.clear_work.ensures c.given.ensures

pub returns-in_err-n : goal.returns-in_err-n
returns-in_err-n c = rw (handed-on c.from_residual.result c.from_residual.ensures.1) (refused-answered c.in_err-n.was)
