-- The place is opened, and what is climbed is its path. Assumes nothing.
use native.Mathlib.Omega.{arith}
use Rattle.move_parts.proofs.Held.{held-less}
use Rattle.letter_moves.proofs.Stands.{held}
use Rattle.transfer_trace.proofs.Tracing.{path-from, none_from}
use Rattle.refusal.proofs.Passed.{handed-on}
use Rattle.transfer_trace.proofs.trace_rows.Goals as goal

pub climb-requires : goal.climb-requires
climb-requires c = let past-at = c in
    let past_open = past-at in
    let entry = past_open in
    (entry.requires.counted, held-less (held (past_open.open.ensures.at _ _ past-at.in_ok-opened.was).place) _ (omega arith), entry.requires.room)

pub returns : goal.returns
returns c = let past-climb = c in
    let past-at = past-climb in
    path-from (past-at.open.ensures.at _ _ past-at.in_ok-opened.was) past-climb.climb.ensures

pub returns-in_err-opened : goal.returns-in_err-opened
returns-in_err-opened c = let past_open = c in
    rw (handed-on c.from_residual.result c.from_residual.ensures.1) (none_from _ (past_open.open.ensures.refused _ c.in_err-opened.was))
