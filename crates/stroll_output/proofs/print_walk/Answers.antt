-- The lines that the answers say, or the line of a refusal. Assumes nothing.
use Prim.Native.Nat.{ℕ}
use native.Mathlib.Omega.{arith}
use lib.ListN.{length-replicate}
use Rattle.decimal.proofs.Puts.{put_as}
use Rattle.stroll_output.proofs.print_walk.Goals as goal

pub walk_above-requires : goal.walk_above-requires
walk_above-requires c = let start = c in
    let few = start.requires.0.few in
    (start.requires.0, omega (arith, length-replicate {0} {A = ℕ} 16384 0))

pub put_lines-requires : goal.put_lines-requires
put_lines-requires c = let start = c in
    let few = start.requires.0.few in
    let walk = c.walk_above in
    let short = walk.ensures.short c.in-Ok.is in
    (omega (arith, walk.auto, length-replicate {0} {A = ℕ} 16384 0), omega arith)

pub returns-in-Ok : goal.returns-in-Ok
returns-in-Ok c = put_as (c.walk_above.ensures.said c.in-Ok.is)
    c.put_lines.ensures

pub returns-in-Err : goal.returns-in-Err
returns-in-Err c = put_as (c.walk_above.ensures.refused _ c.in-Err.is)
    c.put_refusal.ensures
