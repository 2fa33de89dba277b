-- The invariant: what was looked for is looked for still (`Looking`). The rule is lower at each turn. Assumes nothing.
use Rattle.transfer_reach.proofs.Reaching.{looking-here, looking-more, looking-lower, looking-ends, step_room, looking-room}
use Rattle.transfer_reach.proofs.Turning.{no-value}
use Rattle.transfer_reach.proofs.seek.Goals as goal

pub turn_at-requires : goal.turn_at-requires
turn_at-requires c = let here = looking-here c.requires c.loop-side.invariant in
    (here.followable.counted, here.inside, here.few)

pub step_cell-used-requires : goal.step_cell-used-requires
step_cell-used-requires c = step_room (looking-here c.requires c.loop-side.invariant)

pub loop-side-smaller : goal.loop-side-smaller
loop-side-smaller c = looking-lower c.requires c.loop-side.invariant (c.turn_at.ensures.on _ c.in-Some.is)

pub loop-side-preserved : goal.loop-side-preserved
loop-side-preserved c = looking-more c.requires c.loop-side.invariant (c.turn_at.ensures.on _ c.in-Some.is) c.step_cell-used.ensures

pub put_tree-requires : goal.put_tree-requires
put_tree-requires c = looking-room c.requires c.loop-side.invariant c.turn_at.ensures (no-value c.in_default.not-Some)

pub returns : goal.returns
returns c = looking-ends c.loop-side.invariant c.turn_at.ensures (no-value c.in_default.not-Some) c.put_tree.ensures
