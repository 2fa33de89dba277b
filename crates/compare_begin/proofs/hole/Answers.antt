-- The runs on top are taken over what the cell below them opens. Assumes nothing.
use Rattle.compare_begin.proofs.Holes.{hole-openable, hole-ready, hole_made}
use Rattle.compare_begin.proofs.hole.Goals as goal

pub filler-x-requires : goal.filler-x-requires
filler-x-requires c = hole-openable c.requires c.below_runs-i.ensures

pub over_runs-requires : goal.over_runs-requires
over_runs-requires c = hole-ready c.requires c.below_runs-i.ensures c.filler-x.ensures

pub returns : goal.returns
returns c = hole_made c.requires c.below_runs-i.ensures c.filler-x.ensures c.over_runs.ensures
