-- The table is filled in the first rows of the work, and walked on there. Assumes nothing.
use mathlib.Core.Path.{sym}
use Rattle.walk.proofs.Filling.{arrangeable, prefix-long, travels, walks-on}
use Rattle.walk.proofs.walk_letters.Goals as goal

pub load-requires : goal.load-requires
load-requires c = arrangeable c.requires

pub slice_bounds-rows-end-2 : goal.slice_bounds-rows-end-2
slice_bounds-rows-end-2 c = sym (prefix-long c.requires c.load.ensures.3)

pub travel-requires : goal.travel-requires
travel-requires c = travels c.requires c.load.ensures.0 (prefix-long c.requires c.load.ensures.3)

pub returns : goal.returns
returns c = (walks-on c.requires c.load.ensures.0 (prefix-long c.requires c.load.ensures.3) c.travel.ensures, c.load.ensures.3)
