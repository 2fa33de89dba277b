-- The rules are arranged in the work, and the rows are filled in their order. Assumes nothing.
use Rattle.facts_load.proofs.Filling.{builds, filled}
use Rattle.facts_load.proofs.load.Goals as goal

pub build-requires : goal.build-requires
build-requires c = builds c.requires c.arrange.ensures

pub returns : goal.returns
returns c = filled c.requires c.arrange.ensures c.build.ensures
