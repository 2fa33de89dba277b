-- The table is filled in the first rows of the work, and the place is opened there. Assumes nothing.
use Rattle.reason.proofs.Outcome.{prefix-long, openable}
use Rattle.reason.proofs.of_letter.Goals as goal

pub from_place-requires : goal.from_place-requires
from_place-requires c = let loaded = c.load.ensures in
    openable c.requires loaded.0 (prefix-long c.requires loaded.3)
