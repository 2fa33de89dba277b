-- The two names by their larger. Assumes nothing.
use Rattle.work_rows.proofs.Row.names_below.Goals as goal

pub returns : goal.returns
returns c = rw c.both_below.ensures
