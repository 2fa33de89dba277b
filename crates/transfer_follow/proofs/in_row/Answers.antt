-- A row has the tree if the rule has more trees. Assumes nothing.
use Rattle.transfer_follow.proofs.Branches.{row-there, row-missing}
use Rattle.transfer_follow.proofs.in_row.Goals as goal

pub returns-then-i-tops_at : goal.returns-then-i-tops_at
returns-then-i-tops_at c = row-there c.requires.0 c.requires.1 c.requires.2 c.tops_at.ensures _ c.if-i-tops_at.true

pub returns : goal.returns
returns c = row-missing c.requires.0 c.requires.1 c.requires.2 c.tops_at.ensures _ c.if-i-tops_at.false
