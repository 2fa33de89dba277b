-- A count is written as a number of eight bytes and a word: its ten bytes are these (`written-count`). Assumes nothing.
use Rattle.count_capped.proofs.Digits.{written-count}
use Rattle.count_capped.proofs.Count.write.Goals as goal

pub returns : goal.returns
returns c = rw (← c.self.view_is) (written-count _ _ _ _ c.write64.ensures c.write16.ensures c.self.invariant)
