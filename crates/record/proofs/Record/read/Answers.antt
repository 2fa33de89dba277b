-- The words are the numbers of `record_at`, field by field. Assumes nothing.
use Rattle.record.specs.Record.{record_at}
use Rattle.record.proofs.Record.read.Goals as goal

pub returns : goal.returns
unfolding record_at
returns c = λ i.
    record {
      kind = c.read16.ensures i;
      one = c.read16-2.ensures i;
      two = c.read16-3.ensures i;
      three = c.read16-4.ensures i;
      high = c.read_high.ensures i;
    }
