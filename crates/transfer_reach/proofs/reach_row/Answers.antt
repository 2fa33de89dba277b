-- The row's opening, and the search from there. Assumes nothing.
use native.Mathlib.Omega.{arith}
use Rattle.std.specs.Prelude.{Some}
use Rattle.place_cells.proofs.Writes.{high-most}
use Rattle.transfer_reach.proofs.Entering.{row_lies, row-seeks, row-reached}
use Rattle.transfer_reach.proofs.reach_row.Goals as goal

pub push-used-requires : goal.push-used-requires
push-used-requires c = omega (arith, high-most (Some c.row.result) c.args.k, row_lies c.requires.row)

pub seek-requires : goal.seek-requires
seek-requires c = record {
  start = c.requires.start;
  spot = c.requires.spot;
  seeking = row-seeks c.requires.row c.representative_at-over.ensures c.row.ensures c.push-used.ensures;
}

pub returns : goal.returns
returns c = λ start x q.
    row-reached q c.representative_at-over.ensures c.row.ensures c.push-used.ensures
    (c.seek.ensures start x (row-seeks q c.representative_at-over.ensures c.row.ensures c.push-used.ensures))
