-- The variants, both passes and the trailer, one after the other (`finished`). Assumes nothing.
use native.Mathlib.Omega.{arith}
use Rattle.record.specs.Format.{high_length}
use Rattle.copy_marks.proofs.Marks.{kept-markable}
use Rattle.copy_write.proofs.Copies.{markable, start-below, few-rules, finished}
use borrow.Author.Rules.{rules}
use Rattle.copy_write.proofs.write_copy.Goals as goal

pub name-whole-requires : goal.name-whole-requires
name-whole-requires c = let pre = c.requires in
    let below = start-below pre c.vary_rows.ensures in
    (omega (arith, pre.few), omega arith)

pub mark-requires : goal.mark-requires
mark-requires c = let pre = c.requires in
    let varied = c.vary_rows.ensures in
    let below = start-below pre varied in
    (markable pre varied, omega (arith, c.name-whole.ensures))

pub write-m-requires : goal.write-m-requires
unfolding high_length
write-m-requires c = let pre = c.requires in
    let varied = c.vary_rows.ensures in
    record {
      markable = kept-markable _ c.mark.ensures.only (markable pre varied);
      space = omega (arith, pre.space);
    }

pub number_of-top-requires : goal.number_of-top-requires
number_of-top-requires c = let pre = c.requires in
    let varied = c.vary_rows.ensures in
    let room = (markable pre varied).room in
    let below = start-below pre varied in
    let a = c.mark.ensures.only.same_length in
    let b = c.write-m.ensures.only.same_length in
    omega (arith, c.name-whole.ensures)

pub write-requires : goal.write-requires
unfolding high_length
write-requires c = let pre = c.requires in
    let few = few-rules pre c.vary_rows.ensures c.name-whole.ensures c.mark.ensures c.write-m.ensures in
    omega (arith, pre.space)

pub returns : goal.returns
returns c = let pre = c.requires in
    finished pre c.vary_rows.ensures c.name-whole.ensures c.mark.ensures c.write-m.ensures
    c.number_of-top.ensures c.write.ensures c.clear_work.ensures
