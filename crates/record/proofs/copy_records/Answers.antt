-- `copy_records` reads and writes record after record: the loop's invariant is the contract at i. Assumes nothing.
use Prim.Native.Nat.{ℕ, ◌+◌, ◌*◌}
use mathlib.Core.Path.{◌≡◌, refl, sym, ap, ap₂, ◌∙◌}
use mathlib.Core.List.{List, ◌++◌}
use native.Mathlib.Omega.{arith}
use lib.ListN.{take, drop}
use Rattle.record.specs.declared.Record.{Record}
use Rattle.record.specs.Format.{length_of_record}
use Rattle.record.specs.Record.{record_bytes}
use Rattle.record.proofs.Formats.{record-lies}
use Rattle.record.proofs.Copied.{copied, copied_none, copied_more}
use Rattle.record.proofs.copy_records.Goals as goal

pub loop-i-init : goal.loop-i-init
loop-i-init c = let a = c.args in (sym (copied_none a.format a.s.now _ a.out.now), omega arith)

pub overflow_mul-length : goal.overflow_mul-length
overflow_mul-length c = let lies = record-lies c.args.format c.loop-i-test.true in rw c.length-length.ensures (omega (arith, lies))

pub overflow_add-first : goal.overflow_add-first
overflow_add-first c = let lies = record-lies c.args.format c.loop-i-test.true in rw c.length-length.ensures (omega (arith, lies))

pub read-requires : goal.read-requires
read-requires c = let lies = record-lies c.args.format c.loop-i-test.true in rw c.length-length.ensures (omega (arith, lies))

pub overflow_mul-length-in-loop-i : goal.overflow_mul-length-in-loop-i
overflow_mul-length-in-loop-i c = let lies = record-lies c.args.format c.loop-i-test.true in rw c.length-length.ensures (omega (arith, lies))

pub write-requires : goal.write-requires
write-requires c = let lies = record-lies c.args.format c.loop-i-test.true in rw c.length-length.ensures (omega (arith, lies))

pub loop-i-preserved : goal.loop-i-preserved
loop-i-preserved c = let a = c.args in
    let f = a.format in
    let i = c.loop-i.i in
    let long = c.length-length.ensures in (
      (rw long at c.write.ensures)
          ∙ ap₂ (λ (l : List ℕ) (w : Record). take (length_of_record f * i) l ++ (record_bytes f w ++ drop (length_of_record f * i + length_of_record f) l)) c.loop-i.invariant.0 (rw long at c.read.ensures)
          ∙ copied_more f a.s.now a.first i a.out.now _ refl,
      omega arith,
    )

pub shape_of-out : goal.shape_of-out
shape_of-out c = omega arith

pub returns : goal.returns
unfolding copied
returns c = let a = c.args in
    let e : c.loop-i.i ≡ a.n = omega arith in
    c.loop-i.invariant.0 ∙ ap (λ (k : ℕ). copied a.format a.s.now a.first k a.out.now) e
