-- A refusal's line is the whole output. Assumes nothing.
use native.Mathlib.Omega.{arith}
use mathlib.Core.Path.{sym, ◌∙◌}
use Rattle.decimal.proofs.Next.{next-all, none_left, put_front, put-taken}
use Rattle.pages.proofs.print_refusal.Goals as goal

pub slice_bounds-emit-end : goal.slice_bounds-emit-end
slice_bounds-emit-end c = put-taken c.put_refusal-length.ensures

pub emit-requires : goal.emit-requires
emit-requires c =
    let put = c.put_refusal-length.ensures in
    rw c.new-printer.ensures.printed (next-all (c.requires ∙ sym (put_front put)), omega (arith, put-taken put, put.ends, put.room))

pub returns : goal.returns
returns c =
    let printed = rw c.new-printer.ensures.printed at c.emit.ensures in
    none_left (c.requires ∙ sym (put_front c.put_refusal-length.ensures)) printed
