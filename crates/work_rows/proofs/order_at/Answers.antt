-- The word at that place. Assumes nothing.
use Prim.Native.Nat.{◌+◌, ◌*◌}
use mathlib.Core.Path.{◌≡◌, sym, ap, ◌∙◌}
use native.Mathlib.Omega.{arith}
use Rattle.words.specs.Number.{number}
use Rattle.record.specs.Record.{word_length}
use Rattle.work_rows.specs.Order.{order_at}
use Rattle.work_rows.proofs.Order.{order-word}
use Rattle.work_rows.proofs.order_at.Goals as goal

pub returns : goal.returns
returns c = let a = c.args in
    let e : 34 * a.n + 2 * a.i ≡ order_at a.n + word_length * a.i = omega arith in
    c.read16.ensures ∙ ap (number word_length a.work.now) e ∙ sym (order-word a.work.now a.n a.i c.requires.1)
