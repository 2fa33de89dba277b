-- A rule that was seen is left alone (`listed-seen`); another is put at the end (`listed-new`). Assumes nothing.
use mathlib.Core.Path.{sym, ◌∙◌}
use native.Mathlib.Omega.{arith}
use Rattle.reach_order.proofs.Queues.{listed_below, listed-room, listed-seen, listed-new}
use Rattle.reach_order.proofs.enqueue.Goals as goal

pub mark-requires : goal.mark-requires
mark-requires c = let a = c.requires in omega (arith, listed_below a, a.fits)

pub returns-then-mark-ne-UNSEEN : goal.returns-then-mark-ne-UNSEEN
returns-then-mark-ne-UNSEEN c = listed-seen c.requires (λ e. c.if-mark-ne-UNSEEN.true (c.mark.ensures ∙ e))

pub overflow_mul-m : goal.overflow_mul-m
overflow_mul-m c = omega (arith, listed-room c.requires (sym c.mark.ensures ∙ c.if-mark-ne-UNSEEN.false))

pub overflow_add-n : goal.overflow_add-n
overflow_add-n c = omega (arith, listed-room c.requires (sym c.mark.ensures ∙ c.if-mark-ne-UNSEEN.false))

pub place-requires : goal.place-requires
place-requires c = let a = c.requires in let l = listed-room a (sym c.mark.ensures ∙ c.if-mark-ne-UNSEEN.false) in (listed_below a, omega arith, omega arith, a.fits)

pub overflow_add-result : goal.overflow_add-result
overflow_add-result c = omega (arith, listed-room c.requires (sym c.mark.ensures ∙ c.if-mark-ne-UNSEEN.false))

pub returns : goal.returns
returns c = listed-new c.requires (sym c.mark.ensures ∙ c.if-mark-ne-UNSEEN.false) c.place.ensures
