-- The turn's laws (`turn-opens`, `turn-stops`, `turn-closes`) at the rule on top. Assumes nothing.
use native.Mathlib.Omega.{arith}
use Rattle.reach_order.proofs.Turns.{search-room, top_read, top-begins, top_below, turn-marks, open-room, turn-opens, turn-stops, turn-closes}
use Rattle.reach_order.proofs.turn.Goals as goal

pub overflow_mul-over-2 : goal.overflow_mul-over-2
overflow_mul-over-2 c = omega (arith, search-room c.requires.0 c.requires.1, c.requires.0.few)

pub overflow_sub-over : goal.overflow_sub-over
overflow_sub-over c = omega (arith, search-room c.requires.0 c.requires.1)

pub read16-r-requires : goal.read16-r-requires
read16-r-requires c = omega (arith, search-room c.requires.0 c.requires.1, c.requires.0.fits)

pub names_at-requires : goal.names_at-requires
names_at-requires c = let p = c.requires in top_below p.0 p.1 p.2 (top_read _ _ _ _ c.read16-r.ensures (omega arith))

pub choose-requires : goal.choose-requires
choose-requires c = turn-marks (top-begins c.requires c.read16-r.ensures (omega arith) c.names_at.ensures)

pub overflow_sub-over-in-Open : goal.overflow_sub-over-in-Open
overflow_sub-over-in-Open c = omega (arith, open-room (top-begins c.requires c.read16-r.ensures (omega arith) c.names_at.ensures) c.in-Open.is c.choose.ensures)

pub place-requires : goal.place-requires
place-requires c = let o = open-room (top-begins c.requires c.read16-r.ensures (omega arith) c.names_at.ensures) c.in-Open.is c.choose.ensures in let f = c.requires.0.fits in (o.0, omega arith, omega arith, f)

pub overflow_mul-done : goal.overflow_mul-done
overflow_mul-done c = let p = c.requires in omega (arith, search-room p.0 p.1, p.0.few)

pub overflow_add-half : goal.overflow_add-half
overflow_add-half c = let p = c.requires in omega (arith, search-room p.0 p.1, p.0.few)

pub place-requires-in-Close : goal.place-requires-in-Close
place-requires-in-Close c = let p = c.requires in (top_below p.0 p.1 p.2 (top_read _ _ _ _ c.read16-r.ensures (omega arith)), omega arith, omega (arith, search-room p.0 p.1), p.0.fits)

pub returns-in-Open : goal.returns-in-Open
returns-in-Open c = turn-opens (top-begins c.requires c.read16-r.ensures (omega arith) c.names_at.ensures) c.in-Open.is c.choose.ensures (omega arith) c.place.ensures

pub returns-in-Stop : goal.returns-in-Stop
returns-in-Stop c = turn-stops (top-begins c.requires c.read16-r.ensures (omega arith) c.names_at.ensures) c.in-Stop.is c.choose.ensures

pub returns-in-Close : goal.returns-in-Close
returns-in-Close c = turn-closes (top-begins c.requires c.read16-r.ensures (omega arith) c.names_at.ensures) c.in-Close.is c.choose.ensures (omega arith) c.place-in-Close.ensures
