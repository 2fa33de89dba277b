-- The node itself is what it has. Assumes nothing.
use Rattle.move_parts.specs.Change.{keep_of}
use Rattle.letter_arrival.proofs.Arrives.{keeps-all, kept-made, never-stay}
use Rattle.letter_arrival.proofs.put_same.Goals as goal

pub returns-in-Kept : goal.returns-in-Kept
unfolding keep_of
returns-in-Kept c = let h = c.requires in let e = c.in-Kept.is in kept-made h.0 (keeps-all h.0 e h.1) e

pub returns-in_default : goal.returns-in_default
returns-in_default c = let a = c.args in absurd (never-stay a.work.now a.cursor.now a.change c.in_default.not-Kept c.requires.0.able)
