-- A letter has its reason; another byte is refused, and the work is as it was. Assumes nothing.
use Rattle.std.specs.Prelude.{option_map}
use mathlib.Core.Path.{sym, ap, ◌∙◌}
use Rattle.letter.specs.Letter.{move_of}
use Rattle.work_rows.proofs.Rows.{within_none}
use Rattle.reason.proofs.Outcome.{by-letter, no-letter}
use Rattle.reason.proofs.of_byte.Goals as goal

pub returns-in-Some : goal.returns-in-Some
returns-in-Some c = let a = c.args in
    let reads = sym c.letter_of.ensures ∙ ap (option_map move_of) c.in-Some.is in
    (by-letter a.plan.now a.accepted.n a.accepted.start a.cursor.now reads c.of_letter.ensures.0, c.of_letter.ensures.1)

pub returns-in-None : goal.returns-in-None
returns-in-None c = let a = c.args in
    let reads = sym c.letter_of.ensures ∙ ap (option_map move_of) c.in-None.is in
    (no-letter a.plan.now a.accepted.n a.accepted.start a.cursor.now reads, within_none _ _ _)
