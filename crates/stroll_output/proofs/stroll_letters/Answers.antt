-- Too many letters, or what is printed of the walk. Assumes nothing.
use mathlib.Core.Path.{sym}
use Rattle.decimal.proofs.Puts.{put_as}
use Rattle.stroll_output.proofs.Strolls.{too_many}
use Rattle.stroll_output.proofs.stroll_letters.Goals as goal

pub returns-then-letters-gt-MOST_LETTERS : goal.returns-then-letters-gt-MOST_LETTERS
returns-then-letters-gt-MOST_LETTERS c = let start = c in
    put_as (sym (too_many start.args.plan.now start.args.letters.now start.requires.0 c.if-letters-gt-MOST_LETTERS.true)) c.put_refusal.ensures

pub print_walk-requires : goal.print_walk-requires
print_walk-requires c = let start = c in
    (record { accepted = start.requires.0; few = c.if-letters-gt-MOST_LETTERS.false }, start.requires.1)

pub returns : goal.returns
returns c = c.print_walk.ensures
