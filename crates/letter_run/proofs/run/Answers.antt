-- The loop's invariant: the words written and the letters still to come make up what all letters give. Assumes nothing.
use Rattle.std.specs.Prelude.{option_map}
use mathlib.Core.Path.{sym, ap, ◌∙◌}
use Rattle.letter.specs.Letter.{move_of}
use Rattle.letter_run.proofs.Letters.{partway-none, partway-more, ran-all, ran-other}
use Rattle.letter_run.proofs.run.Goals as goal

pub loop-i-init : goal.loop-i-init
loop-i-init c = partway-none c.requires.0

pub returns-in_default : goal.returns-in_default
returns-in_default c = ran-other c.loop-i.invariant c.loop-i-test.true (sym c.letter_of.ensures ∙ ap (option_map move_of) c.in_default.is)

pub loop-i-preserved : goal.loop-i-preserved
loop-i-preserved c = partway-more c.loop-i.invariant _ c.loop-i-test.true
    (sym c.letter_of.ensures ∙ ap (option_map move_of) c.in-Some.is)
    c.requires.1 c.step-landing.ensures c.write32.ensures

pub returns : goal.returns
returns c = ran-all c.loop-i.invariant c.loop-i-test.false
