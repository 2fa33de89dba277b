-- The first byte that the test finds. Assumes nothing.
use mathlib.Core.Path.{◌∙◌}
use Rattle.std.proofs.Common.{rules, tests}
use Rattle.std.proofs.lemmas.Iterator.{YieldsList-from_slice}
use Rattle.std.proofs.lemmas.Iterator.Search.{position_from_yields_List}
use Rattle.walk_lent.proofs.Bytes.{other, no-letter, found}
use Rattle.walk_lent.proofs.first_other.Goals as goal

pub returns : goal.returns
returns c =
    position_from_yields_List other _ _ _ c.position.ensures.ran (YieldsList-from_slice c.args.letters.now cc) (λ x b q k. search (rules, tests, no-letter))
    ∙ found c.args.letters.now
