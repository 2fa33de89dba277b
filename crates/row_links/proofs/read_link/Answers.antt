-- The word at that place. Assumes nothing.
use mathlib.Core.Path.{ap, ◌∙◌}
use native.Mathlib.Omega.{arith}
use Rattle.words.specs.Number.{number}
use Rattle.record.specs.Record.{word_length}
use Rattle.row_links.specs.Links.{link}
use Rattle.row_links.proofs.read_link.Goals as goal

pub returns : goal.returns
unfolding link
returns c = (
  c.read16.ensures ∙ ap (number word_length c.args.cursor.now) c.link_at.ensures,
  omega (arith, c.read16.type_inv),
)
