-- The first of forty blanks. Assumes nothing.
use lib.ListN.{length-replicate}
use Rattle.decimal.proofs.Texts.{pushed_as}
use Rattle.page_line.specs.Page.{columns}
use Rattle.page_line.proofs.Lines.{pushed-so, blanks-taken}
use Rattle.page_line.proofs.put_blanks.Goals as goal

pub returns : goal.returns
returns c = pushed-so c.args.n (length-replicate c.args.n 32) (pushed_as (blanks-taken c.args.n columns 32 c.requires.0) c.push_bytes.ensures)
