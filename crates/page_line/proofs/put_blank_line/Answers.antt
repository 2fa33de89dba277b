-- Forty blanks and the line end. Assumes nothing.
use Rattle.decimal.proofs.Texts.{pushed_both}
use Rattle.page_line.specs.Page.{line_bytes, blank_line}
use Rattle.page_line.proofs.Lines.{pushed-so, blank-long}
use Rattle.page_line.proofs.put_blank_line.Goals as goal

pub returns : goal.returns
unfolding blank_line
returns c = pushed-so line_bytes blank-long (pushed_both c.put_blanks.ensures.0 c.push.ensures)
