-- The lines of the letters, and blank lines for the rest. Assumes nothing.
use native.Mathlib.Omega.{arith}
use Rattle.std.proofs.Common.{rules}
use Rattle.page_line.specs.Page.{page_text}
use Rattle.decimal.proofs.Texts.{pushed_both, pushed_front}
use Rattle.page_line.proofs.put_page.Goals as goal

pub returns : goal.returns
unfolding page_text
returns c = let text = pushed_both c.put_lines.ensures.0 c.put_blank_lines.ensures.0 in
    (pushed_front c.new-text.ensures text (search rules) (search rules), omega arith)
