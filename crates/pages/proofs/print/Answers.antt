-- A log that is not refused is printed on pages; of a refusal the line is all. Assumes nothing.
use mathlib.Core.Path.{sym, ◌∙◌}
use Rattle.page_output.proofs.Judging.{printable, refused-prints}
use Rattle.pages.proofs.print.Goals as goal

pub print_pages-requires : goal.print_pages-requires
print_pages-requires c = printable c.args.plan.now c.args.log.now (sym c.in-Ok.is ∙ c.judge.ensures)

pub print_refusal-requires : goal.print_refusal-requires
print_refusal-requires c = refused-prints c.args.plan.now c.args.log.now (sym c.in-Err.is ∙ c.judge.ensures)
