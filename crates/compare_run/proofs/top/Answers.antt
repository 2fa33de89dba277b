-- The last word of the stack, if there is one. Assumes nothing.
use mathlib.Core.Path.{sym, ◌∙◌}
use Rattle.compare_run.proofs.Tops.{top-over, top-none}
use Rattle.compare_run.proofs.top.Goals as goal

pub returns-then-k-eq0 : goal.returns-then-k-eq0
returns-then-k-eq0 c = sym (top-none _ _ _ c.if-k-eq0.true)

pub returns : goal.returns
returns c = c.read16.ensures ∙ sym (top-over _ _ _ c.if-k-eq0.false)
