-- The last two bytes are compared with the mark's, by the law `marked-bytes`. Assumes nothing.
use mathlib.Core.Path.{sym}
use Rattle.plan.proofs.Checking.{marked-bytes}
use Rattle.plan.proofs.Trailer.marked.Goals as goal

pub returns : goal.returns
returns c = rw c.magic-magic.ensures (sym (marked-bytes c.args.format _ c.requires))
