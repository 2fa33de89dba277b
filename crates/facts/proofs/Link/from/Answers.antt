-- The words of the link that steps to p, each read from p's row. Assumes nothing.
use Prim.Native.Nat.{◌+◌}
use native.Mathlib.Omega.{arith}
use Rattle.facts.specs.Build.{link_from}
use Rattle.facts.proofs.Link.from.Goals as goal

pub overflow_add-result : goal.overflow_add-result
overflow_add-result c = omega arith

pub returns : goal.returns
unfolding link_from
returns c = λ i. record { toward = c.args.p; last = c.last_at.ensures i; depth = c.depth_at.ensures i + 1; jump = c.jump_from.ensures i }
