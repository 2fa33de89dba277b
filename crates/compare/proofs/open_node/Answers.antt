-- A place with cells is a node's; one without is above the forest, and turned down. Assumes nothing.
use native.Mathlib.Omega.{arith}
use Rattle.compare.proofs.Opening.{opens-node, opens-above, node-not, node_opens, refused-node}
use Rattle.refusal.proofs.Passed.{handed-on}
use Rattle.compare.proofs.open_node.Goals as goal

pub returns-then-opened-eq0 : goal.returns-then-opened-eq0
returns-then-opened-eq0 c = node-not _ _ _ _ (opens-above (c.open.ensures.at _ _ c.in_ok-opened.was) c.if-opened-eq0.true)

pub returns : goal.returns
returns c = node_opens _ _ _ _ (opens-node (c.open.ensures.at _ _ c.in_ok-opened.was) (omega (arith, c.if-opened-eq0.false)))

pub returns-in_err-opened : goal.returns-in_err-opened
returns-in_err-opened c = rw (handed-on c.from_residual.result c.from_residual.ensures.1) (node-not _ _ _ _ (refused-node _ _ _ _ (c.open.ensures.refused _ c.in_err-opened.was)))
