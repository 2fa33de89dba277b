-- No cells, no node; else the rule that they stand at. Assumes nothing.
use Prim.Native.Nat.{ℕ}
use mathlib.Core.Path.{sym, ap, ◌∙◌}
use native.Mathlib.Omega.{arith}
use Rattle.std.specs.Prelude.{Some}
use Rattle.forest.specs.Walk.{cells_in}
use Rattle.model.specs.Model.{Node}
use Rattle.facts.specs.Facts.{facts_in}
use Rattle.move_parts.specs.declared.Change.{Change}
use Rattle.move_parts.specs.Change.{change_node, Able, AbleParent, keep_of}
use Rattle.move_parts.proofs.Outcomes.{decided, decided-none, node-none, node-here}
use Rattle.moves.proofs.node_at.Goals as goal

pub returns-then-k-eq0 : goal.returns-then-k-eq0
returns-then-k-eq0 c = let a = c.args in
    decided-none (sym (node-none (facts_in a.work.now) a.cursor.now a.k c.if-k-eq0.true))

pub returns : goal.returns
unfolding change_node Able AbleParent keep_of
returns c = let a = c.args in let F = facts_in a.work.now in let s = a.cursor.now in let cs = cells_in s a.k in
    decided (Change.Kept a.k c.standing-rule.result) (ap (λ (v : ℕ). let n : Node = (v, cs) in Some n) c.standing-rule.ensures ∙ sym (node-here F s a.k (omega arith))) tt (omega arith)
