-- The part in whose hole the node stands, else the node below its row. Assumes nothing.
use Prim.Native.Nat.{ℕ, ◌-◌}
use mathlib.Core.Path.{refl, sym, ap, ◌∙◌}
use native.Mathlib.Omega.{arith}
use Rattle.forest.specs.Walk.{cells_in}
use Rattle.model.specs.Model.{below_row, node_at}
use Rattle.facts.specs.Facts.{facts_in}
use Rattle.place_cells.proofs.Stack.{tail-cells}
use Rattle.row_links.proofs.Linking.{row-most}
use Rattle.row_links.proofs.Pieces.{below-linked}
use Rattle.move_parts.specs.declared.Change.{Change}
use Rattle.move_parts.specs.Change.{spine_side, change_node, Able, AbleParent, keep_of}
use Rattle.move_parts.proofs.Held.{held-less}
use Rattle.move_parts.proofs.Outcomes.{found_turn, found-kept, found_none, decided, decided-is, decided-more, parent-part, parent-off}
use Rattle.moves.proofs.parent.Goals as goal

pub node_at-requires : goal.node_at-requires
node_at-requires c = let u = c.under.result in let s = c.args.cursor.now in
    held-less c.requires.0 _ (omega (arith, c.tail.ensures.0, c.row_under.ensures, row-most s u, c.under.ensures.0))

pub returns-in-Turn : goal.returns-in-Turn
unfolding spine_side change_node Able AbleParent keep_of
returns-in-Turn c = let a = c.args in let F = facts_in a.work.now in let s = a.cursor.now in let cs = cells_in s a.k in
    let part = found_turn c.outward.ensures c.in-Turn.is in
    decided (Change.Turn c.in-Turn.keep c.in-Turn.above) (sym (parent-part F a.p cs part.0)) part.1 part.2

pub returns-in-Kept : goal.returns-in-Kept
unfolding change_node Able AbleParent keep_of
returns-in-Kept c = let a = c.args in let F = facts_in a.work.now in let s = a.cursor.now in let cs = cells_in s a.k in
    let part = found-kept c.outward.ensures c.in-Kept.is in
    decided (Change.Kept c.in-Kept.keep c.in-Kept.rule) (sym (parent-part F a.p cs part.0)) tt part.1

pub returns-in-Off : goal.returns-in-Off
returns-in-Off c = let a = c.args in let F = facts_in a.work.now in let s = a.cursor.now in let cs = cells_in s a.k in
    let u = c.under.result in
    decided-more _ (omega (arith, c.tail.ensures.0, c.row_under.ensures, row-most s u, c.under.ensures.0))
    (decided-is refl
    (ap (node_at F) (c.tail.ensures.1 s ∙ tail-cells s c.row_under.result ∙ ap (λ (j : ℕ). cells_in s (j - 1)) c.row_under.ensures ∙ below-linked s u ∙ ap below_row c.under.ensures.1)
    ∙ sym (parent-off F a.p cs (found_none c.outward.ensures c.in-Off.is)))
    c.node_at.ensures)
