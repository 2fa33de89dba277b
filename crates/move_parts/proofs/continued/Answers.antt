-- Each return is a case of `continuing`. Assumes nothing.
use Prim.Native.Nat.{ℕ, ◌<◌}
use mathlib.Core.Path.{◌≡◌, sym, ap, ◌∙◌}
use mathlib.Core.List.{List}
use native.Mathlib.Omega.{arith}
use Rattle.std.specs.Prelude.{option_map}
use Rattle.forest.specs.Place.{cell_spine}
use Rattle.forest.specs.Walk.{cell_at, cells_in}
use Rattle.rule.specs.declared.Rule.{Rule}
use Rattle.model.specs.Facts.{Facts}
use Rattle.place_cells.specs.declared.Cell.{Cell as Words}
use Rattle.place_cells.specs.Cells.{cell}
use Rattle.model.specs.Model.{opened, inner_of, continuing}
use Rattle.facts.specs.Facts.{facts_in, In}
use Rattle.move_parts.specs.declared.Change.{Change}
use Rattle.move_parts.specs.Change.{Able, AbleChild, change_node, keep_of}
use Rattle.place_cells.proofs.Stack.{top-kind, top_one}
use Rattle.move_parts.proofs.Held.{held-top}
use Rattle.facts.proofs.Closes.{named-inner}
use Rattle.facts.proofs.Rules.{other-inner}
use Rattle.move_parts.proofs.Outcomes.{decided, decided-none, continuing-none, continuing-other, continuing-spine}
use Rattle.move_parts.proofs.continued.Goals as goal

-- the tree that the spine opened by the j-th cell continues in, read off that cell
continues : (F : Facts) (s : List ℕ) (j : ℕ) {x : Words} {r : Rule} → 0 < j → x ≡ cell (cell_at s j) → x.kind ≡ cell_spine → r ≡ F.rule x.one
    → continuing F (cells_in s j) ≡ inner_of r
continues F s j some read spine its = continuing-spine F s j some (sym (top-kind read) ∙ spine) ∙ ap inner_of (sym (its ∙ ap F.rule (top_one read)))

pub returns-then-j-eq0 : goal.returns-then-j-eq0
returns-then-j-eq0 c d = let a = c.args in let F = facts_in a.work.now in let cs = cells_in a.cursor.now a.k in
    decided-none (sym (ap (option_map (λ (v : ℕ). opened F v cs)) (continuing-none F a.cursor.now a.j c.if-j-eq0.true)))

pub returns-then-top-ne-SPINE : goal.returns-then-top-ne-SPINE
returns-then-top-ne-SPINE c d = let a = c.args in let F = facts_in a.work.now in let cs = cells_in a.cursor.now a.k in
    decided-none (sym (ap (option_map (λ (v : ℕ). opened F v cs)) (continuing-other F a.cursor.now a.j (omega arith) (λ q. c.if-top-ne-SPINE.true (top-kind c.read-top.ensures ∙ q)))))

pub rule_at-requires : goal.rule_at-requires
rule_at-requires c = let e : (cell_at c.args.cursor.now c.args.j).0 ≡ cell_spine = sym (top-kind c.read-top.ensures) ∙ c.if-top-ne-SPINE.false in
    rw (top_one c.read-top.ensures) ((held-top c.requires (omega arith)).one (λ q. omega arith))

pub returns-in_default : goal.returns-in_default
returns-in_default c d = let a = c.args in let F = facts_in a.work.now in let cs = cells_in a.cursor.now a.k in
    decided-none (sym (ap (option_map (λ (v : ℕ). opened F v cs)) (continues F a.cursor.now a.j (omega arith) c.read-top.ensures c.if-top-ne-SPINE.false c.rule_at.ensures ∙ other-inner c.rule_at.result c.in_default.not-Fill)))

pub returns : goal.returns
unfolding inner_of change_node Able AbleChild keep_of
returns c d = let h = c.requires in
    let a = c.args in let F = facts_in a.work.now in let s = a.cursor.now in let cs = cells_in s a.k in
    let top = cell_at s a.j in
    let read = c.read-top.ensures in
    let e : top.0 ≡ cell_spine = sym (top-kind read) ∙ c.if-top-ne-SPINE.false in
    decided (Change.Spine a.k c.in-Fill.inner)
    (sym (ap (option_map (λ (v : ℕ). opened F v cs)) (continues F a.cursor.now a.j (omega arith) c.read-top.ensures c.if-top-ne-SPINE.false c.rule_at.ensures ∙ ap inner_of c.in-Fill.is)))
    (named-inner (In a.work.now) (sym (c.rule_at.ensures ∙ ap F.rule (top_one read)) ∙ c.in-Fill.is) (h.rows.names top.1 ((held-top h (omega arith)).one (λ q. omega arith)))) (omega arith)
