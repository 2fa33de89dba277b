-- Each return is a clause of `standing`. Assumes nothing.
use mathlib.Core.Path.{◌≡◌, sym, ap, ◌∙◌}
use native.Mathlib.Omega.{arith}
use Rattle.forest.specs.Place.{cell_spine}
use Rattle.forest.specs.Walk.{cell_at}
use Rattle.model.specs.Model.{outer}
use Rattle.facts.specs.Facts.{facts_in}
use Rattle.place_cells.proofs.Stack.{top-kind, top_one, top-two}
use Rattle.move_parts.proofs.Held.{held-top}
use Rattle.move_parts.proofs.Turns.{stands-none, stands-spine, stands-else}
use Rattle.move_parts.proofs.standing.Goals as goal

pub returns-then-k-eq0 : goal.returns-then-k-eq0
returns-then-k-eq0 c = sym (stands-none c.args.cursor.now c.args.k (facts_in c.args.work.now) c.if-k-eq0.true)

pub outer_at-requires : goal.outer_at-requires
outer_at-requires c = let e : (cell_at c.args.cursor.now c.args.k).0 ≡ cell_spine = sym (top-kind c.read-top.ensures) ∙ c.if-top-eq-SPINE.true in
    rw (top_one c.read-top.ensures) ((held-top c.requires (omega arith)).one (λ q. omega arith))

pub returns-then-top-eq-SPINE : goal.returns-then-top-eq-SPINE
returns-then-top-eq-SPINE c = let F = facts_in c.args.work.now in
    c.outer_at.ensures ∙ ap (outer F) (top_one c.read-top.ensures) ∙ sym (stands-spine c.args.cursor.now c.args.k F (omega arith) (sym (top-kind c.read-top.ensures) ∙ c.if-top-eq-SPINE.true))

pub returns : goal.returns
returns c = top-two c.read-top.ensures ∙ sym (stands-else c.args.cursor.now c.args.k (facts_in c.args.work.now) (omega arith) (λ q. c.if-top-eq-SPINE.false (top-kind c.read-top.ensures ∙ q)))
