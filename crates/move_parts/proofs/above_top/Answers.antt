-- The kind of the cell on top decides. Assumes nothing.
use Prim.Native.Nat.{ℕ}
use mathlib.Core.Path.{◌≡◌, sym, ap, ◌∙◌}
use native.Mathlib.Omega.{arith}
use Rattle.forest.specs.Place.{cell_run}
use Rattle.forest.specs.Sides.{other}
use Rattle.forest.specs.Walk.{cell_at}
use Rattle.model.specs.Model.{one_above}
use Rattle.facts.specs.Facts.{facts_in}
use Rattle.side.specs.Side.{side_of}
use Rattle.place_cells.proofs.Stack.{top-kind, top_one, top-two}
use Rattle.std.specs.Prelude.{Some, None}
use Rattle.move_parts.specs.Moves.{Turns}
use Rattle.move_parts.proofs.Held.{turns-one, turns-two}
use Rattle.move_parts.proofs.Turns.{beside_none, beside-other}
use Rattle.move_parts.proofs.above_top.Goals as goal

not-off : {A : Type 0} (v : ℕ) → None ≡ Some v → A
not-off v q = let z : ◌≡◌ {A = ℕ} 0 1 = cc q in absurd (omega arith)

same-rule : (u v : ℕ) → Some u ≡ Some v → v ≡ u
same-rule u v q = cc q

pub returns-then-k-eq0 : goal.returns-then-k-eq0
returns-then-k-eq0 c = let a = c.args in
    record { turns = λ v q. not-off v q; off = λ q. beside_none (facts_in a.work.now) a.cursor.now a.k (side_of a.side) c.if-k-eq0.true }

pub one_above-requires : goal.one_above-requires
one_above-requires c = let a = c.args in
    let h : Turns a.work.now a.cursor.now a.k (side_of a.side) = record { held = c.requires; some = omega arith; kind = sym (top-kind c.read-top.ensures) ∙ c.if-top-run_kind.true ∙ c.run_kind.ensures ∙ ap cell_run c.other-back.ensures } in
    (c.requires.climbs, rw (top_one c.read-top.ensures) (turns-one h), rw (top-two c.read-top.ensures) (turns-two h))

pub returns-then-top-run_kind : goal.returns-then-top-run_kind
returns-then-top-run_kind c = let a = c.args in let F = facts_in a.work.now in
    record {
      turns = λ v q. (
        record { held = c.requires; some = omega arith; kind = sym (top-kind c.read-top.ensures) ∙ c.if-top-run_kind.true ∙ c.run_kind.ensures ∙ ap cell_run c.other-back.ensures },
        same-rule c.one_above.result v q ∙ c.one_above.ensures.0 ∙ (λ i. one_above F (c.other-back.ensures i) (top_one c.read-top.ensures i) (top-two c.read-top.ensures i)),
      );
      off = λ q. not-off c.one_above.result (sym q);
    }

pub returns : goal.returns
returns c = let a = c.args in
    let e : (cell_at a.cursor.now a.k).0 ≡ cell_run (other (side_of a.side)) → ⊥ = λ q. c.if-top-run_kind.false (top-kind c.read-top.ensures ∙ q ∙ sym (ap cell_run c.other-back.ensures) ∙ sym c.run_kind.ensures) in
    record { turns = λ v q. not-off v q; off = λ q. beside-other a.work.now a.cursor.now a.k (side_of a.side) (omega arith) e }
