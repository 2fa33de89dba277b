-- The loop's invariant: the state is that of the first i cells. Assumes nothing.
use Prim.Native.Nat.{ℕ, suc}
use mathlib.Core.Path.{◌≡◌, refl, ap, ◌∙◌}
use native.Mathlib.Omega.{arith}
use native.Mathlib.Numerals.{add-one}
use Rattle.forest.specs.Walk.{cell_at, cells_in}
use Rattle.model.specs.Stored.{form_of, next, state_after, ends_well, accepts}
use Rattle.facts.specs.Facts.{facts_in, In}
use Rattle.place_cells.specs.Cells.{words, cell}
use Rattle.place_check.specs.States.{state_of}
use Rattle.place_check.proofs.States.{after-has}
use Rattle.place_check.proofs.accepts.Goals as goal

pub loop-i-init : goal.loop-i-init
unfolding state_after cells_in
loop-i-init c = refl

pub next-state-requires : goal.next-state-requires
next-state-requires c = let a = c.args in let h = c.requires in let t = a.work.now in
    (h.0, h.1, h.2, rw c.loop-i.invariant (after-has (facts_in t) (In t) h.0 a.r (cells_in a.cursor.now c.loop-i.i) h.2))

pub loop-i-preserved : goal.loop-i-preserved
unfolding state_after cells_in
loop-i-preserved c = let a = c.args in let F = facts_in a.work.now in let s = a.cursor.now in let i = c.loop-i.i in
    let read : c.read.result ≡ cell (cell_at s (suc i)) = c.read.ensures ∙ ap (λ (m : ℕ). cell (cell_at s m)) (add-one i) in
    let e : state_of c.next-state.result ≡ state_after F a.r (cells_in s (suc i)) = c.next-state.ensures ∙ (λ j. next F a.r (c.loop-i.invariant j) (form_of (words (read j)))) in
    rw add-one e

pub ends_well-requires : goal.ends_well-requires
ends_well-requires c = let a = c.args in let h = c.requires in let t = a.work.now in
    rw c.loop-i.invariant (after-has (facts_in t) (In t) h.0 a.r (cells_in a.cursor.now c.loop-i.i) h.2)

pub returns : goal.returns
unfolding accepts
returns c = let a = c.args in let F = facts_in a.work.now in
    let all : c.loop-i.i ≡ a.k = omega arith in
    c.ends_well.ensures ∙ ap (ends_well F) (c.loop-i.invariant ∙ ap (λ (j : ℕ). state_after F a.r (cells_in a.cursor.now j)) all)
