-- The run is gone or one step shorter, and each way is a law. Assumes nothing.
use Prim.Native.Nat.{ℕ, ◌-◌, ◌<◌}
use mathlib.Core.Bool.{Bool, true, false, ◌&&◌, and-eq-true_iff, false≢true}
use mathlib.Core.Path.{◌≡◌, ap, sym, ◌∙◌}
use native.Mathlib.Omega.{arith}
use borrow.Author.Tests.{ltb-true, lt-ltb, eqb-true, eq-eqb}
use lib.ListN.{length}
use Rattle.std.specs.Prelude.{Some}
use Rattle.forest.specs.Place.{Side, cell_run, step}
use Rattle.forest.specs.Sides.{other}
use Rattle.forest.specs.Walk.{cell_at, cells_in}
use Rattle.model.specs.Facts.{Facts}
use Rattle.model.specs.Model.{shrunk}
use Rattle.place_cells.specs.declared.Cell.{Cell as Words}
use Rattle.facts.specs.Facts.{facts_in}
use Rattle.side.specs.Side.{side_of}
use Rattle.place_cells.specs.Cells.{cell}
use Rattle.place_cells.specs.Changes.{add, high}
use Rattle.place_cells.proofs.Stack.{top-kind, top_one, top-two, begins, grows-top}
use Rattle.place_cells.proofs.Writes.{cell-within, length-add, put-top, put_as, put-more}
use Rattle.move_parts.proofs.Held.{turns-one, turns-two}
use Rattle.move_parts.proofs.Turns.{steps-gone, steps-short}
use Rattle.letter_arrival.proofs.put_short.Goals as goal

not-both : {A : Type 0} {x y : Bool} → x ≡ true → y ≡ true → (x && y) ≡ false → A
not-both e q h = absurd (false≢true (sym h ∙ (λ i. e i && q i)))

-- a depth that was read, of the side and the rule that it was read for
depth-of : (F : Facts) {side side' : Side} {a b v : ℕ} → v ≡ F.depth side a → side ≡ side' → a ≡ b → v ≡ F.depth side' b
depth-of F e q p = e ∙ (λ i. F.depth (q i) (p i))

pub read-top-requires : goal.read-top-requires
read-top-requires c = c.requires.0.held.lies

pub depth_at-from-requires : goal.depth_at-from-requires
depth_at-from-requires c = rw (top_one c.read-top.ensures) (turns-one c.requires.0)

pub depth_at-end-requires : goal.depth_at-end-requires
depth_at-end-requires c = rw (top-two c.read-top.ensures) (turns-two c.requires.0)

pub write-requires : goal.write-requires
write-requires c = c.requires.0.held.lies

pub push-requires : goal.push-requires
push-requires c = let a = c.args in let h = c.requires in let s = a.cursor.now in let F = facts_in a.work.now in let d = side_of a.side in
    let from = depth-of F c.depth_at-from.ensures c.other-back.ensures (top_one c.read-top.ensures) in
    let end = depth-of F c.depth_at-end.ensures c.other-back.ensures (top-two c.read-top.ensures) in
    let cells : add (Some c.run.result) (add (Some c.shrunk.result) (cells_in s (a.k - 1))) ≡ step d a.above a.to (shrunk F (other d) (cells_in s a.k)) =
    (λ i. add (Some (c.run.ensures i)) (add (Some ((c.shrunk.ensures ∙ ap (λ (y : Words). cell (y.kind, y.one, a.above, y.three)) c.read-top.ensures) i)) (cells_in s (a.k - 1))))
    ∙ steps-short a.work.now s a.k d h.0.some a.above a.to h.1 h.0.kind (omega arith) in
    let some = h.0.some in
    let room = h.2 in
    let long : length (step d a.above a.to (shrunk F (other d) (cells_in s a.k))) ≡ high (Some c.run.result) a.k =
    ap length (sym cells) ∙ length-add (Some c.run.result) (add (Some c.shrunk.result) (cells_in s (a.k - 1)))
    ∙ ap (high (Some c.run.result)) (sym (put-top s a.k c.shrunk.result some h.0.held.lies (record { kind = omega arith; one = omega arith; two = omega arith; three = omega arith })).0) in
    rw c.write.ensures (omega (arith, long, (cell-within s a.k c.shrunk.result).same_length))

pub returns-then-end-from : goal.returns-then-end-from
returns-then-end-from c = let a = c.args in let h = c.requires in let s = a.cursor.now in let F = facts_in a.work.now in let d = side_of a.side in
    let from = depth-of F c.depth_at-from.ensures c.other-back.ensures (top_one c.read-top.ensures) in
    let end = depth-of F c.depth_at-end.ensures c.other-back.ensures (top-two c.read-top.ensures) in
    put_as ((λ i. add (Some (c.run.ensures i)) (add (Some ((c.shrunk.ensures ∙ ap (λ (y : Words). cell (y.kind, y.one, a.above, y.three)) c.read-top.ensures) i)) (cells_in s (a.k - 1))))
    ∙ steps-short a.work.now s a.k d h.0.some a.above a.to h.1 h.0.kind (omega arith))
    (put-more (Some c.run.result)
    (rw c.write.ensures (put-top s a.k c.shrunk.result h.0.some h.0.held.lies (let ok = c.shrunk.type_inv in record { kind = omega (arith, ok); one = omega (arith, ok); two = omega (arith, ok); three = omega (arith, ok) })))
    c.push.ensures)

pub overflow_sub-k : goal.overflow_sub-k
overflow_sub-k c = let some = c.requires.0.some in omega arith

pub read-under-requires : goal.read-under-requires
read-under-requires c = let some = c.requires.0.some in let lies = c.requires.0.held.lies in omega arith

pub overflow_sub-k-then-k-under : goal.overflow_sub-k-then-k-under
overflow_sub-k-then-k-under c = let some = c.requires.0.some in omega arith

pub write-requires-then-k-under : goal.write-requires-then-k-under
write-requires-then-k-under c = let some = c.requires.0.some in let lies = c.requires.0.held.lies in omega arith

pub overflow_sub-result : goal.overflow_sub-result
overflow_sub-result c = let some = c.requires.0.some in omega arith

pub returns-then-k-under : goal.returns-then-k-under
returns-then-k-under c = let a = c.args in let h = c.requires in let s = a.cursor.now in let F = facts_in a.work.now in let d = side_of a.side in
    let from = depth-of F c.depth_at-from.ensures c.other-back.ensures (top_one c.read-top.ensures) in
    let end = depth-of F c.depth_at-end.ensures c.other-back.ensures (top-two c.read-top.ensures) in
    let both = (and-eq-true_iff _ _).0 c.if-k-under.true in
    let more : 1 < a.k = ltb-true _ _ both.0 in
    let lies = h.0.held.lies in
    let kind : (cell_at s (a.k - 1)).0 ≡ cell_run d = sym (top-kind c.read-under.ensures) ∙ eqb-true _ _ both.1 ∙ c.run_kind.ensures in
    let cells : c.grown.result ≡ cell ((cell_at s (a.k - 1)).0, (cell_at s (a.k - 1)).1, a.to, (cell_at s (a.k - 1)).3) = c.grown.ensures ∙ ap (λ (y : Words). cell (y.kind, y.one, a.to, y.three)) c.read-under.ensures in
    put_as (ap (λ (y : Words). add (Some y) (cells_in s (a.k - 1 - 1))) cells ∙ grows-top s (a.k - 1) d (cell_at s a.k).1 a.to (omega arith) kind ∙ steps-gone a.work.now s a.k d h.0.some a.above a.to h.1 (omega arith))
    (rw c.write-then-k-under.ensures (put-top s (a.k - 1) c.grown.result (omega arith) (omega arith) (let ok = c.grown.type_inv in record { kind = omega (arith, ok); one = omega (arith, ok); two = omega (arith, ok); three = omega (arith, ok) })))

pub write-requires-2 : goal.write-requires-2
write-requires-2 c = c.requires.0.held.lies

pub returns : goal.returns
returns c = let a = c.args in let h = c.requires in let s = a.cursor.now in let F = facts_in a.work.now in let d = side_of a.side in
    let from = depth-of F c.depth_at-from.ensures c.other-back.ensures (top_one c.read-top.ensures) in
    let end = depth-of F c.depth_at-end.ensures c.other-back.ensures (top-two c.read-top.ensures) in
    let lies = h.0.held.lies in
    let apart : 0 < a.k - 1 → (cell_at s (a.k - 1)).0 ≡ cell_run d → ⊥ =
    λ more e. not-both (lt-ltb 1 a.k (omega arith)) (eq-eqb _ _ (top-kind c.read-under.ensures ∙ e ∙ sym c.run_kind.ensures)) c.if-k-under.false in
    let cells : c.turned.result ≡ cell (cell_run d, (cell_at s a.k).1, a.to, 0) = c.turned.ensures ∙ ap (λ (y : Words). cell (cell_run d, y.one, a.to, 0)) c.read-top.ensures in
    put_as (ap (λ (y : Words). add (Some y) (cells_in s (a.k - 1))) cells ∙ begins s (a.k - 1) d (cell_at s a.k).1 a.to apart ∙ steps-gone a.work.now s a.k d h.0.some a.above a.to h.1 (omega arith))
    (rw c.write-2.ensures (put-top s a.k c.turned.result h.0.some lies (let ok = c.turned.type_inv in record { kind = omega (arith, ok); one = omega (arith, ok); two = omega (arith, ok); three = omega (arith, ok) })))
