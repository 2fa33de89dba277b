-- Above the forest nowhere, else the node itself. Assumes nothing.
use Prim.Native.Nat.{ℕ}
use mathlib.Core.Path.{◌≡◌, sym, ap, ◌∙◌}
use Rattle.forest.specs.Letter.{Letter}
use Rattle.model.specs.Walk.{move}
use Rattle.letter.specs.Letter.{move_of}
use Rattle.move_parts.specs.declared.Change.{Change}
use Rattle.move_parts.specs.declared.Outcome.{Outcome}
use Rattle.move_parts.specs.Change.{keep_of}
use Rattle.move_parts.proofs.Outcomes.{took, took-none}
use Rattle.letter_moves.proofs.Stands.{from-none, from-cells, stepped_kept, stepped-node, arriving}
use Rattle.letter_moves.proofs.to_same.Goals as goal

kept-number : {r : Outcome} {k p : ℕ} {x : Change} → r ≡ Outcome.Node (Change.Kept k p) → r ≡ Outcome.Node x → keep_of x ≡ k
unfolding keep_of
kept-number {r} {k} {p} {x} e q = let z : Change.Kept k p ≡ x = cc (sym e ∙ q) in ap keep_of (sym z)

pub returns-then-at-eq0 : goal.returns-then-at-eq0
unfolding move move_of
returns-then-at-eq0 c = let a = c.args in stepped_kept c.requires _ c.kept.ensures (sym (from-none a.cursor.now a.at.used _ c.if-at-eq0.true))

pub returns-in_default : goal.returns-in_default
unfolding move move_of
returns-in_default c = let a = c.args in
    stepped_kept c.requires _ c.kept-in_default.ensures (sym (from-cells a.cursor.now a.at.used _ c.if-at-eq0.false) ∙ took-none (c.stay.ensures.1 a.rows.now a.cursor.now) c.in_default.is)

pub arrive_same-requires : goal.arrive_same-requires
unfolding move move_of
arrive_same-requires c = let a = c.args in
    (arriving c.requires Letter.stay (sym (from-cells a.cursor.now a.at.used _ c.if-at-eq0.false)) (took (c.stay.ensures.1 a.rows.now a.cursor.now) c.in-Node.is), kept-number c.stay.ensures.0 c.in-Node.is)

pub returns : goal.returns
unfolding move move_of
returns c = let a = c.args in
    stepped-node c.requires _ (sym (from-cells a.cursor.now a.at.used _ c.if-at-eq0.false) ∙ (took (c.stay.ensures.1 a.rows.now a.cursor.now) c.in-Node.is).0) c.arrive_same.ensures
