-- A row's opening is the cell of its position, from where the search goes on; and what stands in a hole is what the walker's move inward leads to.
-- Assumes nothing.
use Prim.Native.Nat.{ℕ, ◌+◌, ◌*◌, ◌≤◌}
use native.Mathlib.Omega.{arith}
use mathlib.Core.Path.{◌≡◌, sym, ap, ◌∙◌, subst}
use mathlib.Core.List.{List, ◌∷◌}
use Rattle.std.specs.Prelude.{Some}
use Rattle.std.proofs.lemmas.Option.{none-some, same_Some}
use lib.ListN.{length}
use Rattle.forest.specs.Expression.{Expression, rule_number}
use Rattle.forest.specs.Letter.{Letter}
use Rattle.forest.specs.Place as place
use Rattle.forest.specs.Place.{Cells, cell_row, representative}
use Rattle.forest.specs.Walk.{cell_length, cells_in}
use Rattle.model.specs.Model.{Node, opened, inward}
use Rattle.model.specs.Same.{Same}
use Rattle.work_rows.specs.Rows.{Within}
use Rattle.work_rows.proofs.Rows.{within_wider}
use Rattle.facts.specs.Facts.{row_count, facts_in, In}
use Rattle.facts.specs.Closes.{Closes}
use Rattle.place_cells.specs.declared.Cell.{Cell as Words}
use Rattle.place_cells.specs.Cells.{cell, Lies, place_length}
use Rattle.place_cells.specs.Changes.{add, high, Put, Wrote}
use Rattle.place_cells.proofs.Writes.{length-cells, put-none, put-more, put_as}
use Rattle.move_parts.specs.declared.Change.{Change}
use Rattle.move_parts.specs.declared.Outcome.{Outcome}
use Rattle.move_parts.specs.Moves.{Held, Turns, above_top}
use Rattle.move_parts.specs.Change.{turned_at, entered, spine_side, entry_side, change_node, outcome, Able, AbleChild, AbleTo, Decided}
use Rattle.letter_arrival.specs.declared.Standing.{Standing}
use Rattle.letter_arrival.specs.Arrived.{Stood}
use Rattle.letter_arrival.proofs.Puts.{put-there}
use Rattle.letter_moves.proofs.Stands.{held}
use Rattle.transfer_path.specs.Spot.{Spot}
use Rattle.transfer_seek.specs.Seek.{NodeAt}
use Rattle.transfer_seek.proofs.Seeking.{seek-begins}
use Rattle.transfer_seek.proofs.Openings.{hole-node}
use Rattle.transfer_climb.specs.Climb.{meaning}
use Rattle.transfer_reach.specs.Reach.{Seeking, Reached, RowAt, HoleAt, inward_letter, Writable}
use Rattle.transfer_reach.proofs.Short.{some_tree, row-short, node-short, walked-fit}
use Rattle.transfer_reach.proofs.Turning.{known, represents}
use Rattle.transfer_reach.proofs.Reaching.{followable-kept, reached-after}

-- a row opened
module _ {t s : List ℕ} {k number c i start : ℕ} {x : Spot} (q : RowAt t s k number c i start x) where
  row-few : k + 2 ≤ 3 * row_count t
  row-few =
      let few = row-short q.followable.rows q.stands (some_tree (meaning t c) q.below) in
      let long = ap length q.cells_are in
      let many = length-cells s k in
      omega arith

  pub row_lies : Lies s (k + 1)
  row_lies = let few = row-few in let room = q.followable.room in omega arith

  module _ {over : ℕ} (e : over ≡ (facts_in t).representative c) {w : Words} (is : w ≡ cell (cell_row, number, over, 0)) {s' : List ℕ} {k' : ℕ}
      (p : (k' ≡ high (Some w) k) × Wrote (add (Some w) (cells_in s k)) s s') where
    put-opening : Put ((cell_row, number, over, 0) ∷ cells_in s k) s s' k'
    unfolding add
    put-opening = put_as (ap (λ (y : Words). add (Some y) (cells_in s k)) is) (put-more (Some w) (put-none s k) p)

    pub row-seeks : Seeking t s' k' over i start x
    row-seeks =
        let used = put-opening.0 in
        let begun = seek-begins (known q.followable.counted q.inside) q.stands q.below in
        record {
          followable = followable-kept p.1.within.same_length q.followable;
          some = omega arith;
          inside = rw e (q.followable.counted.closes.represents c q.inside);
          few = q.few;
          sought =
              rw (put-there put-opening, represents q.followable.counted c e)
              (rw (q.cells_are, q.spot_is) at begun);
        }

    pub row_within : Within cell_length (place_length (row_count t)) s s'
    row_within =
        let few = row-few in
        let many = length-cells s k in
        within_wider cell_length (place_length (row_count t)) (omega arith) (omega arith) put-opening.1.within

    pub row-reached : {u : List ℕ} {r : Standing} → Reached t s' u start x r → Reached t s u start x r
    row-reached z = reached-after row_within z

-- a hole
module _ {t s : List ℕ} {k start : ℕ} {x : Spot} (q : HoleAt t s k start x) where
  pub hole-held : Held t s k
  unfolding rule_number
  hole-held =
      let e = Expression.part q.number q.label q.left q.right in
      let same : Same (meaning t start) (Some (e, q.position)) (q.number, cells_in s k) =
      subst (λ (cs : Cells). Same (meaning t start) (Some (e, q.position)) (q.number, cs)) q.cells_are (Same.at q.here) in
      held (record { rows = q.followable.rows; room = q.followable.room; valid = record { position = Some (e, q.position); same = same } })

  inner : (n : Node) × ((inward (facts_in t) (cells_in s k) ≡ Some n) × NodeAt (meaning t start) x n)
  inner =
      subst (λ (v : Spot). (n : Node) × ((inward (facts_in t) (cells_in s k) ≡ Some n) × NodeAt (meaning t start) v n)) q.spot_is
      (rw q.cells_are at (hole-node (facts_in t) (walked-fit q.followable.rows) q.here))

  module _ {y : Outcome} (d : (side : place.Side) → Decided t s k (Letter.child side) y (inward (facts_in t) (cells_in s k))) where
    pub hole-somewhere : y ≡ Outcome.Nowhere → ⊥
    unfolding outcome
    hole-somewhere e = none-some _ (sym (ap (λ (o : Outcome). outcome (facts_in t) inward_letter o s) e) ∙ (d place.Side.left).node ∙ inner.1.0)

    module _ {c : Change} (e : y ≡ Outcome.Node c) where
      leads : change_node (facts_in t) inward_letter c s ≡ inner.0
      unfolding outcome
      leads = same_Some _ _ (sym (ap (λ (o : Outcome). outcome (facts_in t) inward_letter o s) e) ∙ (d place.Side.left).node ∙ inner.1.0)

      there : NodeAt (meaning t start) x (change_node (facts_in t) inward_letter c s)
      there = rw leads inner.1.1

      pub hole-writable : Writable t s c
      unfolding AbleTo
      hole-writable =
          let room = q.followable.room in
          let few = node-short q.followable.rows there in
          record { closes = q.followable.counted.closes; able = subst (AbleTo t s inward_letter) e (d place.Side.left).able; room = omega arith }

      pub hole-reached : {s' : List ℕ} {r : Standing} → Stood (change_node (facts_in t) inward_letter c s) s s' r → Reached t s s' start x r
      hole-reached z =
          let few = node-short q.followable.rows there in
          record {
            node = rw z.there (rw z.wrote.cells there);
            within = within_wider cell_length (place_length (row_count t)) (omega arith) (omega arith) z.wrote.within;
          }

-- a change by its case: what its writer asks, and that it is written so
pub stood-case : (t : List ℕ) {s s' : List ℕ} {x y : Change} {r : Standing} → x ≡ y → Stood (change_node (facts_in t) inward_letter y s) s s' r
    → Stood (change_node (facts_in t) inward_letter x s) s s' r
stood-case t {s} {s'} {r = r} e z = subst (λ (y : Change). Stood (change_node (facts_in t) inward_letter y s) s s' r) (sym e) z

module _ {t s : List ℕ} {x : Change} (q : Writable t s x) where
  pub turn-asks : {keep v : ℕ} → x ≡ Change.Turn keep v
      → Turns t s keep place.Side.right × (v ≡ above_top t s keep place.Side.right)
      × Lies s (length (turned_at (facts_in t) place.Side.right v (cells_in s keep)).1)
  unfolding Able AbleChild change_node spine_side
  turn-asks e = let k = subst (Writable t s) e q in (k.able.0, k.able.1, k.room)

  pub row-asks : {keep number over : ℕ} → x ≡ Change.Row keep number over
      → Closes t × In t over × Lies s (length (entered (facts_in t) place.Side.left number over (cells_in s keep)).1)
  unfolding Able AbleChild change_node entry_side
  row-asks e = let k = subst (Writable t s) e q in (k.closes, k.able, k.room)

  pub spine-asks : {keep tree : ℕ} → x ≡ Change.Spine keep tree → Closes t × In t tree × Lies s (length (opened (facts_in t) tree (cells_in s keep)).1)
  unfolding Able AbleChild change_node
  spine-asks e = let k = subst (Writable t s) e q in (k.closes, k.able, k.room)
