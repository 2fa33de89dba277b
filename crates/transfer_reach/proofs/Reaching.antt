-- The search within a row keeps what it looks for (`Looking`), turn by turn, until the rule is the tree's, which is opened. Assumes nothing.
use Rattle.std.specs.Prelude.{Option, None}
use Prim.Native.Nat.{ℕ, ◌+◌, ◌<◌}
use native.Mathlib.Omega.{arith}
use mathlib.Core.Path.{◌≡◌, ap, ◌∙◌}
use mathlib.Core.List.{List}
use lib.ListN.{length}
use Rattle.forest.specs.Place.{step}
use Rattle.forest.specs.Walk.{cell_length, cells_in}
use Rattle.forest.specs.Sizes.{height}
use Rattle.forest.proofs.Bound.{length-step}
use Rattle.forest.proofs.Unfold.{rule_number-expression}
use Rattle.model.specs.Model.{opened}
use Rattle.work_rows.specs.Rows.{Within}
use Rattle.work_rows.proofs.Rows.{within_both, within_wider}
use Rattle.side.specs.declared.Side.{Side}
use Rattle.side.specs.Side.{side_of}
use Rattle.facts.specs.Facts.{row_count, facts_in, In}
use Rattle.facts.specs.Closes.{Closes}
use Rattle.place_cells.specs.Cells.{Lies, place_length}
use Rattle.place_cells.specs.Changes.{Put}
use Rattle.place_cells.proofs.Writes.{length-cells}
use Rattle.letter_arrival.specs.declared.Standing.{Standing}
use Rattle.letter_arrival.specs.Arrived.{Stood}
use Rattle.letter_arrival.proofs.Puts.{put-there}
use Rattle.letter_moves.specs.Standing.{rules_kept}
use Rattle.transfer_path.specs.Spot.{Spot}
use Rattle.transfer_seek.specs.Seek.{TreeAt, NodeAt}
use Rattle.transfer_seek.proofs.Openings.{tree_node}
use Rattle.transfer_climb.specs.Climb.{meaning}
use Rattle.transfer_reach.specs.declared.Turn.{Turn}
use Rattle.transfer_reach.specs.Reach.{Followable, Seeking, Somewhere, StepOn, Turns, Reached}
use Rattle.transfer_reach.proofs.Short.{some_tree, row-short, node-short, walked-fit}

-- room for one cell more
pub step_room : {t s : List ℕ} {k a i start : ℕ} {x : Spot} → Seeking t s k a i start x → (0 < k) × Lies s (k + 1)
step_room {t} {s} {k} {a} q =
    let T = q.followable.rows in
    let room = q.followable.room in
    let few = row-short T q.sought.stands (some_tree (meaning t a) q.sought.below) in
    let long = ap length q.sought.cells_are ∙ length-cells s k in
    (q.some, omega arith)

-- the search after some turns
pub record Looking (t s : List ℕ) (k a i : ℕ) (s' : List ℕ) (k' a' i' : ℕ) : Type 0 where
  pub keeps : (start : ℕ) (x : Spot) → Seeking t s k a i start x → Seeking t s' k' a' i' start x
  pub within : Within cell_length (place_length (row_count t)) s s'

pub followable-kept : {t s s' : List ℕ} {start : ℕ} → length s' ≡ length s → Followable t s start → Followable t s' start
followable-kept e f = let room = f.room in record { rows = f.rows; counted = f.counted; room = omega arith }

step-seeks : {t s s' : List ℕ} {k k' a i to rest start : ℕ} {side : Side} {x : Spot} → StepOn t a i side to rest
    → Put (step (side_of side) a to (cells_in s k)) s s' k' → Seeking t s k a i start x → Seeking t s' k' to rest start x
step-seeks {t} {s} {s'} {k} {k'} {a} {to = to} {start = start} {side = side} {x = x} o p q =
    let long = length-cells s k in
    let more = (length-step (side_of side) a to (cells_in s k)).0 in
    let some = q.some in
    let used = p.0 in
    record {
      followable = followable-kept p.1.within.same_length q.followable;
      some = omega arith;
      inside = o.inside;
      few = o.few;
      sought = rw (put-there p) (o.keeps (meaning t start) (cells_in s k) x q.sought);
    }

step-within : {t s s' : List ℕ} {k k' a i start : ℕ} (side : Side) (to : ℕ) {x : Spot} → Put (step (side_of side) a to (cells_in s k)) s s' k'
    → Seeking t s k a i start x → Within cell_length (place_length (row_count t)) s s'
step-within {t} {s} {k = k} {a = a} side to p q =
    let T = q.followable.rows in
    let long = ap length q.sought.cells_are ∙ length-cells s k in
    let few = row-short T q.sought.stands (some_tree (meaning t a) q.sought.below) in
    let most = (length-step (side_of side) a to (cells_in s k)).1 in
    let many = length-cells s k in
    within_wider cell_length (place_length (row_count t)) (omega arith) (omega arith) p.1.within

pub looking-more : {t s₀ s s' : List ℕ} {k₀ a₀ i₀ k k' a i to rest : ℕ} {side : Side} → Somewhere t s₀ k₀ a₀ i₀ → Looking t s₀ k₀ a₀ i₀ s k a i
    → StepOn t a i side to rest
    → Put (step (side_of side) a to (cells_in s k)) s s' k' → Looking t s₀ k₀ a₀ i₀ s' k' to rest
looking-more {to = to} {side = side} m l o p =
    record {
      keeps = λ start x q. step-seeks o p (l.keeps start x q);
      within = within_both l.within (step-within side to p (l.keeps m.start m.spot m.seeking));
    }

pub looking-lower : {t s₀ s : List ℕ} {k₀ a₀ i₀ k a i to rest : ℕ} {side : Side} → Somewhere t s₀ k₀ a₀ i₀ → Looking t s₀ k₀ a₀ i₀ s k a i
    → StepOn t a i side to rest
    → height (meaning t to) < height (meaning t a)
looking-lower {t} {s = s} {k = k} m l o = o.lower (meaning t m.start) (cells_in s k) m.spot (l.keeps m.start m.spot m.seeking).sought

-- where it stands, and the tree there
pub looking-here : {t s₀ s : List ℕ} {k₀ a₀ i₀ k a i : ℕ} (m : Somewhere t s₀ k₀ a₀ i₀) → Looking t s₀ k₀ a₀ i₀ s k a i
    → Seeking t s k a i m.start m.spot
looking-here m l = l.keeps m.start m.spot m.seeking

module _ {t s : List ℕ} {k a i start : ℕ} {x : Spot} (q : Seeking t s k a i start x) (tree : TreeAt (meaning t) (meaning t start) a (cells_in s k) x) where
  root : NodeAt (meaning t start) x (opened (facts_in t) a (cells_in s k))
  root =
      let n = tree_node (facts_in t) (walked-fit q.followable.rows) tree.row tree.stands in
      rw (rule_number-expression (rules_kept t) a, tree.cells_are, tree.spot_is) at n

  tree-room : Closes t × In t a × Lies s (length (opened (facts_in t) a (cells_in s k)).1)
  tree-room =
      let room = q.followable.room in
      let few = node-short q.followable.rows root in
      (q.followable.counted.closes, q.inside, omega arith)

  tree-reached : {s' : List ℕ} {r : Standing} → Stood (opened (facts_in t) a (cells_in s k)) s s' r → Reached t s s' start x r
  tree-reached {s'} {r} z =
      let few = node-short q.followable.rows root in
      record {
        node = rw z.there (rw z.wrote.cells root);
        within = within_wider cell_length (place_length (row_count t)) (omega arith) (omega arith) z.wrote.within;
      }

pub reached-after : {t s₀ s s' : List ℕ} {start : ℕ} {x : Spot} {r : Standing} → Within cell_length (place_length (row_count t)) s₀ s
    → Reached t s s' start x r → Reached t s₀ s' start x r
reached-after w z = record { node = z.node; within = within_both w z.within }

pub looking-room : {t s₀ s : List ℕ} {k₀ a₀ i₀ k a i : ℕ} {y : Option Turn} → Somewhere t s₀ k₀ a₀ i₀
    → Looking t s₀ k₀ a₀ i₀ s k a i → Turns t a i y → y ≡ None → Closes t × In t a × Lies s (length (opened (facts_in t) a (cells_in s k)).1)
looking-room {s = s} {k = k} m l y e =
    let here = looking-here m l in
    tree-room here (y.tree e m.start here.followable.rows (cells_in s k) m.spot here.sought)

pub looking-ends : {t s₀ s s' : List ℕ} {k₀ a₀ i₀ k a i : ℕ} {y : Option Turn} {r : Standing} → Looking t s₀ k₀ a₀ i₀ s k a i
    → Turns t a i y → y ≡ None → Stood (opened (facts_in t) a (cells_in s k)) s s' r
    → (start : ℕ) (x : Spot) → Seeking t s₀ k₀ a₀ i₀ start x → Reached t s₀ s' start x r
looking-ends {s = s} {k = k} l y e z start x q =
    let here = l.keeps start x q in
    reached-after l.within (tree-reached here (y.tree e start here.followable.rows (cells_in s k) x here.sought) z)
