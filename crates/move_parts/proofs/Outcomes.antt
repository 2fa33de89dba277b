-- The moves case by case, as the code takes them: what is found beside, and what each way then leads to.
-- Assumes nothing.
use Prim.Native.Nat.{ℕ, zero, suc, ◌-◌, ◌≤◌, ◌<◌}
use native.Mathlib.Omega.{arith}
use mathlib.Core.Path.{◌≡◌, refl, sym, ap, subst, ◌∙◌}
use mathlib.Core.Bool.{true, false, not, ◌&&◌}
use mathlib.Core.List.{List, ◌∷◌}
use Rattle.std.specs.Prelude.{Option, None, Some, option_map}
use lib.Dec.{eqb}
use borrow.Author.Tests.{eq-eqb, ne_eqb}
use Rattle.std.specs.Prelude.{Some}
use Rattle.forest.proofs.Cases.{by_bool}
use Rattle.forest.specs.Place.{Cells, Side, cell_row, cell_spine, cell_run}
use Rattle.forest.specs.Sides.{other}
use Rattle.forest.specs.Letter.{Letter}
use Rattle.forest.specs.Position.{or_else}
use Rattle.forest.specs.Walk.{cell_at, cells_in}
use Rattle.model.specs.Facts.{Facts}
use Rattle.model.specs.Model.{Node, outer, inner_of, standing, tail, pop_run, run, beside_top, beside, opened, enter, continuing, inward, under, part_at, is_part, outward, below_row, node_at, parent}
use Rattle.model.specs.Neighbour.{is_nil, number_of}
use Rattle.model.proofs.Cells.{top_kind}
use Rattle.move_parts.specs.declared.Reach.{Reach}
use Rattle.move_parts.specs.declared.Change.{Change}
use Rattle.move_parts.specs.declared.Outcome.{Outcome}
use Rattle.facts.specs.Facts.{In, facts_in}
use Rattle.place_cells.specs.Cells.{cell, run_cell}
use Rattle.place_cells.specs.Changes.{add}
use Rattle.move_parts.specs.Moves.{Turning}
use Rattle.move_parts.specs.Change.{turned_at, entered, spine_side, entry_side, change_node, outcome, Able, AbleChild, AbleSibling, AbleTo, keep_of, KeepsFew, Decided, row_outcome, reached, Turned, ReachedOf, Reached}
use Rattle.place_cells.proofs.Stack.{cells-none, cells-top, add-some, run-begins}

-- what an answer of the code says
module _ {t s : List ℕ} {j : ℕ} {r : Reach} {y : Option Node} (h : Reached t s j r y) where
  pub found_turn : {k v : ℕ} → r ≡ Reach.Turn k v → (y ≡ Some (turned_at (facts_in t) Side.left v (cells_in s k))) × Turning t s k Side.left v × (k ≤ j)
  unfolding reached Turned ReachedOf
  found_turn q = (sym h.node ∙ ap (λ (z : Reach). reached (facts_in t) z s) q, subst (Turned t s) q h.turned, subst (ReachedOf j) q h.keeps)

  pub found-kept : {k a : ℕ} → r ≡ Reach.Kept k a → (y ≡ Some (a, cells_in s k)) × (k ≤ j)
  unfolding reached ReachedOf
  found-kept q = (sym h.node ∙ ap (λ (z : Reach). reached (facts_in t) z s) q, subst (ReachedOf j) q h.keeps)

  pub found_none : r ≡ Reach.Off → y ≡ None
  unfolding reached
  found_none q = sym h.node ∙ ap (λ (z : Reach). reached (facts_in t) z s) q

-- from more cells, and of the same node
pub reached-more : {t s : List ℕ} {j k : ℕ} {y y' : Option Node} → j ≤ k → y ≡ y' → (r : Reach) → Reached t s j r y → Reached t s k r y'
unfolding ReachedOf
reached-more b e Reach.Off h = record { node = h.node ∙ e; turned = h.turned; keeps = tt }
reached-more b e (Reach.Turn i v) h = record { node = h.node ∙ e; turned = h.turned; keeps = let c = h.keeps in omega arith }
reached-more b e (Reach.Kept i a) h = record { node = h.node ∙ e; turned = h.turned; keeps = let c = h.keeps in omega arith }

module _ {t s : List ℕ} {k : ℕ} {l : Letter} {r : Outcome} {y : Option Node} (h : Decided t s k l r y) where
  pub took : {x : Change} → r ≡ Outcome.Node x → (y ≡ Some (change_node (facts_in t) l x s)) × Able t s l x × (keep_of x ≤ k)
  unfolding outcome AbleTo KeepsFew
  took q = (sym h.node ∙ ap (λ (z : Outcome). outcome (facts_in t) l z s) q, subst (AbleTo t s l) q h.able, subst (KeepsFew k) q h.keeps)

  pub took-none : r ≡ Outcome.Nowhere → y ≡ None
  unfolding outcome
  took-none q = sym h.node ∙ ap (λ (z : Outcome). outcome (facts_in t) l z s) q

-- a decision to a node, and to nowhere
pub decided : {t s : List ℕ} {k : ℕ} {l : Letter} (x : Change) {y : Option Node} → Some (change_node (facts_in t) l x s) ≡ y → Able t s l x → keep_of x ≤ k → Decided t s k l (Outcome.Node x) y
unfolding outcome AbleTo KeepsFew
decided x e a b = record { node = e; able = a; keeps = b }

pub decided-none : {t s : List ℕ} {k : ℕ} {l : Letter} {y : Option Node} → None ≡ y → Decided t s k l Outcome.Nowhere y
unfolding outcome AbleTo KeepsFew
decided-none e = record { node = e; able = tt; keeps = tt }

pub decided-is : {t s : List ℕ} {k : ℕ} {l : Letter} {r r' : Outcome} {y y' : Option Node} → r ≡ r' → y ≡ y' → Decided t s k l r' y → Decided t s k l r y'
decided-is {t} {s} {k} {l} e q h = rw (e, sym q) h

-- from more cells
pub decided-more : {t s : List ℕ} {j k : ℕ} {l : Letter} (r : Outcome) {y : Option Node} → j ≤ k → Decided t s j l r y → Decided t s k l r y
unfolding KeepsFew
decided-more Outcome.Nowhere b h = record { node = h.node; able = h.able; keeps = tt }
decided-more (Outcome.Node x) b h = record { node = h.node; able = h.able; keeps = let c = h.keeps in omega arith }

-- what leads down leads on from a sibling too, whose row is entered from the other side
pub down-beside : {t s : List ℕ} {k : ℕ} (d : Side) (r : Outcome) {y : Option Node} → Decided t s k (Letter.child (other d)) r y → Decided t s k (Letter.sibling d) r y
unfolding outcome AbleTo Able AbleChild AbleSibling change_node spine_side entry_side
down-beside d Outcome.Nowhere h = decided-none h.node
down-beside d (Outcome.Node (Change.Kept k a)) h = absurd h.able
down-beside d (Outcome.Node (Change.Turn k v)) h = record { node = h.node; able = h.able; keeps = h.keeps }
down-beside d (Outcome.Node (Change.Tree k v)) h = absurd h.able
down-beside d (Outcome.Node (Change.Beside k v n o)) h = absurd h.able
down-beside d (Outcome.Node (Change.Row k n o)) h = record { node = h.node; able = h.able; keeps = h.keeps }
down-beside d (Outcome.Node (Change.Spine k a)) h = record { node = h.node; able = h.able; keeps = h.keeps }

-- one of two answers
pub else-some : {x : Option Node} {y : Node} (z : Option Node) → x ≡ Some y → or_else x z ≡ Some y
unfolding or_else
else-some z e = rw e

pub else-none : {x : Option Node} (z : Option Node) → x ≡ None → or_else x z ≡ z
unfolding or_else
else-none z e = rw e

-- a run on a row's or a spine's opening is a cell of its own
row-no-run : (s : Side) → eqb cell_row (cell_run s) ≡ false
unfolding cell_run
row-no-run Side.left = refl
row-no-run Side.right = refl

spine-no-run : (s : Side) → eqb cell_spine (cell_run s) ≡ false
unfolding cell_run
spine-no-run Side.left = refl
spine-no-run Side.right = refl

lowest : (s : List ℕ) (k : ℕ) → k ≤ 1 → is_nil (tail (cells_in s k)) ≡ true
unfolding tail is_nil cells_in
lowest s zero h = refl
lowest s (suc k) h = rw (let e : k ≡ 0 = omega arith in e)

-- the row that cells end with: the lowest, or one with a number on what lies below
pub end-lowest : (s : List ℕ) (k d : ℕ) → k ≤ 1 → (not (is_nil (tail (cells_in s k))) && eqb (number_of (cells_in s k)) d) ≡ false
end-lowest s k d h = rw (lowest s k h)

pub end-number : (s : List ℕ) (k d : ℕ) → 1 < k → (not (is_nil (tail (cells_in s k))) && eqb (number_of (cells_in s k)) d) ≡ eqb (cell_at s k).1 d
unfolding tail is_nil number_of
end-number s k d h = rw (cells-top s k (omega arith), cells-top s (k - 1) (omega arith))

module _ (F : Facts) where
  pub opened-cells : (a : ℕ) (cs : Cells) → ◌≡◌ {A = Node} (F.last Side.left (outer F a), add (run_cell F Side.left (outer F a)) (add (Some (cell (cell_spine, a, 0, 0))) cs)) (opened F a cs)
  unfolding opened top_kind
  opened-cells a cs =
      ap (λ (l : Cells). let n : Node = (F.last Side.left (outer F a), l) in n)
      (ap (add (run_cell F Side.left (outer F a))) (add-some (cell (cell_spine, a, 0, 0)) cs)
      ∙ run-begins F Side.left (outer F a) ((cell_spine, a, 0, 0) ∷ cs) (spine-no-run Side.left))

  -- the run across a row that is opened
  pub row-run : (s : Side) (d v : ℕ) (cs : Cells) → add (run_cell F s v) (add (Some (cell (cell_row, d, v, 0))) cs) ≡ run F s v ((cell_row, d, v, 0) ∷ cs)
  unfolding top_kind
  row-run s d v cs = ap (add (run_cell F s v)) (add-some (cell (cell_row, d, v, 0)) cs) ∙ run-begins F s v ((cell_row, d, v, 0) ∷ cs) (row-no-run s)

  module _ (s : Side) (d a : ℕ) (cs : Cells) where
    pub enter-empty : F.is_empty a ≡ true → enter F s d a cs ≡ None
    unfolding enter
    enter-empty e = rw e

    pub enter-some : F.is_empty a ≡ false → enter F s d a cs ≡ Some (entered F s d (F.representative a) cs)
    unfolding enter entered
    enter-some e = rw e

  pub inward-part : (cs : Cells) {x : Node} → beside_top F Side.right (pop_run Side.right cs) ≡ Some x → inward F cs ≡ Some x
  unfolding inward beside or_else
  inward-part cs e = rw e

  pub inward-off : (cs : Cells) → beside_top F Side.right (pop_run Side.right cs) ≡ None
      → inward F cs ≡ option_map (λ (c : ℕ). opened F c cs) (continuing F (pop_run Side.right cs))
  unfolding inward beside or_else
  inward-off cs e = rw e

  pub part_none : (cs : Cells) → is_part (F.rule (standing F cs)) ≡ false → part_at F cs ≡ None
  unfolding part_at
  part_none cs e = rw e

  pub part-here : (cs : Cells) → is_part (F.rule (standing F cs)) ≡ true → part_at F cs ≡ Some (standing F cs, cs)
  unfolding part_at
  part-here cs e = rw e

  pub outward-part : (cs : Cells) {x : Node} → beside_top F Side.left (pop_run Side.left cs) ≡ Some x → outward F cs ≡ Some x
  unfolding outward beside under or_else
  outward-part cs e = rw e

  pub outward-off : (cs : Cells) → beside_top F Side.left (pop_run Side.left cs) ≡ None → outward F cs ≡ part_at F (tail (pop_run Side.left cs))
  unfolding outward beside under or_else
  outward-off cs e = rw e

  pub parent-part : (p : ℕ) (cs : Cells) {x : Node} → outward F cs ≡ Some x → parent F (p, cs) ≡ Some x
  unfolding parent or_else
  parent-part p cs e = rw e

  pub parent-off : (p : ℕ) (cs : Cells) → outward F cs ≡ None → parent F (p, cs) ≡ node_at F (below_row (under cs))
  unfolding parent or_else
  parent-off p cs e = rw e

  -- read off the top of cells 1 to k
  module _ (s : List ℕ) (k : ℕ) where
    pub continuing-none : k ≡ 0 → continuing F (cells_in s k) ≡ None
    unfolding continuing
    continuing-none e = rw (cells-none s k e)

    pub continuing-other : 0 < k → ((cell_at s k).0 ≡ cell_spine → ⊥) → continuing F (cells_in s k) ≡ None
    unfolding continuing
    continuing-other h e = rw (cells-top s k h, ne_eqb _ _ e)

    pub continuing-spine : 0 < k → (cell_at s k).0 ≡ cell_spine → continuing F (cells_in s k) ≡ inner_of (F.rule (cell_at s k).1)
    unfolding continuing
    continuing-spine h e = rw (cells-top s k h, eq-eqb _ _ e)

    pub node-none : k ≡ 0 → node_at F (cells_in s k) ≡ None
    unfolding node_at
    node-none e = rw (cells-none s k e)

    pub node-here : 0 < k → node_at F (cells_in s k) ≡ Some (standing F (cells_in s k), cells_in s k)
    unfolding node_at
    node-here h = rw (cells-top s k h)

-- a rule's row entered, and that it is a decision of each letter that may enter one
module _ (F : Facts) (k n a : ℕ) where
  pub row-empty : F.is_empty a ≡ true → row_outcome F k n a ≡ Outcome.Nowhere
  unfolding row_outcome
  row-empty e = rw e

  pub row-some : F.is_empty a ≡ false → row_outcome F k n a ≡ Outcome.Node (Change.Row k n (F.representative a))
  unfolding row_outcome
  row-some e = rw e

module _ {t s : List ℕ} {l : Letter} (k n a : ℕ) where
  pub row-decided : ((o : ℕ) → In t o → Able t s l (Change.Row k n o)) → In t ((facts_in t).representative a)
      → Decided t s k l (row_outcome (facts_in t) k n a) (enter (facts_in t) (entry_side l) n a (cells_in s k))
  unfolding change_node keep_of
  row-decided able within =
      let F = facts_in t in
      by_bool (F.is_empty a)
      (λ u. rw (row-empty F k n a u) (decided-none (sym (enter-empty F (entry_side l) n a (cells_in s k) u))))
      (λ u. rw (row-some F k n a u) (decided (Change.Row k n (F.representative a)) (sym (enter-some F (entry_side l) n a (cells_in s k) u)) (able (F.representative a) within) (omega arith)))
