-- Links where cells are written: links are written behind the cells and cells before the links, so those of the cells that are kept
-- stay, and a row that opens has its own. Assumes nothing.
use Prim.Native.Nat.{ℕ, ◌+◌, ◌≤◌, ◌<◌}
use native.Mathlib.Omega.{arith}
use mathlib.Core.Path.{◌≡◌, refl, sym, ap, ◌∙◌}
use mathlib.Core.List.{List}
use lib.ListN.{length}
use Rattle.forest.specs.Place.{Cells, Side}
use Rattle.forest.specs.Sides.{other}
use Rattle.forest.specs.Walk.{cell_length, cell_at, cells_in}
use Rattle.model.specs.Facts.{Facts}
use Rattle.model.specs.Model.{Node, opened}
use Rattle.work_rows.specs.Rows.{Within, row_length}
use Rattle.work_rows.proofs.Rows.{within_none, within_both, within_wider}
use Rattle.facts.specs.Facts.{row_count}
use Rattle.place_cells.specs.Cells.{run_cell, Lies, most_cells}
use Rattle.place_cells.proofs.Stack.{cells-top}
use Rattle.place_cells.proofs.Writes.{cells-before, length-cells, high-grows, put-none}
use Rattle.row_links.specs.Links.{link_at, Linkable, Linked, Relinked, opens_row}
use Rattle.row_links.proofs.Linking.{linkable-fewer, linkable-kept}
use Rattle.row_links.proofs.Pieces.{linked-turn, linked-opened, linked-entered, links-stay, opens-within}
use Rattle.move_parts.specs.Moves.{Turning}
use Rattle.move_parts.specs.Change.{turned_at, entered}
use Rattle.letter_arrival.specs.declared.Standing.{Standing}
use Rattle.letter_arrival.specs.Arrived.{Settling, Stood, Settled}
use Rattle.letter_arrival.proofs.Puts.{stood-as, entered-long}

-- nothing but links has changed
abbrev pub Behind : List ℕ → List ℕ → List ℕ → Type 0
Behind t s s' = Within (link_at t (most_cells (row_count t))) (length t + row_length) s s'

-- the links of the cells that are kept, once others are left
pub record Kept (t s : List ℕ) (keep : ℕ) (s' : List ℕ) : Type 0 where
  pub behind : Behind t s s'
  pub linked : Linked t s' (cells_in s' keep)

pub kept : {t s s' : List ℕ} {keep i : ℕ} → i ≤ most_cells (row_count t) → Linked t s' (cells_in s' keep) → Relinked t i s s' → Kept t s keep s'
kept {t} few l r = record { behind = within_wider (link_at t (most_cells (row_count t))) (length t + row_length) (omega arith) (omega arith) r.within; linked = l }

-- what that asks, and what is as before: the cells that are kept, the one on top, and a run that turns
module _ {t s : List ℕ} {k keep n : ℕ} (p : Settling t s k keep n) where
  pub links-here : Linkable t s k × Linked t s (cells_in s k) × (keep ≤ k)
  links-here = (linkable-fewer k p.here p.linkable, p.linked, p.keeps)

  module _ {s' : List ℕ} (b : Behind t s s') where
    equal_cells : cells_in s' keep ≡ cells_in s keep
    equal_cells = cells-before b keep (omega (arith, p.linkable.apart, p.here, p.keeps))

    same-top : 0 < keep → cell_at s' keep ≡ cell_at s keep
    same-top some = let c = cells-top s keep some in let c' = cells-top s' keep some in let e = equal_cells in cc

    lies-there : Lies s' n
    lies-there = omega (arith, p.linkable.apart, p.linkable.room, p.there, b.same_length)

    pub turning-still : {d : Side} {v : ℕ} → Turning t s keep d v → Turning t s' keep d v
    turning-still h =
        let z = same-top h.0.some in
        let held = h.0.held in (
          record {
            held = record { rows = held.rows; climbs = held.climbs; lies = omega (arith, held.lies, b.same_length); cells = rw equal_cells held.cells };
            some = h.0.some;
            kind = rw z h.0.kind;
          },
          rw z h.1,
        )

-- cells that a writer makes of those that are kept
module _ (f : Cells → Node) {t s s' : List ℕ} {k keep : ℕ} (p : Settling t s k keep (length (f (cells_in s keep)).1)) (b : Behind t s s') where
  pub room : Lies s' (length (f (cells_in s' keep)).1)
  room = rw (equal_cells p b) (lies-there p b)

  pub settled : {u : List ℕ} {r : Standing} → Linked t s' (f (cells_in s' keep)).1 → Stood (f (cells_in s' keep)) s' u r
      → Settled t (f (cells_in s keep)) s u r
  settled {u} {r} l z =
      let x = f (cells_in s keep) in
      let here : Linked t s' x.1 = rw (equal_cells p b) at l in
      let w : Stood x s' u r = rw (equal_cells p b) at z in
      let few = p.there in
      let apart = p.linkable.apart in
      record {
        there = w.there;
        cells = w.wrote.cells;
        within =
            within_both (within_wider cell_length (length t + row_length) (omega arith) (omega arith) b)
            (within_wider cell_length (length t + row_length) (omega arith) (omega arith) w.wrote.within);
        linked = links-stay (most_cells (row_count t)) w.wrote.within (omega arith) x.1 few here;
      }

-- a turn, a tree beside, a tree, and cells that stay
module _ {t s s' u : List ℕ} {k keep : ℕ} {r : Standing} (F : Facts) (q : Kept t s keep s') where
  pub settled-turn : {d : Side} {v : ℕ} → Settling t s k keep (length (turned_at F d v (cells_in s keep)).1) → Turning t s keep d v
      → Stood (turned_at F d v (cells_in s' keep)) s' u r → Settled t (turned_at F d v (cells_in s keep)) s u r
  settled-turn {d} {v} p h z =
      let h' = turning-still p q.behind h in
      settled (turned_at F d v) p q.behind (linked-turn F d (other d) v keep h'.0.some h'.0.kind q.linked) z

  pub settled-beside : {d : Side} {v : ℕ} → let f : Cells → Node = λ cs. opened F (turned_at F d v cs).0 (turned_at F d v cs).1 in
      Settling t s k keep (length (f (cells_in s keep)).1) → Turning t s keep d v → Stood (f (cells_in s' keep)) s' u r → Settled t (f (cells_in s keep)) s u r
  settled-beside {d} {v} p h z =
      let h' = turning-still p q.behind h in
      let x = turned_at F d v (cells_in s' keep) in
      settled (λ cs. opened F (turned_at F d v cs).0 (turned_at F d v cs).1) p q.behind
      (linked-opened F x.0 x.1 (linked-turn F d (other d) v keep h'.0.some h'.0.kind q.linked)) z

  pub settled-tree : (a : ℕ) → Settling t s k keep (length (opened F a (cells_in s keep)).1) → Stood (opened F a (cells_in s' keep)) s' u r
      → Settled t (opened F a (cells_in s keep)) s u r
  settled-tree a p z = settled (opened F a) p q.behind (linked-opened F a (cells_in s' keep) q.linked) z

pub settled-kept : {t s s' : List ℕ} {k keep : ℕ} (a : ℕ) → Settling t s k keep (length (cells_in s keep)) → Kept t s keep s'
    → Settled t (a, cells_in s keep) s s' (record { used = keep; rule = a })
settled-kept {s' = s'} {keep = keep} a p q = settled (λ cs. (a, cs)) p q.behind q.linked (stood-as (a, cells_in s' keep) refl (put-none s' keep) refl)

-- a row that opens on the cells that are kept: there is room for links among what it makes, and it has those of the cell that opens it
module _ (F : Facts) (d : Side) (n v : ℕ) {t s s' : List ℕ} {k keep : ℕ} (p : Settling t s k keep (length (entered F d n v (cells_in s keep)).1))
    (q : Kept t s keep s') where
  few : keep + 2 ≤ most_cells (row_count t)
  few =
      omega (arith, p.there, entered-long F d n v (cells_in s keep), high-grows (run_cell F d v) (length (cells_in s keep) + 1), length-cells s keep)

  module _ (i : ℕ) (some : 0 < i) (low : i ≤ keep + 2) where
    pub opens-here : Linkable t s' i × (0 < i)
    opens-here = (linkable-kept q.behind.same_length (linkable-fewer i (let m = few in omega arith) p.linkable), some)

    opened-behind : {u : List ℕ} → u ≡ opens_row t i s' → Behind t s u
    opened-behind e =
        rw e (within_both q.behind (opens-within (linkable-kept q.behind.same_length p.linkable) some (let m = few in omega arith)))

    pub row_room : {u : List ℕ} → u ≡ opens_row t i s' → Lies u (length (entered F d n v (cells_in u keep)).1)
    row_room e = room (entered F d n v) p (opened-behind e)

  module _ {u : List ℕ} (e : u ≡ opens_row t (keep + 1) s') where
    row-behind : Behind t s u
    row-behind = opened-behind (keep + 1) (omega arith) (omega arith) e

    row-linked : Linked t u (entered F d n v (cells_in u keep)).1
    unfolding entered
    row-linked =
        let same : cells_in u keep ≡ cells_in s' keep = equal_cells p row-behind ∙ sym (equal_cells p q.behind) in
        let long : length (cells_in s' keep) ≡ keep = length-cells s' keep in
        let fits : Linkable t s' (length (cells_in s' keep) + 1) = rw long (opens-here (keep + 1) (omega arith) (omega arith)).0 in
        rw (same, e) (rw long at (linked-entered F d n v (cells_in s' keep) fits q.linked))

    pub settled-row : {w : List ℕ} {r : Standing} → Stood (entered F d n v (cells_in u keep)) u w r → Settled t (entered F d n v (cells_in s keep)) s w r
    settled-row z = settled (entered F d n v) p row-behind row-linked z

-- fewer cells than there is room for
pub settling-fewer : {t s : List ℕ} {k keep n : ℕ} (m : ℕ) → m ≤ n → Settling t s k keep n → Settling t s k keep m
settling-fewer m few p =
    record { linkable = p.linkable; here = p.here; there = omega (arith, p.there); keeps = p.keeps; linked = p.linked }

-- from where a walk has settled it goes on: all its cells are kept
module _ (f : Cells → Node) {t s s' : List ℕ} {k keep : ℕ} {x : Node} {at : Standing} (y : Settled t x s s' at)
    (p : Settling t s k keep (length (f x.1).1)) (few : length x.1 ≤ most_cells (row_count t)) where
  count : at.used ≡ length x.1
  count = ap (λ (z : Standing). z.used) y.there

  cells_at_lem : cells_in s' at.used ≡ x.1
  cells_at_lem = ap (cells_in s') count ∙ y.cells

  pub settling-on : Settling t s' at.used at.used (length (f (cells_in s' at.used)).1)
  settling-on =
      record {
        linkable = linkable-kept y.within.same_length p.linkable;
        here = omega (arith, count);
        there = rw cells_at_lem p.there;
        keeps = omega arith;
        linked = rw cells_at_lem y.linked;
      }

  pub kept_on : Kept t s' at.used s'
  kept_on = record { behind = within_none (link_at t (most_cells (row_count t))) (length t + row_length) s'; linked = rw cells_at_lem y.linked }

  pub settled_on : {u : List ℕ} {r : Standing} → Settled t (f (cells_in s' at.used)) s' u r → Settled t (f x.1) s u r
  settled_on {u} {r} z =
      let w : Settled t (f x.1) s' u r = rw cells_at_lem at z in
      record { there = w.there; cells = w.cells; within = within_both y.within w.within; linked = w.linked }
