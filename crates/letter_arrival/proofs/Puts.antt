-- The cells that a writer puts on others, one after the other, are the model's. Assumes nothing.
use Prim.Native.Nat.{ℕ, ◌+◌, ◌*◌, ◌≤◌}
use native.Mathlib.Omega.{arith}
use mathlib.Core.Path.{◌≡◌, sym, ap, subst, ◌∙◌}
use mathlib.Core.List.{List}
use lib.ListN.{length}
use Rattle.std.specs.Prelude.{Some}
use Rattle.forest.specs.Place.{Cells, Side, cell_row, cell_spine, step}
use Rattle.forest.specs.Sides.{other}
use Rattle.forest.specs.Walk.{cell_length, cells_in}
use Rattle.model.specs.Facts.{Facts}
use Rattle.model.specs.Model.{Node, outer, turned, opened}
use Rattle.place_cells.specs.Cells.{cell, run_cell, Lies}
use Rattle.place_cells.specs.Changes.{add, high, Put}
use Rattle.place_cells.proofs.Writes.{length-add, high-grows}
use Rattle.move_parts.proofs.Outcomes.{opened-cells, row-run}
use Rattle.move_parts.proofs.Turns.{turned-cells}
use Rattle.work_rows.proofs.Rows.{within_both, within_wider}
use Rattle.letter_arrival.specs.declared.Standing.{Standing}
use Rattle.move_parts.specs.Change.{entered}
use Rattle.letter_arrival.specs.Arrived.{Stood}

-- cells that are put stand for the node that they are
pub stood-as : (n : Node) {x : Node} {s s' : List ℕ} {u q : ℕ} → n ≡ x → Put n.1 s s' u → q ≡ n.0 → Stood x s s' (record { used = u; rule = q })
stood-as n {x} {s} {s'} {u} {q} e p r =
    subst (λ (y : Node). Stood y s s' (record { used = u; rule = q })) e (record { there = λ i. record { used = p.0 i; rule = r i }; wrote = p.1 })

pub stood-is : {x y : Node} {s s' : List ℕ} {r : Standing} → x ≡ y → Stood x s s' r → Stood y s s' r
stood-is {s = s} {s' = s'} {r = r} e z = subst (λ (n : Node). Stood n s s' r) e z

-- how many a tree's opening makes them
pub opened-long : (F : Facts) (a : ℕ) (cs : Cells) → length (opened F a cs).1 ≡ high (run_cell F Side.left (outer F a)) (length cs + 1)
unfolding high
opened-long F a cs =
    ap (λ (n : Node). length n.1) (sym (opened-cells F a cs))
    ∙ length-add (run_cell F Side.left (outer F a)) (add (Some (cell (cell_spine, a, 0, 0))) cs)
    ∙ ap (high (run_cell F Side.left (outer F a))) (length-add (Some (cell (cell_spine, a, 0, 0))) cs)

pub put-there : {cs : Cells} {s t : List ℕ} {k : ℕ} → Put cs s t k → cells_in t k ≡ cs
put-there {t = t} p = ap (cells_in t) p.0 ∙ p.1.cells

-- a writer after another: the cells that the second begins with are those that the first put
pub stood-then : (f : Cells → Node) {cs : Cells} {s t u : List ℕ} {k : ℕ} {r : Standing} → length cs ≤ length (f cs).1
    → Put cs s t k → Stood (f (cells_in t k)) t u r → Stood (f cs) s u r
stood-then f {cs} {s} {t} {u} {k} {r} longer p q =
    let z : Stood (f cs) t u r = subst (λ (l : Cells). Stood (f l) t u r) (put-there p) q in
    record {
      there = z.there;
      wrote = record {
        cells = z.wrote.cells;
        within = within_both (within_wider cell_length (cell_length * (length (f cs).1 + 1)) (omega arith) (omega arith) p.1.within) z.wrote.within;
      };
    }

-- after one that stands at a node
module _ (f : ℕ → Cells → Node) (x : Node) {s t : List ℕ} {at : Standing} (p : Stood x s t at) where
  put-at : Put x.1 s t at.used
  put-at = (ap (λ (y : Standing). y.used) p.there, p.wrote)

  rule-at : at.rule ≡ x.0
  rule-at = ap (λ (y : Standing). y.rule) p.there

  pub next-room : Lies s (length (f x.0 x.1).1) → Lies t (length (f at.rule (cells_in t at.used)).1)
  next-room room = let same = p.wrote.within.same_length in rw (rule-at, put-there put-at) (omega arith)

  pub next-stood : {u : List ℕ} {r : Standing} → length x.1 ≤ length (f x.0 x.1).1
      → Stood (f at.rule (cells_in t at.used)) t u r → Stood (f x.0 x.1) s u r
  next-stood longer q = stood-then (f x.0) longer put-at (stood-is (ap (λ (v : ℕ). f v (cells_in t at.used)) rule-at) q)

pub opened-longer : (F : Facts) (a : ℕ) (cs : Cells) → length cs + 1 ≤ length (opened F a cs).1
opened-longer F a cs = omega (arith, opened-long F a cs, high-grows (run_cell F Side.left (outer F a)) (length cs + 1))

-- a row that is entered
module _ (F : Facts) (d : Side) (n v : ℕ) (cs : Cells) where
  pub entered-cells : opened F (F.last d v) (add (run_cell F d v) (add (Some (cell (cell_row, n, v, 0))) cs)) ≡ entered F d n v cs
  unfolding entered
  entered-cells = ap (opened F (F.last d v)) (row-run F d n v cs)

  pub entered-long : high (run_cell F d v) (length cs + 1) + 1 ≤ length (entered F d n v cs).1
  unfolding high
  entered-long =
      let cells = add (run_cell F d v) (add (Some (cell (cell_row, n, v, 0))) cs) in
      let long : length cells ≡ high (run_cell F d v) (length cs + 1) = length-add (run_cell F d v) (add (Some (cell (cell_row, n, v, 0))) cs) ∙ ap (high (run_cell F d v)) (length-add (Some (cell (cell_row, n, v, 0))) cs) in
      let same : length (entered F d n v cs).1 ≡ length (opened F (F.last d v) cells).1 = ap (λ (x : Node). length x.1) (sym entered-cells) in
      omega (arith, long, same, opened-longer F (F.last d v) cells)

  pub entered-longer : length cs ≤ length (entered F d n v cs).1
  entered-longer = omega (arith, entered-long, high-grows (run_cell F d v) (length cs + 1))

-- a turn
pub turned-long : (F : Facts) (d : Side) (v : ℕ) (cs : Cells) → let to = F.toward d v in
    length (turned F d v cs).1 ≡ high (run_cell F (other d) to) (length (step d v to cs))
turned-long F d v cs =
    let to = F.toward d v in
    ap (λ (n : Node). length n.1) (sym (turned-cells F d v cs)) ∙ length-add (run_cell F (other d) to) (step d v to cs)
