-- One cell more, by its kind, as the code reads it; and the cells of a place from the first on: each leads on from the spot of those before it,
-- and the path of the last spot is the node's. Assumes nothing.
use Rattle.std.specs.Prelude.{Option, Some, None}
use Prim.Native.Nat.{ℕ, zero, suc, ◌+◌, ◌-◌, min, ◌≤◌, ◌<◌}
use native.Mathlib.Omega.{arith}
use native.Mathlib.Numerals.{add-one}
use mathlib.Core.Path.{◌≡◌, refl, sym, ap, ap₂, ◌∙◌}
use mathlib.Core.List.{List, []}
use lib.ListN.{length}
use lib.Dec.{leb}
use borrow.Author.Tests.{ne_eqb, leb-true, leb-false}
use Rattle.forest.specs.Expression.{Expression}
use Rattle.forest.specs.Place.{Cell, Cells, cell_run}
use Rattle.forest.specs.Walk.{cell_at, cells_in}
use Rattle.forest.proofs.Cases.{by_bool}
use Rattle.model.specs.Facts.{Facts}
use Rattle.model.specs.Pieces.{standing}
use Rattle.facts.specs.Facts.{In, facts_in}
use Rattle.move_parts.specs.Moves.{Held}
use Rattle.move_parts.proofs.Held.{held-less}
use Rattle.move_parts.proofs.Kept.{standing-kept}
use Rattle.place_cells.specs.declared.Cell.{Cell as Words}
use Rattle.place_cells.specs.Cells.{cell}
use Rattle.place_cells.proofs.Stack.{cells-none, cells-top, top-kind, top_one, top-two}
use Rattle.transfer_path.specs.Follow.{most_place, few_beside, carried}
use Rattle.transfer_path.specs.Spot.{Spot, path_to}
use Rattle.transfer_path.specs.CellSpot.{row_before, row_spot, spine_spot, right_steps, steps_between, cell_spot, spot_in, path_in}
use Rattle.transfer_path.proofs.Carried.{Nearer, nearer-spot}
use Rattle.transfer_climb.specs.declared.Climbed.{Climbed}
use Rattle.transfer_climb.specs.Climb.{path_length, CountedRows, levels_in, spot_at, LevelPut, Took, Traces}
use Rattle.transfer_climb.proofs.Levels.{took-near}
use Rattle.transfer_climb.proofs.Steps.{Reached, reached-more, reached-far}

-- one cell more, by its kind
module _ (F : Facts) (E : ℕ → Expression) (c : Cell) (cs : Cells) (x : Spot) where
  at_right : c.0 ≡ 4 → cell_spot F E c cs x ≡ right_steps F E (steps_between F c.1 c.2) c.1 x
  unfolding cell_spot cell_run
  at_right e = rw e

  at_spine : c.0 ≡ 2 → cell_spot F E c cs x ≡ spine_spot E (F.rule (standing F cs)) x
  unfolding cell_spot cell_run
  at_spine e = rw e

  at_row : c.0 ≡ 1 → cell_spot F E c cs x ≡ row_spot F E c.1 cs x
  unfolding cell_spot cell_run
  at_row e = rw e

  at_other : (c.0 ≡ 4 → ⊥) → (c.0 ≡ 2 → ⊥) → (c.0 ≡ 1 → ⊥) → cell_spot F E c cs x ≡ x
  unfolding cell_spot cell_run
  at_other r s w = rw (ne_eqb c.0 1 w, ne_eqb c.0 2 s, ne_eqb c.0 4 r)

pub took-same : {path path' : List ℕ} {y z : Spot} {c : Option Climbed} → y ≡ z → Took path path' y c → Took path path' z c
took-same e k = rw e at k

-- the rule that stands below a cell has a row
pub standing-in : {t s : List ℕ} {i r : ℕ} → CountedRows t → Held t s i → r ≡ standing (facts_in t) (cells_in s (i - 1)) → In t r
standing-in {t} {s} {i} g h e =
    rw e (standing-kept (facts_in t) (In t) g.closes (cells_in s (i - 1)) (held-less h (i - 1) (omega arith)).cells)

-- as the code reads it
module _ {c : Cell} {w : Words} (read : w ≡ cell c) where
  kind-is : {k : ℕ} → w.kind ≡ k → c.0 ≡ k
  kind-is e = sym (top-kind read) ∙ e

  kind-not : {k : ℕ} → (w.kind ≡ k → ⊥) → c.0 ≡ k → ⊥
  kind-not n e = n (top-kind read ∙ e)

module _ (F : Facts) (E : ℕ → Expression) (s : List ℕ) (i : ℕ) (x : Spot) {w : Words} (read : w ≡ cell (cell_at s i)) where
  pub right-spot : {steps : ℕ} → w.kind ≡ 4 → steps ≡ steps_between F w.one w.two
      → right_steps F E steps w.one x ≡ cell_spot F E (cell_at s i) (cells_in s (i - 1)) x
  right-spot k e =
      ap (λ (j : ℕ). right_steps F E j w.one x) (e ∙ ap₂ (steps_between F) (top_one read) (top-two read))
      ∙ ap (λ (a : ℕ). right_steps F E (steps_between F (cell_at s i).1 (cell_at s i).2) a x) (top_one read)
      ∙ sym (at_right F E (cell_at s i) (cells_in s (i - 1)) x (kind-is read k))

  pub spine-spot : {r : ℕ} → w.kind ≡ 2 → r ≡ standing F (cells_in s (i - 1)) → spine_spot E (F.rule r) x ≡ cell_spot F E (cell_at s i) (cells_in s (i - 1)) x
  spine-spot k e =
      ap (λ (p : ℕ). spine_spot E (F.rule p) x) e ∙ sym (at_spine F E (cell_at s i) (cells_in s (i - 1)) x (kind-is read k))

  pub other-spot : (w.kind ≡ 4 → ⊥) → (w.kind ≡ 2 → ⊥) → (w.kind ≡ 1 → ⊥) → x ≡ cell_spot F E (cell_at s i) (cells_in s (i - 1)) x
  other-spot r p o = sym (at_other F E (cell_at s i) (cells_in s (i - 1)) x (kind-not read r) (kind-not read p) (kind-not read o))

  -- a row under a node, and the first
  row_under_lem : (d k : ℕ) → 0 < k → (row_before E (F.rule (standing F (cells_in s k))) d, path_to x) ≡ row_spot F E d (cells_in s k) x
  unfolding row_spot
  row_under_lem d k more = rw (cells-top s k more)

  row-spot : {r : ℕ} → w.kind ≡ 1 → 0 < i - 1 → r ≡ standing F (cells_in s (i - 1))
      → (row_before E (F.rule r) w.one, path_to x) ≡ cell_spot F E (cell_at s i) (cells_in s (i - 1)) x
  row-spot k more e =
      ap₂ (λ (p d : ℕ). (row_before E (F.rule p) d, path_to x)) e (top_one read)
      ∙ row_under_lem (cell_at s i).1 (i - 1) more
      ∙ sym (at_row F E (cell_at s i) (cells_in s (i - 1)) x (kind-is read k))

  -- told up to 65,535
  pub row-took : {r v : ℕ} {path path' : List ℕ} {c : Option Climbed} → w.kind ≡ 1 → 0 < i - 1 → r ≡ standing F (cells_in s (i - 1))
      → v ≡ min (row_before E (F.rule r) w.one) most_place → ((m : ℕ) → v ≡ min m most_place → Took path path' (m, path_to x) c)
      → Took path path' (cell_spot F E (cell_at s i) (cells_in s (i - 1)) x) c
  row-took {r} k more e told f = took-same (row-spot k more e) (f (row_before E (F.rule r) w.one) told)

  row_first : (d k : ℕ) → k ≡ 0 → (0, []) ≡ row_spot F E d (cells_in s k) x
  unfolding row_spot
  row_first d k e = rw (cells-none s k e)

  pub took-first : (path : List ℕ) → w.kind ≡ 1 → i ≡ 1
      → Took path path (cell_spot F E (cell_at s i) (cells_in s (i - 1)) x) (Some (record { before = 0; levels = 0 }))
  unfolding levels_in carried few_beside
  took-first path k e =
      let q : (0, []) ≡ cell_spot F E (cell_at s i) (cells_in s (i - 1)) x =
      row_first (cell_at s i).1 (i - 1) (omega arith) ∙ sym (at_row F E (cell_at s i) (cells_in s (i - 1)) x (kind-is read k)) in
      took-near refl q (ap (λ (y : Spot). carried (path_to y)) (sym q))

-- the first i of k cells are read
pub record Climbing (F : Facts) (E : ℕ → Expression) (s : List ℕ) (k : ℕ) (path₀ path : List ℕ) (i : ℕ) (at : Climbed) : Type 0 where
  pub most : i ≤ k
  pub reached : Reached path₀ path (spot_in F E (cells_in s i)) at

-- above the forest nothing is written
pub climb-none : (F : Facts) (E : ℕ → Expression) (s path : List ℕ) {k : ℕ} → k ≡ 0 → Traces path path (path_in F E (cells_in s k)) (Some 0)
unfolding levels_in path_in carried few_beside
climb-none F E s path {k} e =
    rw (cells-none s k e)
    (record {
      same_length = refl;
      levels = λ l q. let z : l ≡ 0 = cc in rw z (refl, refl);
      far = λ q. absurd (let z : ◌≡◌ {A = ℕ} 0 1 = cc in let n : ⊥ = omega arith in n);
    })

pub climbing-start : (F : Facts) (E : ℕ → Expression) (s : List ℕ) (k : ℕ) {path : List ℕ} → path_length ≤ length path
    → Climbing F E s k path path 0 (record { before = 0; levels = 0 })
unfolding spot_in cells_in levels_in carried few_beside
climbing-start F E s k room = record { most = omega arith; reached = record { same_length = refl; spot = refl; ready = record { room = room; near = refl } } }

module _ {F : Facts} {E : ℕ → Expression} {s : List ℕ} {k : ℕ} {path₀ path : List ℕ} {i : ℕ} {at : Climbed}
    (h : Climbing F E s k path₀ path i at) where
  turn : Spot → Spot
  turn y = cell_spot F E (cell_at s (i + 1)) (cells_in s (i + 1 - 1)) y

  cell-one : spot_in F E (cells_in s (i + 1)) ≡ turn (spot_in F E (cells_in s i))
  unfolding spot_in cells_in turn
  cell-one =
      ap (λ (n : ℕ). spot_in F E (cells_in s n)) (add-one i)
      ∙ ap₂ (λ (n m : ℕ). cell_spot F E (cell_at s n) (cells_in s m) (spot_in F E (cells_in s i))) (sym (add-one i)) (let e : i ≡ i + 1 - 1 = omega arith in e)

  pub climb-more : {path' : List ℕ} {c : Option Climbed} {at' : Climbed} → i < k
      → Took path path' (cell_spot F E (cell_at s (i + 1)) (cells_in s (i + 1 - 1)) (spot_at path at)) c → c ≡ Some at'
      → Climbing F E s k path₀ path' (i + 1) at'
  unfolding turn
  climb-more l t q = record { most = omega arith; reached = rw cell-one (reached-more h.reached turn t q) }

  nearer-cells : (m n : ℕ) → m ≤ n → Nearer (spot_in F E (cells_in s m)) (spot_in F E (cells_in s n))
  unfolding cells_in
  nearer-cells m zero l = λ q. ap (λ (j : ℕ). carried (path_to (spot_in F E (cells_in s j)))) (let e : m ≡ 0 = omega arith in e) ∙ q
  nearer-cells m (suc n) l =
      by_bool (leb m n)
      (λ u. λ q. nearer-cells m n (leb-true m n u) (nearer-spot F E (cell_at s (suc n)) (cells_in s n) q))
      (λ u. λ q. ap (λ (j : ℕ). carried (path_to (spot_in F E (cells_in s j)))) (let e : m ≡ suc n = omega (arith, leb-false m n u) in e) ∙ q)

  path-of : 0 < k → path_in F E (cells_in s k) ≡ path_to (spot_in F E (cells_in s k))
  unfolding path_in
  path-of more = rw (cells-top s k more)

  pub climb-far : {path' : List ℕ} {c : Option Climbed} → i < k
      → Took path path' (cell_spot F E (cell_at s (i + 1)) (cells_in s (i + 1 - 1)) (spot_at path at)) c
      → c ≡ None → Traces path₀ path' (path_in F E (cells_in s k)) None
  unfolding turn
  climb-far l t q =
      let n : Nearer (turn (spot_in F E (cells_in s i))) (spot_in F E (cells_in s k)) = rw cell-one at (nearer-cells (i + 1) k (omega arith)) in
      let f = reached-far h.reached turn {z = spot_in F E (cells_in s k)} t q n in
      record {
        same_length = f.same_length;
        levels = λ j e. absurd (let z : ◌≡◌ {A = ℕ} 0 1 = cc in let n : ⊥ = omega arith in n);
        far = λ e. ap carried (path-of (omega arith)) ∙ f.far refl;
      }

  pub climb-end : {path' : List ℕ} → k ≤ i → (k ≡ 0 → ⊥) → LevelPut at path path'
      → Traces path₀ path' (path_in F E (cells_in s k)) (Some (at.levels + 1))
  climb-end all some p =
      let q : path_to (spot_at path at) ≡ path_in F E (cells_in s k) =
      ap path_to (h.reached.spot ∙ ap (λ (j : ℕ). spot_in F E (cells_in s j)) (let e : i ≡ k = omega (arith, h.most) in e)) ∙ sym (path-of (omega arith)) in
      record {
        same_length = p.same_length ∙ h.reached.same_length;
        levels = λ l e. let z : l ≡ at.levels + 1 = cc in rw z (p.writes ∙ q, ap carried (sym q) ∙ h.reached.ready.near);
        far = λ e. absurd (let z : ◌≡◌ {A = ℕ} 0 1 = cc in let n : ⊥ = omega arith in n);
      }
