-- What stands in the hole of the part at a place, from its cells: the runs on top are taken over what the cell below them opens, from below.
-- Assumes nothing.
use Prim.Native.Nat.{ℕ, zero, suc, ◌+◌, ◌-◌, ◌≤◌, ◌<◌}
use native.Mathlib.Omega.{arith}
use native.Mathlib.Numerals.{add-one}
use mathlib.Core.Path.{◌≡◌, refl, sym, ap, ◌∙◌}
use mathlib.Core.Bool.{true, false, cond, false≢true}
use mathlib.Core.List.{List, [], ◌∷◌}
use lib.ListN.{length}
use lib.Dec.{eqb}
use borrow.Author.Tests.{eqb-true, eq-eqb, ne_eqb}
use Rattle.rule.specs.declared.Rule.{Rule}
use Rattle.rule.specs.Names.{Names}
use Rattle.rule.specs.Sound.{rule}
use Rattle.forest.specs.Place.{Cell, Cells, Side, cell_row, cell_spine, cell_run}
use Rattle.forest.specs.Walk.{cell_at, cells_in}
use Rattle.forest.proofs.Cases.{by_bool}
use Rattle.work_rows.specs.Rows.{rule_in, first_rules}
use Rattle.work_rows.proofs.Kept.{first-rule}
use Rattle.count_passes.specs.Says.{whole}
use Rattle.spread_step.specs.Task.{task_limit, task_word}
use Rattle.compare_place.specs.Begun.{steps_until, filled_by, hole_tasks}
use Rattle.place_cells.specs.declared.Cell.{Cell as Words}
use Rattle.place_cells.specs.Cells.{cell}
use Rattle.place_cells.proofs.Stack.{top-kind, top_one, top-two}
use Rattle.compare_begin.specs.declared.Begun.{Begun}
use Rattle.compare_begin.specs.Stack.{tasks_of, kept_rule, kept_run, Room, Grown, Laid, LeftRun, is_run, over_run, opened_by, RunsAbove, RangedCells, hole_in, CellRun, CellRuns, RoomAt, Openable, Holed}
use Rattle.compare_begin.proofs.Stacks.{tasks-length, grown-none, grown-both, grown-to, laid_none, laid-to, laid-grown}
use Rattle.compare_begin.proofs.Runs.{kept-named, kept-few, kept_same, rows-kept, grown-rows, room-grown, until-length}

-- the cell on top is a run, or another
hole-run : (X : ℕ → Rule) (run : ℕ → ℕ → List ℕ → List ℕ) (c : Cell) (cs : Cells) → is_run c.0 ≡ true
    → hole_tasks X run (c ∷ cs) ≡ over_run run c (hole_tasks X run cs)
unfolding hole_tasks over_run is_run cell_run
hole-run X run c cs h =
    by_bool (eqb c.0 (cell_run Side.left))
    (λ u. rw (eqb-true c.0 3 u))
    (λ u. let v : eqb c.0 4 ≡ true = rw u at h in rw (eqb-true c.0 4 v))

-- cell i, where there is one
opened-none : (X : ℕ → Rule) (s : List ℕ) (i : ℕ) → i ≡ 0 → opened_by X s i ≡ []
unfolding opened_by
opened-none X s i q = rw (eq-eqb i 0 q)

opened_some : (X : ℕ → Rule) (s : List ℕ) (i : ℕ) → (i ≡ 0 → ⊥)
    → opened_by X s i ≡ cond (eqb (cell_at s i).0 cell_spine) (filled_by (X (cell_at s i).1)) []
unfolding opened_by
opened_some X s i q = rw (ne_eqb i 0 q)

other-top : (X : ℕ → Rule) (run : ℕ → ℕ → List ℕ → List ℕ) (c : Cell) (cs : Cells) → is_run c.0 ≡ false
    → hole_tasks X run (c ∷ cs) ≡ cond (eqb c.0 cell_spine) (filled_by (X c.1)) []
unfolding hole_tasks is_run cell_run
other-top X run c cs h =
    by_bool (eqb c.0 3)
    (λ u. absurd (false≢true (sym (rw u at h))))
    (λ u. let v : eqb c.0 4 ≡ false = rw u at h in rw (u, v))

hole-other : (X : ℕ → Rule) (run : ℕ → ℕ → List ℕ → List ℕ) (s : List ℕ) (i : ℕ) → (0 < i → is_run (cell_at s i).0 ≡ false)
    → hole_tasks X run (cells_in s i) ≡ opened_by X s i
unfolding hole_tasks cells_in
hole-other X run s zero h = sym (opened-none X s 0 refl)
hole-other X run s (suc i) h =
    other-top X run (cell_at s (suc i)) (cells_in s i) (h (omega arith)) ∙ sym (opened_some X s (suc i) (λ q. omega arith))

-- fewer cells
fewer-cells : {n k : ℕ} {s : List ℕ} (j : ℕ) → j ≤ k → RangedCells n k s → RangedCells n j s
fewer-cells j l h = record { lies = omega (arith, h.lies); inside = λ i least most. h.inside i least (omega arith) }

-- less room
less-room : {low m : ℕ} {x : Begun} {t : List ℕ} (j : ℕ) → j ≤ m → Room low m x t → Room low j x t
less-room j l h = record { below = omega (arith, h.below); above = omega (arith, h.above) }

-- a run's cell
module _ {n j : ℕ} {s : List ℕ} {x : Begun} {t : List ℕ} (h : CellRun n j s x t) {w : Words} (e : w ≡ cell (cell_at s j)) where
  over-left : w.kind ≡ 3 → over_run (kept_run t n) (cell_at s j) (tasks_of t x) ≡ kept_run t n w.one w.two (tasks_of t x)
  unfolding over_run cell_run
  over-left q = rw (eq-eqb (cell_at s j).0 3 (sym (top-kind e) ∙ q), top_one e, top-two e)

  pub left-ready : w.kind ≡ 3 → LeftRun n w.one w.two x t
  left-ready q =
      record {
        rows = h.rows;
        inside = rw (top_one e) (h.cells.inside j h.least (omega arith) (λ r. let z : w.kind ≡ cell_row = top-kind e ∙ r in omega arith));
        room = rw (ap length (over-left q)) at h.room;
      }

  pub left-taken : w.kind ≡ 3 → {y : Begun} {u : List ℕ} → Grown (kept_run t n w.one w.two (tasks_of t x)) x y t u
      → Grown (over_run (kept_run t n) (cell_at s j) (tasks_of t x)) x y t u
  left-taken q g = grown-to (sym (over-left q)) g

  pub right-taken : (w.kind ≡ 3 → ⊥) → Grown (over_run (kept_run t n) (cell_at s j) (tasks_of t x)) x x t t
  unfolding over_run cell_run
  right-taken q = grown-none x t (rw (ne_eqb (cell_at s j).0 3 (λ r. q (top-kind e ∙ r))))

-- runs from below
over-length : (X : ℕ → Rule) (n : ℕ) (c : Cell) (vs : List ℕ) → length vs ≤ length (over_run (steps_until X n) c vs)
unfolding over_run
over-length X n c vs = by_bool (eqb c.0 (cell_run Side.left)) (λ u. rw u (until-length X n c.1 c.2 vs)) (λ u. rw u (omega arith))

module _ (t : List ℕ) (n : ℕ) (s : List ℕ) (i k : ℕ) (h : RunsAbove s i k) where
  hole-step : (j : ℕ) → i ≤ j → j < k → hole_in t n s (j + 1) ≡ over_run (kept_run t n) (cell_at s (j + 1)) (hole_in t n s j)
  unfolding cells_in
  hole-step j l m =
      let q : is_run (cell_at s (suc j)).0 ≡ true = h.runs (suc j) (omega arith) (omega arith) in
      rw (add-one j) (hole-run (kept_rule t n) (kept_run t n) (cell_at s (suc j)) (cells_in s j) q)

  hole-most-by : (d j : ℕ) → j + d ≡ k → i ≤ j → length (hole_in t n s j) ≤ length (hole_in t n s k)
  hole-most-by zero j e l = let q : j ≡ k = omega arith in rw q (omega arith)
  hole-most-by (suc d) j e l =
      let rest : length (hole_in t n s (j + 1)) ≤ length (hole_in t n s k) = hole-most-by d (j + 1) (omega arith) (omega arith) in
      let more : length (hole_in t n s j) ≤ length (over_run (kept_run t n) (cell_at s (j + 1)) (hole_in t n s j)) =
      over-length (kept_rule t n) n (cell_at s (j + 1)) (hole_in t n s j) in
      let same : length (hole_in t n s (j + 1)) ≡ length (over_run (kept_run t n) (cell_at s (j + 1)) (hole_in t n s j)) = ap length (hole-step j l (omega arith)) in
      omega arith

  hole-most : (j : ℕ) → i ≤ j → j ≤ k → length (hole_in t n s j) ≤ length (hole_in t n s k)
  hole-most j l m = hole-most-by (k - j) j (omega arith) l

  hole-opened : hole_in t n s i ≡ opened_by (kept_rule t n) s i
  hole-opened = hole-other (kept_rule t n) (kept_run t n) s i h.ends

-- the stack has what stands in the hole of the first j cells
pub record Over (n i k j : ℕ) (s : List ℕ) (x y : Begun) (t u : List ℕ) : Type 0 where
  pub least : i ≤ j
  pub most : j ≤ k
  pub grown : Grown (hole_in t n s j) x y t u

module _ {n i k j : ℕ} {s : List ℕ} {x y : Begun} {t u : List ℕ} (h : CellRuns n i k s x t) (v : Over n i k j s x y t u) where
  over-rows : first_rules u n ≡ first_rules t n
  over-rows = grown-rows n v.grown h.room (hole-most t n s i k h.above j v.least v.most)

  over-next : j < k → over_run (kept_run u n) (cell_at s (j + 1)) (tasks_of u y) ≡ hole_in t n s (j + 1)
  over-next more =
      rw (over-rows, v.grown.tasks) (sym (hole-step t n s i k h.above j v.least more))

  pub over-ready : j < k → CellRun n (j + 1) s y u
  over-ready more =
      record {
        rows = rows-kept n over-rows h.rows;
        least = omega arith;
        cells = fewer-cells (j + 1) (omega arith) h.cells;
        room = less-room (length (over_run (kept_run u n) (cell_at s (j + 1)) (tasks_of u y)))
            (rw (over-next more) (hole-most t n s i k h.above (j + 1) (omega (arith, v.least)) (omega arith)))
            (room-grown v.grown h.room);
      }

  pub over-more : j < k → {z : Begun} {w : List ℕ} → Grown (over_run (kept_run u n) (cell_at s (j + 1)) (tasks_of u y)) y z u w → Over n i k (j + 1) s x z t w
  over-more more g = record { least = omega (arith, v.least); most = omega arith; grown = grown-to (over-next more) (grown-both v.grown g) }

-- what cell i opens
other-filled : (x : Rule) → ((b c : ℕ) → x ≡ Rule.Fill b c → ⊥) → filled_by x ≡ []
unfolding filled_by
other-filled Rule.Empty h = refl
other-filled (Rule.Pair b c) h = refl
other-filled (Rule.Node a c) h = refl
other-filled (Rule.Fill b c) h = absurd (h b c refl)
other-filled (Rule.Part a b c) h = refl
other-filled (Rule.Join b c) h = refl

module _ {n i : ℕ} {s : List ℕ} {at : ℕ} {t : List ℕ} (h : Openable n i s at t) where
  pub filler-none : i ≡ 0 → Laid at (opened_by (kept_rule t n) s i) (record { from = at; tasks = 0 }) t t
  filler-none q = laid_none at t (opened-none (kept_rule t n) s i q)

  module _ (some : i ≡ 0 → ⊥) {w : Words} (e : w ≡ cell (cell_at s i)) where
    pub filler-not : (w.kind ≡ 2 → ⊥) → Laid at (opened_by (kept_rule t n) s i) (record { from = at; tasks = 0 }) t t
    filler-not q =
        laid_none at t (opened_some (kept_rule t n) s i some ∙ ap (λ b. cond b (filled_by (kept_rule t n (cell_at s i).1)) []) (ne_eqb (cell_at s i).0 2 (λ r. q (top-kind e ∙ r))))

    module _ (spine : w.kind ≡ 2) where
      opened-spine : opened_by (kept_rule t n) s i ≡ filled_by (kept_rule t n w.one)
      opened-spine =
          opened_some (kept_rule t n) s i some
          ∙ ap (λ b. cond b (filled_by (kept_rule t n (cell_at s i).1)) []) (eq-eqb (cell_at s i).0 2 (sym (top-kind e) ∙ spine))
          ∙ ap (λ a. filled_by (kept_rule t n a)) (sym (top_one e))

      fill-inside : w.one < n
      fill-inside = rw (top_one e) (h.cells.inside i (omega (arith, some)) (omega arith) (λ r. let z : w.kind ≡ cell_row = top-kind e ∙ r in omega arith))

      module _ {z : Rule} (q : z ≡ rule_in t w.one) where
        fill-rule : kept_rule t n w.one ≡ z
        fill-rule = first-rule t n w.one fill-inside ∙ sym q

        opened-fill : {b c : ℕ} → z ≡ Rule.Fill b c → opened_by (kept_rule t n) s i ≡ task_word c whole ∷ []
        unfolding filled_by
        opened-fill f = opened-spine ∙ ap filled_by (fill-rule ∙ f)

        pub filler-ready : {b c : ℕ} → z ≡ Rule.Fill b c → (at + 2 ≤ length t) × (c < task_limit)
        filler-ready {b} {c} f =
            let m : length (opened_by (kept_rule t n) s i) ≡ 1 = ap length (opened-fill f) in
            (omega (arith, h.room.above), kept-few h.rows c (kept-named h.rows w.one c fill-inside (rw (fill-rule, f) Names.fill_two)))

        pub filler-laid : {b c : ℕ} → z ≡ Rule.Fill b c → {y : Begun} {u : List ℕ} → Laid at (task_word c whole ∷ []) y t u → Laid at (opened_by (kept_rule t n) s i) y t u
        filler-laid f g = laid-to (sym (opened-fill f)) g

        pub filler-other : ((b c : ℕ) → z ≡ Rule.Fill b c → ⊥) → Laid at (opened_by (kept_rule t n) s i) (record { from = at; tasks = 0 }) t t
        filler-other o = laid_none at t (opened-spine ∙ ap filled_by fill-rule ∙ other-filled z o)

-- the whole hole
pub laid-past : {at : ℕ} {vs : List ℕ} {y : Begun} {s t : List ℕ} {low m : ℕ} → Laid at vs y s t → RoomAt low m at s → length vs ≤ m → low ≤ y.from
laid-past {vs = vs} {y = y} {t = t} g room most =
    let long : y.tasks ≡ length vs = sym (tasks-length t y.from y.tasks) ∙ ap length g.tasks in
    omega (arith, g.least, room.below)

pub room-laid : {at : ℕ} {vs : List ℕ} {y : Begun} {s t : List ℕ} {low m : ℕ} → Laid at vs y s t → RoomAt low m at s → Room low m y t
room-laid g room =
    record { below = omega (arith, g.least, room.below); above = omega (arith, g.most, room.above, g.within.same_length) }

module _ {n k : ℕ} {s : List ℕ} {at : ℕ} {t : List ℕ} (h : Holed n k s at t) {i : ℕ} (r : RunsAbove s i k) where
  opened-most : length (opened_by (kept_rule t n) s i) ≤ length (hole_in t n s k)
  opened-most = rw (hole-opened t n s i k r) at (hole-most t n s i k r i (omega arith) r.below)

  pub hole-openable : Openable n i s at t
  hole-openable =
      record {
        rows = h.rows;
        cells = fewer-cells i r.below h.cells;
        room = record { below = omega (arith, h.room.below, opened-most); above = omega (arith, h.room.above, opened-most) };
      }

  module _ {x : Begun} {u : List ℕ} (g : Laid at (opened_by (kept_rule t n) s i) x t u) where
    hole-rows : first_rules u n ≡ first_rules t n
    hole-rows = kept_same n g.within (laid-past g h.room opened-most)

    pub hole-ready : CellRuns n i k s x u
    hole-ready =
        record {
          rows = rows-kept n hole-rows h.rows;
          cells = h.cells;
          above = r;
          tasks = g.tasks ∙ sym (hole-opened t n s i k r) ∙ ap (λ (R : List Rule). hole_tasks (rule R) (steps_until (rule R) n) (cells_in s i)) (sym hole-rows);
          room = rw (ap (λ (R : List Rule). length (hole_tasks (rule R) (steps_until (rule R) n) (cells_in s k))) hole-rows) (room-laid g h.room);
        }

    pub hole_made : {y : Begun} {w : List ℕ} → Grown (hole_in u n s k) x y u w → Laid at (hole_in t n s k) y t w
    hole_made v =
        laid-to (ap (λ (R : List Rule). hole_tasks (rule R) (steps_until (rule R) n) (cells_in s k)) hole-rows) (laid-grown g v)
