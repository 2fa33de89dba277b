-- The stack that a place begins with: the rule there decides what is put on it, and it has the tasks of the subtree (`Begins` of
-- compare_place), so that it fits its region. Assumes nothing.
use Prim.Native.Nat.{ℕ, zero, suc, ◌+◌, ◌*◌, ◌≤◌, ◌<◌}
use native.Mathlib.Omega.{arith}
use mathlib.Core.Path.{◌≡◌, refl, sym, ap, subst, ◌∙◌}
use mathlib.Core.List.{List, [], ◌∷◌}
use mathlib.Core.Bool.{false≢true}
use Rattle.std.specs.Prelude.{Option}
use lib.ListN.{length}
use lib.Dec.{eqb}
use borrow.Author.Tests.{eqb-true, eq-eqb}
use Rattle.rule.specs.declared.Rule.{Rule}
use Rattle.forest.specs.Expression.{Expression, expression}
use Rattle.forest.specs.Sizes.{height}
use Rattle.forest.specs.Forest.{forest}
use Rattle.forest.specs.Compare.{subtree_at}
use Rattle.forest.specs.Place.{Cells, cell_row}
use Rattle.forest.specs.Position.{Located}
use Rattle.forest.specs.Walk.{cell_at, cells_in}
use Rattle.forest.proofs.Cases.{by_bool}
use Rattle.forest.proofs.Unfold.{unfolding-equation, rule_number-expression, expression-known}
use Rattle.model.specs.Facts.{facts_of}
use Rattle.model.specs.Run.{Node}
use Rattle.model.specs.Same.{Same}
use Rattle.model.proofs.Rules.{facts-agree, rules-inside}
use Rattle.model.proofs.Ranged.{Every, Numbers, node-number, cell-numbers}
use Rattle.work_rows.specs.Rows.{row_length, rule_in, first_rules}
use Rattle.work_rows.proofs.Rows.{within_wider}
use Rattle.work_rows.proofs.Kept.{first-length, first-rule}
use Rattle.count_passes.specs.Says.{whole, before, after}
use Rattle.spread_step.specs.Task.{task_limit, task_word}
use Rattle.compare_tokens.specs.Parts.{around}
use Rattle.compare_place.specs.Begun.{begun_of, begun_tasks}
use Rattle.compare_place.proofs.Cells.{Takes, until-takes}
use Rattle.compare_place.proofs.Heights.{stacked-length}
use Rattle.compare_place.proofs.Places.{Begins, begins, begun-high as at_high}
use Rattle.compare_begin.specs.declared.Begun.{Begun}
use Rattle.compare_begin.specs.Stack.{tasks_of, kept_rule, kept_run, Room, Grown, Laid, hole_in, RoomAt, Holed}
use Rattle.compare_begin.specs.Begin.{stack_low, stack_high, NodePlace, Beginnable, BegunAt}
use Rattle.compare_begin.proofs.Stacks.{tasks-length, laid_none, laid-grown}
use Rattle.compare_begin.proofs.Runs.{kept-few, kept_same, around-length}

-- the rules that cells name first, those of rows aside
abbrev Firsts : (ℕ → Type 0) → Cells → Type 0
Firsts P [] = Unit {0}
Firsts P (c ∷ cs) = ((c.0 ≡ cell_row → ⊥) → P c.1) × Firsts P cs

firsts : (P : ℕ → Type 0) {cs : Cells} → Numbers P cs → Firsts P cs
firsts P Numbers.none = tt
firsts P (Numbers.row p h) = (λ q. absurd (q refl), firsts P h)
firsts P (Numbers.spine p h) = (λ q. p, firsts P h)
firsts P (Numbers.run s p b h) = (λ q. p, firsts P h)

firsts-inside : (n : ℕ) (s : List ℕ) (k j : ℕ) → Firsts (λ r. r < n) (cells_in s k) → 0 < j → j ≤ k → ((cell_at s j).0 ≡ cell_row → ⊥) → (cell_at s j).1 < n
unfolding cells_in
firsts-inside n s zero j h l m q = absurd (omega arith)
firsts-inside n s (suc k) j h l m q =
    let rest : j ≤ k → (cell_at s j).1 < n = λ below. firsts-inside n s k j h.1 l below q in
    by_bool (eqb j (suc k))
    (λ u. let e : j ≡ suc k = eqb-true j (suc k) u in rw e (h.0 (rw e at q)))
    (λ u. rest (let d : j ≡ suc k → ⊥ = λ e. false≢true (sym u ∙ eq-eqb j (suc k) e) in omega arith))

no_cells : (s : List ℕ) (k : ℕ) → 0 < k → cells_in s k ≡ [] → ⊥
unfolding cells_in
no_cells s zero l q = omega arith
no_cells s (suc k) l q = let e : suc (length (cells_in s k)) ≡ 0 = ap length q in omega arith

-- a rule that is neither a node nor a part begins nothing
other-begun : (x : Rule) (p : ℕ) (vs : List ℕ) → ((a c : ℕ) → x ≡ Rule.Node a c → ⊥) → ((a b c : ℕ) → x ≡ Rule.Part a b c → ⊥) → begun_of x p vs ≡ []
unfolding begun_of
other-begun Rule.Empty p vs hn hp = refl
other-begun (Rule.Pair b c) p vs hn hp = refl
other-begun (Rule.Node a c) p vs hn hp = absurd (hn a c refl)
other-begun (Rule.Fill b c) p vs hn hp = refl
other-begun (Rule.Part a b c) p vs hn hp = absurd (hp a b c refl)
other-begun (Rule.Join b c) p vs hn hp = refl

same-ranged : (P : ℕ → Type 0) {w : Expression} {x : Option Located} {m : Node} → Every P w → Same w x m → (m.1 ≡ [] → ⊥) → P m.0 × Numbers P m.1
same-ranged P g Same.above f = absurd (f refl)
same-ranged P {w} g (Same.at {e} {z} h) f = (node-number P w e z g h, cell-numbers P w e z g h)

module _ {t s : List ℕ} {n from k p : ℕ} (h : Beginnable t s n from k p) where
  abbrev R : List Rule
  R = first_rules t n

  long : length R ≡ n
  long = first-length t n

  takes : Takes (facts_of R) (length R) (kept_run t n)
  unfolding facts_of
  takes = subst (λ (m : ℕ). Takes (facts_of R) m (kept_run t n)) (sym long) (until-takes (facts_of R) n)

  -- the tasks are those of the subtree
  pub begun-says : Begins R (subtree_at (forest R h.place.walked) h.place.path) (begun_tasks (kept_rule t n) (kept_run t n) p (cells_in s k))
  unfolding facts_of
  begun-says =
      begins h.rows.sound h.place.closed (facts_of R) (λ r l. facts-agree R r) (kept_run t n) takes h.place.path (p, cells_in s k) h.place.same
      (no_cells s k h.place.least)

  begun-most : length (begun_tasks (kept_rule t n) (kept_run t n) p (cells_in s k)) ≤ 3 * n + 1
  begun-most = let l = stacked-length begun-says.stacked in omega (arith, long)

  ranged : (p < n) × Numbers (λ r. r < n) (cells_in s k)
  ranged =
      let inside = rules-inside R h.rows.rank h.rows.sound (rule_number-expression R) (unfolding-equation h.rows.sound) (facts_of R) (λ r l. facts-agree R r)
      h.place.walked h.place.closed.below (expression-known h.rows.sound h.place.walked h.place.closed.below) in
      subst (λ (m : ℕ). (p < m) × Numbers (λ r. r < m) (cells_in s k)) long (same-ranged (λ r. r < length R) inside h.place.same (no_cells s k h.place.least))

  least : 1 ≤ n
  least = omega (arith, ranged.0)

  pub begin-row : row_length * (p + 1) ≤ length t
  begin-row = omega (arith, ranged.0, h.behind, h.room)

  pub begin-few : p < task_limit
  begin-few = kept-few h.rows p ranged.0

  pub node-ready : (from + 2 ≤ length t) × (p < task_limit)
  node-ready = (omega (arith, h.room, least), begin-few)

  -- a stack that is laid down with them
  laid-begun : {vs : List ℕ} {x : Begun} {u : List ℕ} → Laid from vs x t u → vs ≡ begun_tasks (kept_rule t n) (kept_run t n) p (cells_in s k) → BegunAt n from k p s x t u
  laid-begun {vs} {x} {u} g q =
      let many : x.tasks ≤ 3 * n + 1 = rw (← (tasks-length u x.from x.tasks), g.tasks, q) begun-most in
      record {
        tasks = g.tasks ∙ q;
        low = omega (arith, g.least, least);
        high = g.lower;
        top = omega (arith, g.most, least);
        within = within_wider (stack_low n from) (stack_high n from) (omega (arith, g.least, least)) (omega (arith, g.most, least)) g.within;
      }

  module _ {z : Rule} (e : z ≡ rule_in t p) where
    here : kept_rule t n p ≡ z
    here = first-rule t n p ranged.0 ∙ sym e

    begun-here : {y : Rule} → z ≡ y → begun_tasks (kept_rule t n) (kept_run t n) p (cells_in s k) ≡ begun_of y p (hole_in t n s k)
    unfolding begun_tasks
    begun-here q = ap (λ (y : Rule). begun_of y p (hole_in t n s k)) (here ∙ q)

    -- a node
    pub node-begun : {a c : ℕ} → z ≡ Rule.Node a c → {x : Begun} {u : List ℕ} → Laid from (task_word p whole ∷ []) x t u → BegunAt n from k p s x t u
    unfolding begun_of
    node-begun q g = laid-begun g (sym (begun-here q))

    -- a part
    module _ {a b c : ℕ} (q : z ≡ Rule.Part a b c) where
      hole-most : length (hole_in t n s k) + 2 ≤ 3 * n + 1
      unfolding begun_of
      hole-most =
          let l : length (around (task_word p before) (task_word p after) (hole_in t n s k)) ≤ 3 * n + 1 = rw (begun-here q) at begun-most in
          omega (arith, around-length (task_word p before) (task_word p after) (hole_in t n s k))

      hole-room : RoomAt (row_length * n) (length (hole_in t n s k)) from t
      hole-room = record { below = omega (arith, h.behind, hole-most, least); above = omega (arith, h.room, hole-most, least) }

      pub part-ready : Holed n k s from t
      part-ready =
          record {
            rows = h.rows;
            cells = record { lies = h.lies; inside = λ j. firsts-inside n s k j (firsts (λ r. r < n) ranged.1) };
            room = hole-room;
          }

      module _ {x : Begun} {u : List ℕ} (g : Laid from (hole_in t n s k) x t u) where
        count : x.tasks ≡ length (hole_in t n s k)
        count = sym (tasks-length u x.from x.tasks) ∙ ap length g.tasks

        pub around-ready : Room 0 (x.tasks + 2) x u × (p < task_limit)
        around-ready = (
          record {
            below = omega (arith, g.least, h.behind, hole-most, count, least);
            above = omega (arith, g.most, h.room, hole-most, count, least, g.within.same_length);
          },
          begin-few,
        )

        pub part-begun : {y : Begun} {w : List ℕ} → Grown (around (task_word p before) (task_word p after) (tasks_of u x)) x y u w → BegunAt n from k p s y t w
        unfolding begun_of
        part-begun v =
            laid-begun (laid-grown g v) (ap (around (task_word p before) (task_word p after)) g.tasks ∙ sym (begun-here q))

    -- another rule
    pub other-rule : ((a c : ℕ) → z ≡ Rule.Node a c → ⊥) → ((a b c : ℕ) → z ≡ Rule.Part a b c → ⊥) → BegunAt n from k p s (record { from = from; tasks = 0 }) t t
    other-rule hn hp = laid-begun (laid_none from t refl) (sym (begun-here refl ∙ other-begun z p (hole_in t n s k) hn hp))

-- what lies on the stack says the tokens of the subtree, and fits a stack of three words a rule
pub begun-begins : {t s : List ℕ} {n from k p : ℕ} (h : Beginnable t s n from k p) {x : Begun} {t' : List ℕ} → BegunAt n from k p s x t t'
    → Begins (first_rules t n) (subtree_at (forest (first_rules t n) h.place.walked) h.place.path) (tasks_of t' x)
begun-begins h g = rw g.tasks (begun-says h)

-- the rows keep their rules
pub begun-rows : {t s : List ℕ} {n from k p : ℕ} → Beginnable t s n from k p → {x : Begun} {t' : List ℕ} → BegunAt n from k p s x t t'
    → first_rules t' n ≡ first_rules t n
begun-rows {n = n} h g = kept_same n g.within (omega (arith, h.behind))

-- so a place of the rules stays one
pub place_kept : {t t' s : List ℕ} {n k p : ℕ} → first_rules t' n ≡ first_rules t n → NodePlace t n s k p → NodePlace t' n s k p
place_kept q h = record { walked = h.walked; closed = rw q h.closed; path = h.path; same = rw q h.same; least = h.least }

-- the rule there is one of the plan's, and not an empty one
pub begun-high : {t s : List ℕ} {n from k p : ℕ} → Beginnable t s n from k p → (p < n) × (1 ≤ height (expression (first_rules t n) p))
unfolding facts_of
begun-high {t} {s} {n} {k = k} {p = p} h = (
  (ranged h).0,
  at_high h.rows.sound h.place.closed (facts_of (R h)) (λ r l. facts-agree (R h) r) (kept_run t n) (takes h) h.place.path (p, cells_in s k) h.place.same
      (no_cells s k h.place.least),
)
