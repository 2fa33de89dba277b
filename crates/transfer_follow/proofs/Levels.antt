-- A level taken stands at the child, by its path; a missing one ends the search, and nothing is written there. So level by level the path still to be
-- followed leads where the whole one does, and in the end the cells are those of the node there. Assumes nothing.
use Prim.Native.Nat.{ℕ, zero, suc, ◌+◌, ◌-◌, ◌*◌, ◌≤◌, ◌<◌}
use native.Mathlib.Omega.{arith}
use mathlib.Core.Path.{◌≡◌, refl, sym, ap, ◌∙◌, subst}
use mathlib.Core.List.{List, [], ◌∷◌}
use Rattle.std.specs.Prelude.{Some, option_map, Option, None}
use Rattle.std.proofs.lemmas.Option.{same_Some}
use lib.ListN.{length}
use Rattle.words.specs.Number.{number}
use Rattle.words.specs.Words.{words_at}
use Rattle.record.specs.Record.{word_length}
use Rattle.forest.specs.Expression.{rule_number}
use Rattle.forest.specs.Forest.{forest}
use Rattle.forest.specs.Place.{Cells, placed_forest}
use Rattle.forest.specs.Position.{Located, located_of, cells}
use Rattle.forest.specs.Reference.{Path, top, node_at, label_at}
use Rattle.forest.specs.Walk.{cell_length, cursor_words, cells_in, cells_of, place_at, stored_cursor}
use Rattle.forest.proofs.Finger.{placed-label_at}
use Rattle.forest.proofs.Forget.{label, placed_forest-forgets}
use Rattle.forest.proofs.Placed.{placed_as, placed-of}
use Rattle.forest.proofs.Unfold.{closed-row}
use Rattle.model.specs.Run.{Node}
use Rattle.model.specs.Same.{Same}
use Rattle.work_rows.specs.Rows.{Within}
use Rattle.work_rows.proofs.Rows.{within_none, within_both, within_wider}
use Rattle.facts.specs.Facts.{row_count, facts_in, In}
use Rattle.place_cells.specs.Cells.{most_cells, place_length, cursor_length}
use Rattle.place_cells.proofs.Writes.{length-cells}
use Rattle.place_store.proofs.Stores.{stored_same}
use Rattle.letter_arrival.specs.declared.Standing.{Standing}
use Rattle.letter_moves.specs.Standing.{rules_kept}
use Rattle.letter_moves.proofs.Stands.{at-rule}
use Rattle.transfer_path.specs.Follow.{most_place, descended}
use Rattle.transfer_path.specs.Spot.{Spot, path_to}
use Rattle.transfer_path.proofs.Followed.{descended-there, descended-missing, descended-relabel}
use Rattle.transfer_path.proofs.Spots.{spot-path}
use Rattle.transfer_climb.specs.Climb.{meaning}
use Rattle.transfer_seek.specs.Seek.{NodeAt}
use Rattle.transfer_reach.specs.Reach.{Followable, Reached, RowAt, SomeRow, HoleAt, SomeHole}
use Rattle.transfer_reach.proofs.Short.{node-short}
use Rattle.transfer_reach.proofs.Reaching.{followable-kept}
use Rattle.transfer_follow.specs.declared.Branch.{Branch}
use Rattle.transfer_follow.specs.Levels.{branch_at, Found, Leads, FoundAt, Stepped, goal, Descended, Ready}
use Rattle.transfer_follow.proofs.Branches.{branch_leads, node-some}

-- a node that is stood at
node_in : {t s : List ℕ} (k : ℕ) {p start : ℕ} {x : Spot} → Followable t s start → NodeAt (meaning t start) x (p, cells_in s k) → In t p
node_in {t} {s} k {p} {start} f n =
    let e = n.node_is in
    let rule : p ≡ rule_number n.expression = ap (λ (m : Node). m.0) e in
    let there : cells_in s k ≡ cells n.position = ap (λ (m : Node). m.1) e in
    let some_cells = node-some n.here in
    let long = sym (length-cells s k) ∙ ap length there in
    let same : Same (meaning t start) (Some (n.expression, n.position)) (p, cells_in s k) = rw e (Same.at n.here) in
    at-rule (record { rows = f.rows; room = f.room; valid = record { position = Some (n.expression, n.position); same = same } })
    (λ z. let n : ⊥ = omega arith in n)

-- a level taken
stepped-there : {t s s' : List ℕ} {start i : ℕ} {y : Path} {r : Standing} → Followable t s start → Reached t s s' start (i, y) r
    → Stepped t s s' start i y (Some r)
stepped-there {t} {s} {s'} {start} {i} {y} {r} f z =
    let f' = followable-kept z.within.same_length f in
    let o : FoundAt t s' r start (suc i ∷ y) = record { followable = f'; inside = node_in r.used f' z.node; found = Found.node z.node } in
    record {
      within = z.within;
      there = λ r' e. rw (same_Some r r' e) at o;
      missing = λ e. absurd (let q : ◌≡◌ {A = ℕ} 0 1 = cc in let n : ⊥ = omega arith in n);
    }

module _ {t s : List ℕ} {at : Standing} {start i : ℕ} {b : Option Branch}
    (e : b ≡ branch_at (meaning t) (facts_in t) at start i) (few : i < most_place) where
  leads : {y : Path} → FoundAt t s at start y → Leads t s at.used start (i, y) b
  leads o = rw e (branch_leads o i few)

  row_here : {number c rest : ℕ} → b ≡ Some (Branch.Row number c rest) → {y : Path} → FoundAt t s at start y
      → RowAt t s at.used number c rest start (i, y)
  unfolding Leads
  row_here q o = subst (Leads t s at.used start (i, _)) q (leads o)

  hole-here : b ≡ (Some Branch.Hole) → {y : Path} → FoundAt t s at start y → HoleAt t s at.used start (i, y)
  unfolding Leads
  hole-here q o = subst (Leads t s at.used start (i, _)) q (leads o)

  pub row-asks : {number c rest : ℕ} → b ≡ Some (Branch.Row number c rest) → {y : Path} → FoundAt t s at start y → SomeRow t s at.used number c rest
  row-asks q {y} o = record { start = start; spot = (i, y); row = row_here q o }

  pub hole-asks : b ≡ (Some Branch.Hole) → {y : Path} → FoundAt t s at start y → SomeHole t s at.used
  hole-asks q {y} o = record { start = start; spot = (i, y); hole = hole-here q o }

  pub row-steps : {number c rest : ℕ} → b ≡ Some (Branch.Row number c rest) → {s' : List ℕ} {r : Standing}
      → ((v : ℕ) (x : Spot) → RowAt t s at.used number c rest v x → Reached t s s' v x r) → (y : Path) → FoundAt t s at start y
      → Stepped t s s' start i y (Some r)
  row-steps q z y o = stepped-there o.followable (z start (i, y) (row_here q o))

  pub hole-steps : b ≡ (Some Branch.Hole) → {s' : List ℕ} {r : Standing} → ((v : ℕ) (x : Spot) → HoleAt t s at.used v x → Reached t s s' v x r)
      → (y : Path) → FoundAt t s at start y → Stepped t s s' start i y (Some r)
  hole-steps q z y o = stepped-there o.followable (z start (i, y) (hole-here q o))

  pub missing-steps : b ≡ None → (y : Path) → FoundAt t s at start y → Stepped t s s start i y None
  unfolding Leads
  missing-steps q y o =
      record {
        within = within_none cell_length (place_length (row_count t)) s;
        there = λ r z. absurd (let q : ◌≡◌ {A = ℕ} 0 1 = cc in let n : ⊥ = omega arith in n);
        missing = λ z. (subst (Leads t s at.used start (i, y)) q (leads o), refl);
      }

-- the words from one on
words-next : (path : List ℕ) (at n : ℕ) → 0 < n → words_at path at n ≡ number 2 path at ∷ words_at path (at + 2) (n - 1)
unfolding words_at
words-next path at zero l = absurd (let n : ⊥ = omega arith in n)
words-next path at (suc n) l = ap (λ (j : ℕ). number 2 path at ∷ words_at path (at + 2) j) (let e : n ≡ suc n - 1 = omega arith in e)

-- j levels are followed, to the path y
pub record Descending (t s : List ℕ) (start : ℕ) (path : List ℕ) (levels : ℕ) (s' : List ℕ) (at : Standing) (j : ℕ) : Type 0 where
  pub reached : Path
  pub stands : FoundAt t s' at start reached
  pub ahead : descended (located_of (meaning t start)) [] (words_at path 0 levels)
      ≡ descended (located_of (meaning t start)) reached (words_at path (word_length * j) (levels - j))
  pub below : j ≤ levels
  pub within : Within cell_length (place_length (row_count t)) s s'

pub descending-start : {t s : List ℕ} {start : ℕ} (path : List ℕ) (levels : ℕ) → Followable t s start
    → Descending t s start path levels s (record { used = 0; rule = 0 }) 0
unfolding cells_in
descending-start {t} {s} path levels f =
    record {
      reached = [];
      stands = record { followable = f; inside = f.counted.closes.least; found = Found.above };
      ahead = ap (λ (n : ℕ). descended (located_of _) [] (words_at path 0 n)) (let e : levels ≡ levels - 0 = omega arith in e);
      below = omega arith;
      within = within_none cell_length (place_length (row_count t)) s;
    }

-- the node at a path that is stood at
pub found-label : {t s : List ℕ} {at : Standing} {start i : ℕ} {y : Path} → FoundAt t s at start (suc i ∷ y)
    → (l : Located) × (label_at (located_of (meaning t start)) (suc i ∷ y) ≡ Some l)
found-label {t} {start = start} {i} {y} o = go o.found refl
  where
    go : {q : Path} {n : Node} → Found (meaning t start) q n → q ≡ suc i ∷ y → (l : Located) × (label_at (located_of (meaning t start)) (suc i ∷ y) ≡ Some l)
    go Found.above e = absurd (let z : ◌≡◌ {A = ℕ} 0 (suc (length y)) = ap length e in let n : ⊥ = omega arith in n)
    go (Found.node {x} n) e = (
      (n.expression, n.position),
      sym (ap (label_at (located_of (meaning t start))) (ap path_to n.spot_is ∙ e))
          ∙ spot-path (closed-row o.followable.rows.sound o.followable.rows.closed) n.here,
    )

module _ {t s s₁ s₂ : List ℕ} {start : ℕ} {path : List ℕ} {levels : ℕ} {at : Standing} {j m : ℕ} {x : Option Standing}
    (d : Descending t s start path levels s₁ at j) (l : j < levels)
    (read : m ≡ number 2 path (2 * j)) (some-number : 0 < m) (z : (y : Path) → FoundAt t s₁ at start y → Stepped t s₁ s₂ start (m - 1) y x) where
  taken : Stepped t s₁ s₂ start (m - 1) d.reached x
  taken = z d.reached d.stands

  next : descended (located_of (meaning t start)) [] (words_at path 0 levels)
      ≡ descended (located_of (meaning t start)) d.reached (suc (m - 1) ∷ words_at path (word_length * (j + 1)) (levels - (j + 1)))
  next =
      d.ahead
      ∙ ap (descended (located_of (meaning t start)) d.reached)
      (words-next path (word_length * j) (levels - j) (omega arith)
      ∙ (λ i. (let e : number 2 path (2 * j) ≡ suc (m - 1) = sym read ∙ (let q : m ≡ suc (m - 1) = omega arith in q) in e) i
      ∷ words_at path ((let e : word_length * j + 2 ≡ word_length * (j + 1) = omega arith in e) i)
      ((let e : levels - j - 1 ≡ levels - (j + 1) = omega arith in e) i)))

  pub descending-more : {next : Standing} → x ≡ Some next → Descending t s start path levels s₂ next (j + 1)
  descending-more {next = at'} e =
      let o = taken.there at' e in
      record {
        reached = suc (m - 1) ∷ d.reached;
        stands = o;
        ahead = next ∙ descended-there (located_of (meaning t start)) (suc (m - 1)) d.reached _ (found-label o).1;
        below = omega arith;
        within = within_both d.within taken.within;
      }

  stops : x ≡ None → descended (located_of (meaning t start)) [] (words_at path 0 levels) ≡ d.reached
  stops e = next ∙ descended-missing (located_of (meaning t start)) (suc (m - 1)) d.reached _ (taken.missing e).0

-- the goal, without labels
goal-located : (t : List ℕ) (start : ℕ) (is : List ℕ) → descended (forest (rules_kept t) start) [] is ≡ descended (located_of (meaning t start)) [] is
unfolding placed_forest
goal-located t start is =
    ap (λ g. descended g [] is) (sym (placed_forest-forgets (rules_kept t) start))
    ∙ descended-relabel label (placed_forest (rules_kept t) start) [] is
    ∙ ap (λ g. descended g [] is) (sym (placed-of (meaning t start)))
    ∙ descended-relabel placed_as (located_of (meaning t start)) [] is

-- the cells where the search stands are those of the path
found-cells : {t s : List ℕ} {at : Standing} {start : ℕ} {y : Path} → FoundAt t s at start y
    → cells_in s at.used ≡ place_at (placed_forest (rules_kept t) start) y
unfolding place_at cells_of label_at top node_at placed_forest
found-cells {t} {s} {at} {start} {y} o = go o.found refl
  where
    go : {q : Path} {n : Node} → Found (meaning t start) q n → n ≡ (at.rule, cells_in s at.used)
        → cells_in s at.used ≡ place_at (placed_forest (rules_kept t) start) q
    go Found.above e = sym (ap (λ (m : Node). m.1) e)
    go (Found.node {x} {n} q) e =
        sym (ap (λ (m : Node). m.1) (sym q.node_is ∙ e))
        ∙ sym
        (ap cells_of
        (placed-label_at (meaning t start) (path_to x)
        ∙ ap (option_map placed_as)
        (sym (ap (λ (v : Spot). label_at (located_of (meaning t start)) (path_to v)) q.spot_is)
        ∙ spot-path (closed-row o.followable.rows.sound o.followable.rows.closed) q.here)))

found-few : {t s : List ℕ} {at : Standing} {start : ℕ} {y : Path} → FoundAt t s at start y → at.used ≤ most_cells (row_count t)
found-few {t} {s} {at} {start} o = go o.found refl
  where
    go : {q : Path} {n : Node} → Found (meaning t start) q n → n ≡ (at.rule, cells_in s at.used) → at.used ≤ most_cells (row_count t)
    go Found.above e = let long = ap (λ (m : Node). length m.1) e ∙ length-cells s at.used in omega arith
    go (Found.node q) e =
        let few = node-short o.followable.rows q in
        let long = ap (λ (m : Node). length m.1) e ∙ length-cells s at.used in
        omega arith

module _ {t s s' : List ℕ} {start : ℕ} {path : List ℕ} {levels : ℕ} {at : Standing} {j : ℕ} (d : Descending t s start path levels s' at j) where
  ends_at : descended (located_of (meaning t start)) [] (words_at path 0 levels) ≡ d.reached → Descended t s s' start path levels at.used
  ends_at e =
      record {
        cells_are = found-cells d.stands ∙ ap (place_at (placed_forest (rules_kept t) start)) (sym (goal-located t start (words_at path 0 levels) ∙ e));
        few = found-few d.stands;
        within = d.within;
      }

  pub descended-all : levels ≤ j → Descended t s s' start path levels at.used
  unfolding descended words_at
  descended-all l =
      let low = d.below in
      let e : levels - j ≡ 0 = omega arith in
      ends_at (d.ahead ∙ ap (λ (n : ℕ). descended (located_of (meaning t start)) d.reached (words_at path (word_length * j) n)) e)

pub descended-stops : {t s s₁ s₂ : List ℕ} {start : ℕ} {path : List ℕ} {levels : ℕ} {at : Standing} {j m : ℕ} {x : Option Standing}
    → (d : Descending t s start path levels s₁ at j) → j < levels
    → m ≡ number 2 path (2 * j) → 0 < m → ((y : Path) → FoundAt t s₁ at start y → Stepped t s₁ s₂ start (m - 1) y x) → x ≡ None
    → Descended t s s₂ start path levels at.used
descended-stops d l read some-number z e =
    let same = ((taken d l read some-number z).missing e).1 in
    rw same (ends_at d (stops d l read some-number z e))

-- the place stored
module _ {t s : List ℕ} {n start : ℕ} (r : Ready t s n start) where
  pub ready-followable : Followable t s start
  unfolding cursor_words
  ready-followable = let room = r.room in let many = r.count in record { rows = r.rows; counted = r.counted; room = omega arith }

  module _ {s' path : List ℕ} {levels k : ℕ} (d : Descended t s s' start path levels k) where
    pub store-room : (cell_length * (k + 1) ≤ cursor_length n) × (cursor_length n ≤ length s')
    unfolding cursor_words
    store-room =
        let room = r.room in
        let many = r.count in
        let few = d.few in
        let same = d.within.same_length in
        (omega arith, omega arith)

    pub stored : {u : List ℕ} → u ≡ stored_cursor n 0 (cells_in s' k) s'
        → u ≡ stored_cursor n 0 (place_at (placed_forest (rules_kept t) start) (goal t start path levels)) s
    unfolding cursor_words
    stored e =
        let many = r.count in
        let long = length-cells s' k in
        let lies = store-room.0 in
        let wide = within_wider cell_length (cursor_length n) (omega arith) (omega arith) d.within in
        e
        ∙ stored_same n 0 (cells_in s' k) s s' (omega arith) wide.same_after
        ∙ ap (λ (cs : Cells). stored_cursor n 0 cs s) d.cells_are
