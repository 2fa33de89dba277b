-- Compare's answer and what it leaves, by the ways through its code: turned down by check, for what is lent, by a place, or past 10, where
-- the two subtrees are compared; past 8 the work is cleared. Assumes nothing.
use Rattle.std.specs.Prelude.{Result, Ok, Err}
use Prim.Native.Nat.{ℕ, ◌+◌, ◌*◌, ◌/◌, ◌≤◌}
use native.Mathlib.Omega.{arith}
use mathlib.Core.Path.{◌≡◌, refl, sym, ap, ◌∙◌}
use mathlib.Core.Bool.{true, false, and-eq-true_iff}
use mathlib.Core.List.{List}
use lib.ListN.{length, take}
use lib.Seq.{length-take-le}
use lib.Dec.{leb}
use borrow.Author.Tests.{leb-true}
use Rattle.words.specs.Number.{word_count}
use Rattle.refusal.specs.declared.Refusal.{Refusal}
use Rattle.rule.specs.declared.Rule.{Rule}
use Rattle.record.specs.Record.{word_length}
use Rattle.plan.specs.Check.{checked, rules_of, most_rules}
use Rattle.plan.proofs.Sound.{Plan, checked-plan}
use Rattle.reach.specs.Order.{Orders, rank}
use Rattle.forest.specs.declared.Compared.{Compared}
use Rattle.forest.specs.Forest.{forest}
use Rattle.forest.specs.Outcome.{work_words, enough_work, cleared, work_after}
use Rattle.forest.specs.Walk.{Begun, cursor_words, place_judged}
use Rattle.forest.specs.Compare.{subtree_at, pairs_found, within, node_judged, compared_at, enough_compared, compared_from, compare, compared_work}
use Rattle.work_rows.specs.Rows.{work_length, row_length, first_rules, Within}
use Rattle.work_rows.specs.Order.{order_in}
use Rattle.work_rows.proofs.Work.{enough-room, enough-words, work-cleared}
use Rattle.work_load.specs.Prepared.{Arrangeable}
use Rattle.facts_load.specs.Filled.{Filled}
use Rattle.facts_load.proofs.Filling.{walked-rows}
use Rattle.letter_arrival.specs.declared.Standing.{Standing}
use Rattle.letter_moves.specs.Standing.{rules_kept}
use Rattle.letter_moves.proofs.Stands.{stands-few}
use Rattle.place_cells.specs.Cells.{Lies}
use Rattle.place_open.specs.Open.{Openable}
use Rattle.compare_begin.specs.Begin.{NodePlace}
use Rattle.compare.specs.Places.{Lendable, StandsAt, BothOpen, Standings, begun_differ}
use Rattle.compare.proofs.Subtrees.{begun-pairs}

module _ {s : List ℕ} {n start : ℕ} {work first second : List ℕ} (L : Lendable s n start work first second) where
  pub arrangeable : Arrangeable s n work
  arrangeable = record { start = start; accepted = L.accepted; room = L.worked }

  whole : Plan most_rules s n start
  whole = checked-plan s n start L.accepted

  -- the table is filled in the first rows of the work
  module _ {t : List ℕ} (f : Filled (rules_of s) (take (row_length * n) t)) (rules : first_rules t n ≡ rules_of s) (order : Orders (rules_of s) (order_in t n))
      (w : Within 0 (work_length * n) work t) where
    pub prefix-long : length (take (row_length * n) t) ≡ row_length * n
    prefix-long = let room = L.worked in let same = w.same_length in length-take-le (row_length * n) t (omega arith)

    pub openable : Openable start n (take (row_length * n) t) first × Openable start n (take (row_length * n) t) second
    openable =
        let long = prefix-long in
        let rows = walked-rows whole.sound whole.ends f in
        (record { rows = rows; count = omega arith; room = L.one }, record { rows = rows; count = omega arith; room = L.two })

    -- the rules of the rows are those of the work
    same-rules : rules_kept (take (row_length * n) t) ≡ first_rules t n
    same-rules = f.rules ∙ sym rules

    node-place : {cursor : List ℕ} {h : Standing} → StandsAt (take (row_length * n) t) n start cursor h → NodePlace t n cursor h.used h.rule
    node-place x =
        record {
          walked = x.walked;
          closed = rw same-rules at x.node.opens.place.rows.closed;
          path = x.node.opens.path;
          same = rw same-rules at x.node.opens.stood.same;
          least = x.node.least;
        }

    -- a node's cells lie in the cursor
    node-lies : {cursor : List ℕ} {h : Standing} → StandsAt (take (row_length * n) t) n start cursor h → Lies cursor h.used
    node-lies x = let few = stands-few x.node.opens.place in let room = x.node.opens.place.room in omega arith

    node-judged : {cursor : List ℕ} {h : Standing} (x : StandsAt (take (row_length * n) t) n start cursor h)
        → node_judged (place_judged (rules_of s) n start cursor) ≡ Begun.at n x.walked x.node.opens.path
    node-judged x = rw f.rules at x.node.judged

    -- two nodes of two cursors, or of one
    pub standings : {one two : List ℕ} {h g : Standing} → StandsAt (take (row_length * n) t) n start one h
        → StandsAt (take (row_length * n) t) n start two g → Standings t n one two h g
    standings x y =
        record {
          rows = record { rank = rank (rules_of s); sound = rw rules whole.sound; few = whole.greatest };
          room = let room = L.worked in let same = w.same_length in omega arith;
          order = rw rules order;
          one = node-place x;
          two = node-place y;
          first_lies = node-lies x;
          second_lies = node-lies y;
        }

    module _ {h g : Standing} (x : StandsAt (take (row_length * n) t) n start first h) (y : StandsAt (take (row_length * n) t) n start second g) where
      -- the subtrees are compared by the tokens of their tasks
      found : begun_differ t n first second h g
          ≡ pairs_found (subtree_at (forest (rules_of s) x.walked) x.node.opens.path) (subtree_at (forest (rules_of s) y.walked) y.node.opens.path)
      unfolding standings node-place
      found =
          sym (begun-pairs (standings x y))
          ∙ ap (λ (R : List Rule). pairs_found (subtree_at (forest R x.walked) x.node.opens.path) (subtree_at (forest R y.walked) y.node.opens.path)) rules

      pub answered : (budget : ℕ) {z : Compared} → z ≡ within budget (begun_differ t n first second h g)
          → Ok z ≡ compared_at (rules_of s) budget (node_judged (place_judged (rules_of s) n start first)) (node_judged (place_judged (rules_of s) n start second))
      unfolding compared_at
      answered budget q = rw (node-judged x, node-judged y) (ap Ok (q ∙ ap (within budget) found))

    pub turned_down_lem : (budget : ℕ) {why : Refusal} {z : Result (Standing × Standing) Refusal} → BothOpen (take (row_length * n) t) n start first second z → z ≡ Err why
        → Err why ≡ compared_at (rules_of s) budget (node_judged (place_judged (rules_of s) n start first)) (node_judged (place_judged (rules_of s) n start second))
    turned_down_lem budget {why} b q = sym (rw f.rules at (b.refused why budget q))

module _ (s work first second : List ℕ) (budget : ℕ) where
  pub refused : (why : Refusal) → checked s ≡ Err why
      → (Err why ≡ compare s work first second budget) × (work ≡ compared_work s work first second)
  unfolding compare compared_from compared_work work_after
  refused why q = rw q (refl, refl)

  module _ (n start : ℕ) (q : checked s ≡ Ok (record { n = n; start = start })) where
    pub lent : enough_compared work first second n ≡ false
        → (Err Refusal.Lent ≡ compare s work first second budget) × (work ≡ compared_work s work first second)
    unfolding compare compared_from compared_work work_after
    lent e = rw (q, e) (refl, refl)

    -- what 8 gives
    pub lendable : enough_compared work first second n ≡ true → Lendable s n start work first second
    unfolding enough_compared cursor_words
    lendable e =
        let worked = ((and-eq-true_iff (enough_work n work) _).0 e).0 in
        let rest = ((and-eq-true_iff (enough_work n work) _).0 e).1 in
        let far : 16 * (n + 1) ≤ length first / 2 = leb-true _ _ ((and-eq-true_iff (leb (cursor_words n) (word_count first)) _).0 rest).0 in
        let near : 16 * (n + 1) ≤ length second / 2 = leb-true _ _ ((and-eq-true_iff (leb (cursor_words n) (word_count first)) _).0 rest).1 in
        record { accepted = q; worked = enough-room n work worked; words = enough-words n work worked; one = omega arith; two = omega arith }

    -- past 8
    pub finished : {x : Result Compared Refusal} {t u : List ℕ} → enough_compared work first second n ≡ true
        → x ≡ compared_at (rules_of s) budget (node_judged (place_judged (rules_of s) n start first)) (node_judged (place_judged (rules_of s) n start second))
        → Within 0 (work_length * n) work t → u ≡ cleared (word_length * work_words n) t
        → (x ≡ compare s work first second budget) × (u ≡ compared_work s work first second)
    unfolding compare compared_from compared_work
    finished {t = t} e a w p = (rw (q, e) a, p ∙ work-cleared (enough_compared work first second) (checked s) work n start q e t w)
