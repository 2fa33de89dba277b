-- The subtrees at two nodes: their tasks lie on two stacks, apart; the passes over the rows leave them there; and the loop over the stacks
-- compares what they say. Assumes nothing.
use Prim.Native.Nat.{ℕ, ◌*◌, ◌≤◌, ◌<◌}
use native.Mathlib.Omega.{arith}
use mathlib.Core.Path.{◌≡◌, refl, sym, ap, ap₂, ◌∙◌}
use mathlib.Core.List.{List}
use mathlib.Core.Logic.{inr}
use lib.ListN.{length}
use lib.Dec.{ltb, ltb→lt}
use Rattle.rule.specs.declared.Rule.{Rule}
use Rattle.rule.specs.Names.{Names, pair_one, node_one, fill_one, part_one, join_one}
use Rattle.rule.specs.Sound.{rule, Sound}
use Rattle.rule.proofs.Names.{every-named}
use Rattle.forest.specs.declared.Compared.{Compared}
use Rattle.forest.specs.Expression.{expression, rhs}
use Rattle.forest.specs.Sizes.{height}
use Rattle.forest.specs.Walk.{cells_in}
use Rattle.forest.specs.Forest.{forest}
use Rattle.forest.specs.Compare.{subtree_at, pairs_found, within}
use Rattle.forest.proofs.Unfold.{unfolding-equation}
use Rattle.work_rows.specs.Rows.{work_length, row_length, first_rules, Within}
use Rattle.work_rows.specs.Order.{order_in}
use Rattle.work_rows.proofs.Rows.{within_both, within_wider}
use Rattle.work_rows.proofs.Kept.{first-length, first-rule}
use Rattle.work_rows.proofs.Order.{order-kept}
use Rattle.count_passes.specs.Tally.{Ready}
use Rattle.count_passes.proofs.Column.{besides-rule}
use Rattle.count_passes.proofs.Ordered.{rules-besides}
use Rattle.spread_step.specs.Task.{task_in}
use Rattle.spread_stack.specs.Stack.{tasks_in}
use Rattle.spread_stack.specs.Run.{meant, Stacked, Taskable, Tasked, RowsTasked}
use Rattle.spread_stack.proofs.Rows.{task-recurs}
use Rattle.compare_tokens.specs.Tokens.{differs}
use Rattle.compare_tokens.specs.Stacks.{tasks_tokens}
use Rattle.compare_nodes.specs.Columns.{Noded}
use Rattle.compare_nodes.proofs.Kept.{nodes_kept, noded-rules, noded-ready, kept-tasked}
use Rattle.compare_place.specs.Begun.{begun_tasks}
use Rattle.compare_place.proofs.Places.{begun-found}
use Rattle.compare_begin.specs.declared.Begun.{Begun}
use Rattle.compare_begin.specs.Stack.{kept_rule, kept_run, tasks_of}
use Rattle.compare_begin.specs.Begin.{Beginnable, BegunAt}
use Rattle.compare_begin.proofs.Stacks.{tasks-kept}
use Rattle.compare_begin.proofs.Runs.{rows-kept}
use Rattle.compare_begin.proofs.Begins.{begun-says, begun-begins, begun-rows, begun-high}
use Rattle.compare_run.specs.Run.{Comparable, RunMade}
use Rattle.letter_arrival.specs.declared.Standing.{Standing}
use Rattle.compare.specs.Places.{first_stack, second_stack, Standings, begun_differ}

-- a rule that isn't empty names another, of lower rank, so that there are two rules at least
named : (x : Rule) → (x ≡ Rule.Empty → ⊥) → (k : ℕ) × Names x k
named Rule.Empty f = absurd (f refl)
named (Rule.Pair b c) f = (b, pair_one)
named (Rule.Node a c) f = (c, node_one)
named (Rule.Fill b c) f = (b, fill_one)
named (Rule.Part a b c) f = (b, part_one)
named (Rule.Join b c) f = (b, join_one)

two_rules : {R : List Rule} {rank : ℕ → ℕ} → Sound R rank → (p : ℕ) → p < length R → 1 ≤ height (expression R p) → 2 ≤ length R
unfolding rhs height
two_rules {R} {rank} S p below high =
    let empty : rule R p ≡ Rule.Empty → ⊥ = λ q.
    let e : height (expression R p) ≡ 0 = ap height (unfolding-equation S p below ∙ ap (λ (x : Rule). rhs p x (expression R)) q) in omega arith in
    let k = named (rule R p) empty in
    let l : rank k.0 < rank p = ltb→lt (rank k.0) (rank p) (every-named (λ x. ltb (rank x) (rank p)) k.1 (S.falls p below)) in
    omega (arith, S.ranked p below)

module _ {t : List ℕ} {n : ℕ} {first second : List ℕ} {h g : Standing} (S : Standings t n first second h g) where
  pub first-begins : Beginnable t first n (first_stack * n) h.used h.rule
  first-begins = record { rows = S.rows; place = S.one; lies = S.first_lies; behind = omega arith; room = omega (arith, S.room) }

  -- the second could be begun there too
  second-might : Beginnable t second n (first_stack * n) g.used g.rule
  second-might = record { rows = S.rows; place = S.two; lies = S.second_lies; behind = omega arith; room = omega (arith, S.room) }

  -- the subtrees are compared by the tokens of their tasks
  pub begun-pairs : pairs_found (subtree_at (forest (first_rules t n) S.one.walked) S.one.path) (subtree_at (forest (first_rules t n) S.two.walked) S.two.path)
      ≡ begun_differ t n first second h g
  unfolding first-begins second-might
  begun-pairs = begun-found (begun-says first-begins) (begun-says second-might)

  least : 2 ≤ n
  least =
      let k = begun-high first-begins in
      let long = first-length t n in
      let l = two_rules S.rows.sound h.rule (omega (arith, k.0)) k.1 in omega arith

  module _ {a : Begun} {u : List ℕ} (A : BegunAt n (first_stack * n) h.used h.rule first a t u) where
    rules-one : first_rules u n ≡ first_rules t n
    rules-one = begun-rows first-begins A

    order-one : order_in u n ≡ order_in t n
    order-one = order-kept A.within n (inr (omega arith))

    pub second-begins : Beginnable u second n (second_stack * n) g.used g.rule
    second-begins =
        record {
          rows = rows-kept n rules-one S.rows;
          place =
              record {
                walked = S.two.walked;
                closed = rw rules-one S.two.closed;
                path = S.two.path;
                same = rw rules-one S.two.same;
                least = S.two.least;
              };
          lies = S.second_lies;
          behind = omega arith;
          room = omega (arith, S.room, A.within.same_length);
        }

    module _ {b : Begun} {v : List ℕ} (B : BegunAt n (second_stack * n) g.used g.rule second b u v) where
      rules-two : first_rules v n ≡ first_rules t n
      rules-two = begun-rows second-begins B ∙ rules-one

      order-two : order_in v n ≡ order_in t n
      order-two = order-kept B.within n (inr (omega arith)) ∙ order-one

      long-two : length v ≡ length t
      long-two = B.within.same_length ∙ A.within.same_length

      pub nodes-ready : Ready v n
      nodes-ready =
          record {
            room = omega (arith, S.room, long-two);
            ranged = rw rules-two S.rows.sound.in_range;
            order = rw (rules-two, order-two) S.order;
          }

      -- what lies on the stacks
      one-begun : tasks_of v a ≡ begun_tasks (kept_rule t n) (kept_run t n) h.rule (cells_in first h.used)
      one-begun = tasks-kept B.within a.from a.tasks (λ l. absurd (omega (arith, A.top))) ∙ A.tasks

      two-begun : tasks_of v b ≡ begun_tasks (kept_rule t n) (kept_run t n) g.rule (cells_in second g.used)
      two-begun = rw rules-one at B.tasks

      module _ {w : List ℕ} (N : Noded n v w) where
        pub tasks-ready : Taskable w n
        tasks-ready = record { ready = noded-ready N nodes-ready; few = S.rows.few }

        module _ {z : List ℕ} (T : Tasked n w z) where
          rows-changed : Within 0 (row_length * n) v z
          rows-changed = within_both N.besides.beyond T.besides.beyond

          rules-all : first_rules z n ≡ first_rules t n
          rules-all = rules-besides T.besides (omega arith) ∙ noded-rules N ∙ rules-two

          long-all : length z ≡ length t
          long-all = rows-changed.same_length ∙ long-two

          kept : (from k : ℕ) → row_length * n ≤ from → tasks_in z from k ≡ tasks_in v from k
          kept from k l = tasks-kept rows-changed from k (λ m. l)

          one-all : tasks_in z a.from a.tasks ≡ begun_tasks (kept_rule t n) (kept_run t n) h.rule (cells_in first h.used)
          one-all = kept a.from a.tasks (omega (arith, A.low)) ∙ one-begun

          two-all : tasks_in z b.from b.tasks ≡ begun_tasks (kept_rule t n) (kept_run t n) g.rule (cells_in second g.used)
          two-all = kept b.from b.tasks (omega (arith, B.low)) ∙ two-begun

          sound-all : Sound (first_rules z n) S.rows.rank
          sound-all = rw rules-all S.rows.sound

          rows_tasked : RowsTasked z n
          rows_tasked =
              record {
                rank = S.rows.rank;
                sound = sound-all;
                few = S.rows.few;
                least = omega (arith, least);
                room = omega (arith, S.room, long-all);
                tasks =
                    T.column (λ k. task_in (meant z n k))
                    (task-recurs w n sound-all (first-length z n)
                    (λ k below. sym (besides-rule T.besides (omega arith) k) ∙ sym (first-rule z n k below)));
              }

          one-stacked : Stacked (meant z n) n (3 * n) (tasks_in z a.from a.tasks)
          one-stacked = rw (rules-all, one-all) (let s = (begun-begins first-begins A).stacked in rw (A.tasks, first-length t n) at s)

          two-stacked : Stacked (meant z n) n (3 * n) (tasks_in z b.from b.tasks)
          two-stacked = rw (rules-all, two-all) (let s = (begun-begins second-begins B).stacked in rw (B.tasks, rules-one, first-length t n) at s)

          pub comparable : Comparable z n a.from a.tasks b.from b.tasks
          comparable =
              record {
                rows_tasked = rows_tasked;
                nodes_kept = kept-tasked n T (nodes_kept {rank = S.rows.rank} n (rw rules-two S.rows.sound) N);
                one = one-stacked;
                two = two-stacked;
                behind = omega (arith, A.low);
                apart = omega (arith, A.high, B.low, least);
                room = omega (arith, B.high, least, S.room, long-all);
              }

          pub compared : {budget : ℕ} {x : Compared} {y : List ℕ} → RunMade n a.from a.tasks b.from b.tasks budget x z y
              → (x ≡ within budget (begun_differ t n first second h g)) × Within 0 (work_length * n) t y
          compared {budget} r = (
            r.answer
                ∙ ap (within budget)
                (ap₂ differs
                (ap₂ (λ (R : List Rule) (vs : List ℕ). tasks_tokens (expression R) vs) rules-all one-all)
                (ap₂ (λ (R : List Rule) (vs : List ℕ). tasks_tokens (expression R) vs) rules-all two-all)),
            within_both (within_wider 0 (work_length * n) (omega arith) (omega arith) A.within)
                (within_both (within_wider 0 (work_length * n) (omega arith) (omega arith) B.within)
                (within_both (within_wider 0 (work_length * n) (omega arith) (omega arith) rows-changed)
                (within_wider 0 (work_length * n) (omega arith) (omega (arith, B.high, least)) r.within))),
          )
