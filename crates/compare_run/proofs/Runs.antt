-- The loop over two stacks: the answer is always that of what has been compared and what is left (`Turns`), so at the end, or where the
-- count is above the budget, it is known. What is written stays within the stacks, behind the rows. Assumes nothing.
use Prim.Native.Nat.{ℕ, ◌+◌, ◌-◌, ◌/◌, ◌≤◌, ◌<◌}
use native.Mathlib.Omega.{arith}
use mathlib.Core.Path.{◌≡◌, sym, ap, ◌∙◌}
use mathlib.Core.Bool.{true}
use mathlib.Core.List.{List}
use lib.Dec.{leb}
use lib.ListN.{length}
use borrow.Author.Tests.{leb-true, leb-false}
use Rattle.forest.specs.declared.Compared.{Compared}
use Rattle.forest.specs.Compare.{within}
use Rattle.forest.specs.Expression.{Expression}
use Rattle.forest.proofs.Cases.{by_bool}
use Rattle.work_rows.specs.Rows.{Within}
use Rattle.work_rows.proofs.Rows.{within_none, within_both, within_wider}
use Rattle.count_capped.specs.Count.{count_limit}
use Rattle.spread_step.specs.Task.{parts, task_limit}
use Rattle.spread_stack.specs.Stack.{tasks_spoken, tasks_turns, tasks_in, AllPushed}
use Rattle.spread_stack.specs.Run.{meant, stack_at, work_end, Stacked}
use Rattle.spread_stack.proofs.Rows.{View, view}
use Rattle.spread_stack.proofs.Runs.{tasks-length}
use Rattle.spread_stack.proofs.Begins.{meant-kept, rows-tasked-kept}
use Rattle.compare_tokens.proofs.Skips.{differs-ends}
use Rattle.compare_nodes.proofs.Kept.{kept-within}
use Rattle.compare_run.specs.declared.Progress.{Progress}
use Rattle.compare_run.specs.Turn.{top_in, top_step, Readable, Turnable, TurnMade, skipped, first_replaced, second_replaced, parted, both_replaced}
use Rattle.compare_run.specs.Run.{highest, stack_end, Comparable, stacks_differ, RunMade}
use Rattle.compare_run.proofs.Tokens.{since-same, since-start, spent-since}
use Rattle.compare_run.proofs.Tops.{tasks-within, top_below}
use Rattle.compare_run.proofs.Turns.{answer_from, Turned, stacked-length, turned-skip, turned-first, turned-second, turned-parted, turned-both}

-- a stack is no higher than its room, and a turn's tasks fit it
height : {E : ℕ → Expression} {n : ℕ} (t : List ℕ) (from k : ℕ) → Stacked E n (highest n) (tasks_in t from k) → k ≤ highest n + 1
height {n = n} t from k s = let l : length (tasks_in t from k) ≤ highest n + 1 = stacked-length s in rw (tasks-length t from k) at l

-- a turn, on the stacks as they lie in work
pub record Advanced (n first second budget : ℕ) (x y : Progress) (s t : List ℕ) : Type 0 where
  pub turned : Turned (meant s n) n budget x.agree x.count (tasks_in s first x.one) (tasks_in s second x.two) y.agree y.count (tasks_in t first y.one) (tasks_in t second y.two)
  pub within : Within first (stack_end n second) s t

module _ {s : List ℕ} {n first second budget : ℕ} (x : Progress) (a : Comparable s n first x.one second x.two) (more : 0 < x.one + x.two)
    (low : x.count ≤ budget) (small : budget < count_limit) where
  one-high : x.one ≤ highest n + 1
  one-high = height s first x.one a.one

  two-high : x.two ≤ highest n + 1
  two-high = height s second x.two a.two

  -- what is put on the first stack, and on the second
  on-first : {j : ℕ} {t : List ℕ} → AllPushed first (x.one - 1) (top_step s (top_in s first x.one)) j s t → Within first (stack_end n first) s t
  on-first h = within_wider first (stack_end n first) (omega arith) (omega (arith, one-high)) h.within

  on-second : {k : ℕ} {t u : List ℕ} → AllPushed second (x.two - 1) (top_step s (top_in s second x.two)) k t u → Within second (stack_end n second) t u
  on-second h = within_wider second (stack_end n second) (omega arith) (omega (arith, two-high)) h.within

  wide-first : {t u : List ℕ} → Within first (stack_end n first) t u → Within first (stack_end n second) t u
  wide-first w = within_wider first (stack_end n second) (omega arith) (omega (arith, a.apart)) w

  wide-second : {t u : List ℕ} → Within second (stack_end n second) t u → Within first (stack_end n second) t u
  wide-second w = within_wider first (stack_end n second) (omega (arith, a.apart)) (omega arith) w

  pub advanced : {y : Progress} {t : List ℕ} → TurnMade first second budget x (top_in s first x.one) (top_in s second x.two) s y t
      → Advanced n first second budget x y s t
  advanced (skipped q) =
      record { turned = turned-skip a budget x.agree x.count q more low small; within = within_none first (stack_end n second) s }
  advanced (first_replaced {j} {t} q h) =
      let kept : tasks_in t second x.two ≡ tasks_in s second x.two = tasks-within (on-first h) second x.two (λ l. omega (arith, a.apart)) in
      record { turned = rw (h.tasks, kept) (turned-first a budget x.agree x.count q low); within = wide-first (on-first h) }
  advanced (second_replaced {k} {t} q h) =
      let kept : tasks_in t first x.one ≡ tasks_in s first x.one =
      tasks-within (on-second h) first x.one (λ l. absurd (omega (arith, a.apart, one-high))) in
      record { turned = rw (h.tasks, kept) (turned-second a budget x.agree x.count q low); within = wide-second (on-second h) }
  advanced (parted p q r) =
      record {
        turned = unfold tasks_in in turned-parted a budget x.agree x.count p q r more low;
        within = within_none first (stack_end n second) s;
      }
  advanced (both_replaced {j} {k} {t} {u} p q r h i) =
      let next = turned-both a budget x.agree x.count p q r low in
      let high : j ≤ highest n + 1 = height {E = meant s n} t first j (rw h.tasks next.one) in
      let kept : tasks_in u first j ≡ tasks_in t first j = tasks-within (on-second i) first j (λ l. absurd (omega (arith, a.apart))) in
      let rest : tasks_in t second (x.two - 1) ≡ tasks_in s second (x.two - 1) = tasks-within (on-first h) second (x.two - 1) (λ l. omega (arith, a.apart)) in
      record {
        turned = rw (i.tasks, kept, h.tasks, rest) next;
        within = within_both (wide-first (on-first h)) (wide-second (on-second i));
      }

-- the loop so far; s is work where it begins, with j and k tasks on the stacks
pub record Going (n first j second k budget : ℕ) (s t : List ℕ) (x : Progress) : Type 0 where
  pub comparable : Comparable t n first x.one second x.two
  pub answer : answer_from (meant t n) budget x.agree x.count (tasks_in t first x.one) (tasks_in t second x.two) ≡ within budget (stacks_differ s n first j second k)
  pub within : Within first (stack_end n second) s t
  pub counted : x.count ≤ budget + 1

-- the turns to come
abbrev pub turns_left : ℕ → ℕ → ℕ → List ℕ → Progress → ℕ
turns_left n first second t x = tasks_turns (meant t n) (tasks_in t first x.one) + tasks_turns (meant t n) (tasks_in t second x.two)

pub going_start : {n first j second k : ℕ} (budget : ℕ) {s : List ℕ} → Comparable s n first j second k
    → Going n first j second k budget s s (record { one = j; two = k; agree = true; count = 0 })
going_start {n} {first} {j} {second} {k} budget {s} a =
    record {
      comparable = a;
      answer = ap (within budget) (since-start (stacks_differ s n first j second k));
      within = within_none first (stack_end n second) s;
      counted = omega arith;
    }

-- a task on top can be read
readable : {t : List ℕ} {n first j second k : ℕ} → Comparable t n first j second k → (from i : ℕ) → Stacked (meant t n) n (highest n) (tasks_in t from i)
    → Readable t (top_in t from i)
readable {t} {n} a from i s some ruled =
    let rows : View (meant t n) n t = view t n a.rows_tasked in
    let below : top_in t from i / parts < n = top_below rows from i s some ruled in
    let room : work_end n ≤ length t = a.rows_tasked.room in
    let few : n ≤ task_limit = a.rows_tasked.few in
    record {
      room = omega arith;
      few = omega arith;
      named = λ m names. let l : m < n = rows.named (top_in t from i / parts) below m names in (omega arith, omega arith);
    }

module _ {n first j second k budget : ℕ} {s t : List ℕ} {x : Progress} (p : Going n first j second k budget s t x) where
  pub going-turnable : x.count ≤ budget → Turnable t first second budget x
  going-turnable low =
      let a : Comparable t n first x.one second x.two = p.comparable in
      let one : x.one ≤ highest n + 1 = height t first x.one a.one in
      let two : x.two ≤ highest n + 1 = height t second x.two a.two in
      record {
        reads_one = readable a first x.one a.one;
        reads_two = readable a second x.two a.two;
        room_one = omega (arith, a.apart, a.room);
        room_two = omega (arith, a.room);
        counted = low;
      }

  module _ {u : List ℕ} {y : Progress} (low : (x.count ≤ budget) × (0 < x.one + x.two)) (small : budget < count_limit)
      (made : TurnMade first second budget x (top_in t first x.one) (top_in t second x.two) t y u) where
    next : Advanced n first second budget x y t u
    next = advanced x p.comparable low.1 low.0 small made

    behind : Within (stack_at n) (stack_end n second) t u
    behind = within_wider (stack_at n) (stack_end n second) p.comparable.behind (omega arith) next.within

    same : meant u n ≡ meant t n
    same = meant-kept t u n (stack_end n second) behind

    pub going_more : Going n first j second k budget s u y
    going_more =
        let a : Comparable t n first x.one second x.two = p.comparable in
        let long : length u ≡ length t = next.within.same_length in
        record {
          comparable =
              record {
                rows_tasked = rows-tasked-kept t u n (stack_end n second) behind a.rows_tasked;
                nodes_kept = kept-within n a.behind next.within a.nodes_kept;
                one = rw same next.turned.one;
                two = rw same next.turned.two;
                behind = a.behind;
                apart = a.apart;
                room = omega (arith, a.room);
              };
          answer = rw same (next.turned.answer ∙ p.answer);
          within = within_both p.within next.within;
          counted = next.turned.counted;
        }

    pub going_less : turns_left n first second u y < turns_left n first second t x
    going_less = rw same next.turned.turns

  -- nothing is left, or the budget is spent
  pub going_end : {r : Compared} → r ≡ within budget (x.agree, x.count) → (x.count ≤ budget → (x.one ≡ 0) × (x.two ≡ 0))
      → RunMade n first j second k budget r s t
  unfolding tasks_in tasks_spoken
  going_end {r} q done =
      record {
        answer =
            q
            ∙ by_bool (leb x.count budget)
            (λ u.
            let z = done (leb-true x.count budget u) in
            let e : answer_from (meant t n) budget x.agree x.count (tasks_in t first x.one) (tasks_in t second x.two) ≡ within budget (x.agree, x.count) =
            rw (z.0, z.1, differs-ends, since-same x.agree x.count) in
            sym e)
            (λ u. sym (spent-since budget x.agree x.count _ (leb-false x.count budget u)))
            ∙ p.answer;
        within = p.within;
      }
