-- The columns hold the nodes before and after each rule's hole: those of expressions obey the recurrences. What is written elsewhere leaves
-- them, and by them a task's nodes are its rule's. Assumes nothing.
use Prim.Native.Nat.{ℕ, ◌+◌, ◌*◌, ◌/◌, ◌%◌, ◌≤◌, ◌<◌}
use native.Mathlib.Omega.{arith}
use mathlib.Core.Path.{◌≡◌, ap, ◌∙◌}
use mathlib.Core.List.{List}
use lib.ListN.{length}
use lib.Dec.{eqb}
use borrow.Author.Tests.{eqb-false}
use Rattle.rule.specs.Sound.{rule, Sound}
use Rattle.forest.specs.Expression.{Expression}
use Rattle.forest.proofs.Unfold.{unfolding-equation}
use Rattle.forest.proofs.Cases.{by_bool}
use Rattle.work_rows.specs.Rows.{row_length, first_rules, Within}
use Rattle.work_rows.proofs.Rows.{within-field, within-rule}
use Rattle.work_rows.proofs.Kept.{first-length, first-rule, first-same}
use Rattle.count_capped.specs.Count.{capped, count_length}
use Rattle.count_passes.specs.Says.{before}
use Rattle.count_passes.specs.Tally.{Ready, Besides}
use Rattle.count_passes.proofs.Ordered.{rules-besides, ready-besides}
use Rattle.spread_step.specs.Task.{parts, close_task, no_task, task_by}
use Rattle.spread_stack.specs.Run.{meant, Fit, Tasked}
use Rattle.compare_tokens.specs.Nodes.{before_in, after_in, by_part, task_nodes}
use Rattle.compare_tokens.proofs.Nodes.{before-rhs, after-rhs}
use Rattle.compare_nodes.specs.Columns.{at_before, at_after, before_at, after_at, NodesRecur, Noded, NodesKept, task_nodes_in, OfRule, Countable}

-- the nodes of expressions obey the recurrences
pub nodes-recur : {rank : ℕ → ℕ} (s : List ℕ) (n : ℕ) → Sound (first_rules s n) rank
    → NodesRecur s n (λ k. before_in (meant s n k)) (λ k. after_in (meant s n k))
nodes-recur s n S r below =
    let long : length (first_rules s n) ≡ n = first-length s n in
    let u = unfolding-equation S r (omega arith) in
    rw (← (first-rule s n r below))
    (ap before_in u ∙ before-rhs r (rule (first_rules s n) r) (meant s n), ap after_in u ∙ after-rhs r (rule (first_rules s n) r) (meant s n))

-- the rules and their order are as before the pass
pub noded-rules : {n : ℕ} {s t : List ℕ} → Noded n s t → first_rules t n ≡ first_rules s n
noded-rules p = rules-besides p.besides (omega arith)

pub noded-ready : {n : ℕ} {s t : List ℕ} → Noded n s t → Ready s n → Ready t n
noded-ready p g = ready-besides p.besides (omega arith) g

-- so after it the columns hold the nodes of expressions
pub nodes_kept : {rank : ℕ → ℕ} {s t : List ℕ} (n : ℕ) → Sound (first_rules s n) rank → Noded n s t → NodesKept t n
nodes_kept {s = s} {t = t} n S p =
    let same : first_rules t n ≡ first_rules s n = noded-rules p in
    let c = p.columns (λ k. before_in (meant s n k)) (λ k. after_in (meant s n k)) (nodes-recur s n S) in
    record { before = λ k below. rw same (c.0 k below); after = λ k below. rw same (c.1 k below) }

-- other bytes written: the rules and both columns stay
keep : {s t : List ℕ} (n : ℕ) → first_rules t n ≡ first_rules s n → ((k : ℕ) → k < n → (before_at t k ≡ before_at s k) × (after_at t k ≡ after_at s k))
    → NodesKept s n → NodesKept t n
keep n rules same h =
    record {
      before = λ k below. (same k below).0 ∙ rw rules (h.before k below);
      after = λ k below. (same k below).1 ∙ rw rules (h.after k below);
    }

-- past the rows
pub kept-within : {a e : ℕ} {s t : List ℕ} (n : ℕ) → row_length * n ≤ a → Within a e s t → NodesKept s n → NodesKept t n
kept-within {s = s} {t = t} n past w h =
    keep n (first-same s t n (λ k below. within-rule w k (λ l. absurd (omega arith))))
    (λ k below. (within-field w count_length k at_before (λ l. absurd (omega arith)), within-field w count_length k at_after (λ l. absurd (omega arith))))
    h

-- past the columns of each row, as the tasks are
pub kept-besides : {o w : ℕ} {s t : List ℕ} (n : ℕ) → at_after + count_length ≤ o → Besides o w n s t → NodesKept s n → NodesKept t n
kept-besides n past b h =
    keep n (rules-besides b (omega arith))
    (λ k below. (
      b.fields count_length at_before k (omega arith) (λ l. absurd (omega arith)),
      b.fields count_length at_after k (omega arith) (λ l. absurd (omega arith)),
    ))
    h

pub kept-tasked : {s t : List ℕ} (n : ℕ) → Tasked n s t → NodesKept s n → NodesKept t n
kept-tasked n p h = kept-besides n (omega arith) p.besides h

-- a task's nodes, capped
by-part-capped : (p b a : ℕ) {m k : ℕ} → m ≡ capped b → k ≡ capped a → by_part p m k ≡ capped (by_part p b a)
by-part-capped p b a q e = by_bool (eqb p before) (λ u. rw u q) (λ u. rw u e)

pub task-nodes-kept : {t : List ℕ} {n : ℕ} → NodesKept t n → (v : ℕ) → OfRule v (v / parts < n) → task_nodes_in t v ≡ capped (task_nodes (meant t n) v)
unfolding task_nodes_in task_nodes task_by
task-nodes-kept {t} {n} h v below =
    by_bool (eqb v no_task)
    (λ u. rw u)
    (λ u.
    by_bool (eqb v close_task)
    (λ w. rw (u, w))
    (λ w.
    let l : v / parts < n = below (eqb-false v no_task u) (eqb-false v close_task w) in
    rw (u, w)
    (by-part-capped (v % parts) (before_in (meant t n (v / parts))) (after_in (meant t n (v / parts))) (h.before (v / parts) l) (h.after (v / parts) l))))

-- a task that fits a stack has its row
pub countable : {E : ℕ → Expression} {n H k v : ℕ} (t : List ℕ) → row_length * n ≤ length t → Fit E n H k v → Countable t v
countable {n = n} {v = v} t room a some other = let l : v / parts < n = a.reads some other in omega arith

pub task-counted : {E : ℕ → Expression} {n H k v : ℕ} {t : List ℕ} → NodesKept t n → Fit E n H k v → task_nodes_in t v ≡ capped (task_nodes (meant t n) v)
task-counted {v = v} h a = task-nodes-kept h v a.reads
