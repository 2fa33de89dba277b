-- The stack begins with the task of one whole rule, whose text is the rule's and which is no higher than there are rules.
-- Assumes nothing.
use Prim.Native.Nat.{ℕ, ◌*◌, ◌≤◌}
use native.Mathlib.Omega.{arith}
use mathlib.Core.Path.{◌≡◌, sym, ap, ◌∙◌}
use mathlib.Core.List.{List, [], append-nil}
use lib.ListN.{length}
use Rattle.record.specs.declared.Format.{Format}
use Rattle.forest.specs.Expression.{Expression, expression}
use Rattle.forest.specs.Sizes.{height}
use Rattle.forest.proofs.Unfold.{height-expression}
use Rattle.work_rows.specs.Rows.{Within, first_rules}
use Rattle.work_rows.proofs.Rows.{within_both, within_wider}
use Rattle.forest.specs.Spelling.{in_bytes}
use Rattle.count_passes.specs.Says.{whole, says}
use Rattle.spread_step.specs.Task.{task_text, task_in}
use Rattle.spread_step.specs.Step.{tasks_at}
use Rattle.spread_stack.specs.Stack.{tasks_spoken, add_task, tasks_in, Pushed}
use Rattle.spread_stack.specs.Run.{meant, stack_at, work_end, stack_text, Fit, none, RowsTasked, Runnable, Ran, Spreadable}
use Rattle.spread_step.proofs.Tasks.{Stands}
use Rattle.spread_stack.proofs.Fits.{add-text, add-stacked, fit-whole}
use Rattle.spread_stack.proofs.Rows.{view, rule-kept, task-kept}
use Rattle.work_rows.proofs.Kept.{first-length, first-same}

-- the rows keep what they hold
pub meant-kept : (s t : List ℕ) (n e : ℕ) → Within (stack_at n) e s t → meant t n ≡ meant s n
meant-kept s t n e w = ap expression (first-same s t n (rule-kept n e w))

pub rows-tasked-kept : (s t : List ℕ) (n e : ℕ) → Within (stack_at n) e s t → RowsTasked s n → RowsTasked t n
rows-tasked-kept s t n e w a =
    let long : length t ≡ length s = w.same_length in
    record {
      rank = a.rank;
      sound = rw (first-same s t n (rule-kept n e w)) a.sound;
      few = a.few;
      least = a.least;
      room = omega (arith, a.room);
      tasks = λ k below. task-kept n e w k below ∙ a.tasks k below ∙ ap (λ (E : ℕ → Expression). task_in (E k)) (sym (meant-kept s t n e w));
    }

module _ {f : Format} {n r v k : ℕ} {s t out : List ℕ} (a : Spreadable f s out n r) (q : v ≡ tasks_at s r) (p : Pushed (stack_at n) 0 v k s t) where
  changed : Within (stack_at n) (work_end n) s t
  changed = within_wider (stack_at n) (work_end n) (omega arith) (omega (arith, a.rows_tasked.least)) p.within

  same : meant t n ≡ meant s n
  same = meant-kept s t n (work_end n) changed

  stood : Stands (meant s n) n v (meant s n r)
  stood = rw q ((view s n a.rows_tasked).stood r a.below)

  only : tasks_in t (stack_at n) k ≡ add_task v []
  unfolding tasks_in
  only = p.tasks

  fits-first : Fit (meant s n) n (2 * n) 0 v
  fits-first =
      let h : height (meant s n r) ≤ length (first_rules s n) = height-expression (first_rules s n) r in
      fit-whole (meant s n) n (2 * n) 0 v (meant s n r) stood (omega (arith, first-length s n))

  begun : stack_text f t n k ≡ says f (meant s n r) whole
  unfolding tasks_spoken
  begun =
      rw (same, only)
      (add-text (in_bytes f) (meant s n) v [] ∙ append-nil (task_text f (meant s n) v) ∙ stood.text (in_bytes f))

  pub runnable : Runnable f t out n k
  runnable =
      record {
        rows_tasked = rows-tasked-kept s t n (work_end n) changed a.rows_tasked;
        stacked = rw (same, only) (add-stacked (meant s n) n (2 * n) v [] fits-first none);
        fits = rw begun a.fits;
      }

  pub spread-all : {x : ℕ} {u out' : List ℕ} → Ran n (stack_text f t n k) x t u out out' → Ran n (says f (meant s n r) whole) x s u out out'
  spread-all g = let h = rw begun at g in record { long = h.long; writes = h.writes; within = within_both changed h.within }
