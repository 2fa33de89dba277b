-- Spread's loop: what is written followed by the text of the tasks is always the whole text, so the output has room for every byte, and
-- when no task is left all of it is written. Each task over k others has k + 2 × its height at most 2 × n, so the stack stays within
-- the work's bytes past the rows; and the tasks still to come grow fewer with each turn. Assumes nothing.
use Prim.Native.Nat.{ℕ, zero, suc, ◌+◌, ◌-◌, ◌*◌, ◌/◌, ◌≤◌, ◌<◌}
use native.Mathlib.Omega.{arith}
use mathlib.Core.Path.{◌≡◌, refl, sym, ap, ap₂, ◌∙◌}
use mathlib.Core.List.{List, ◌∷◌, ◌++◌, append_assoc, append-nil}
use lib.ListN.{length, take, drop, length-append, length-drop, take-append-drop}
use lib.Seq.{length-take-le, take_at, drop-append-add, drop-drop}
use Rattle.record.specs.declared.Format.{Format}
use Rattle.record.specs.Record.{word_length}
use Rattle.words.specs.Front.{in_front}
use Rattle.forest.specs.Expression.{Expression}
use Rattle.work_rows.specs.Rows.{rule_in, Within}
use Rattle.work_rows.proofs.Rows.{within_none, within_both, within_wider}
use Rattle.spread_stack.specs.declared.State.{State}
use Rattle.forest.specs.Spelling.{in_bytes}
use Rattle.spread_step.specs.Task.{parts, close_task, task_height}
use Rattle.spread_step.specs.Step.{said_bytes, tasks_at, step_in}
use Rattle.spread_stack.specs.Stack.{tasks_spoken, tasks_text, tasks_turns, add_tasks, tasks_in, tasks_held, written, Lifted, Turnable, TurnMade}
use Rattle.spread_stack.specs.Run.{meant, stack_at, work_end, stack_text, Stacked, on, Runnable, Ran}
use Rattle.spread_stack.proofs.Turns.{Turned, turn}
use Rattle.spread_stack.proofs.Rows.{View, view, view-kept}

-- the task in hand
held-top : (v : ℕ) (t : List ℕ) (from k : ℕ) → 0 < k → tasks_held v t from k ≡ v ∷ tasks_in t from (k - 1)
unfolding tasks_held
held-top v t from zero l = absurd (omega arith)
held-top v t from (suc k) l = let e : suc k - 1 ≡ k = omega arith in rw e

pub tasks-length : (t : List ℕ) (from k : ℕ) → length (tasks_in t from k) ≡ k
unfolding tasks_in
tasks-length t from zero = refl
tasks-length t from (suc k) = ap suc (tasks-length t from k)

-- the loop so far; s and out₀ are work and output where it begins, with the first tasks on the stack
pub record Running (f : Format) (n first : ℕ) (s out₀ t out : List ℕ) (v k at : ℕ) : Type 0 where
  pub within : Within (stack_at n) (work_end n) s t
  pub long : length out ≡ length out₀
  pub far : at ≤ length out
  pub text : take at out ++ tasks_text f (meant s n) (tasks_held v t (stack_at n) k) ≡ stack_text f s n first
  pub rest : drop (length (stack_text f s n first)) out ≡ drop (length (stack_text f s n first)) out₀
  pub stacked : Stacked (meant s n) n (2 * n) (tasks_held v t (stack_at n) k)

pub running-start : {f : Format} {n first : ℕ} {s out : List ℕ} {x : State} → Runnable f s out n first → Lifted (stack_at n) first 0 x s
    → Running f n first s out s out x.task x.tasks x.at
running-start {n = n} {s = s} a p =
    record {
      within = within_none (stack_at n) (work_end n) s;
      long = refl;
      far = omega (arith, p.stays);
      text = rw (p.tasks, p.stays);
      rest = refl;
      stacked = rw p.tasks a.stacked;
    }

-- what a stack's top and the rest are known to be
pub stacked-top : {E : ℕ → Expression} {n H v : ℕ} {vs : List ℕ} → Stacked E n H (v ∷ vs)
    → ((v ≡ close_task → ⊥) → v / parts < n) × (length vs ≤ H)
stacked-top {E} {H = H} {v = v} {vs = vs} (on some a s) = (a.reads some, let l : length vs + 2 * task_height E v ≤ H = a.low some in omega arith)

-- the tasks that a stack begins with lie within the work
pub liftable : {f : Format} {n first : ℕ} {s out : List ℕ} → Runnable f s out n first → stack_at n + word_length * first ≤ length s
unfolding tasks_in
liftable {first = zero} a = omega (arith, a.rows_tasked.room)
liftable {n = n} {first = suc k} {s = s} a =
    let top : length (tasks_in s (stack_at n) k) ≤ 2 * n = (stacked-top a.stacked).1 in
    let height : length (tasks_in s (stack_at n) k) ≡ k = tasks-length s (stack_at n) k in
    omega (arith, a.rows_tasked.least, a.rows_tasked.room)

module _ {f : Format} {n first : ℕ} {s out₀ t out : List ℕ} {v k at : ℕ} (a : Runnable f s out₀ n first) (p : Running f n first s out₀ t out v k at) (some : 0 < k) where
  below_top : List ℕ
  below_top = tasks_in t (stack_at n) (k - 1)

  top-stacked : Stacked (meant s n) n (2 * n) (v ∷ below_top)
  unfolding below_top
  top-stacked = rw (held-top v t (stack_at n) k some) at p.stacked

  rows : View (meant s n) n t
  rows = view-kept n (work_end n) p.within (view s n a.rows_tasked)

  -- the turn that follows, on the model
  turned : Turned (in_bytes f) (meant s n) n (2 * n) v below_top (step_in t v)
  turned =
      turn (in_bytes f) (meant s n) n (2 * n) (tasks_at t) (rule_in t) rows.stood rows.unfolds rows.named v below_top top-stacked

  top-text : take at out ++ (said_bytes f (step_in t v).said ++ tasks_text f (meant s n) (add_tasks (step_in t v) below_top)) ≡ stack_text f s n first
  unfolding below_top
  top-text =
      ap (λ (l : List ℕ). take at out ++ l) (sym turned.text ∙ ap (tasks_text f (meant s n)) (sym (held-top v t (stack_at n) k some)))
      ∙ p.text

  -- its bytes end within the text
  next-far : at + length (said_bytes f (step_in t v).said) ≤ length (stack_text f s n first)
  next-far =
      let l : length (take at out) ≡ at = length-take-le at out p.far in
      let e : length (take at out ++ (said_bytes f (step_in t v).said ++ tasks_text f (meant s n) (add_tasks (step_in t v) below_top))) ≡ length (stack_text f s n first) = ap length top-text in
      omega (arith, simp length-append at e)

  -- and its tasks within the work
  stack-below : stack_at n + word_length * (k - 1 + 3) ≤ work_end n
  stack-below =
      let top : length below_top ≤ 2 * n = (stacked-top top-stacked).1 in
      let height : length below_top ≡ k - 1 = unfold below_top in tasks-length t (stack_at n) (k - 1) in
      omega (arith, a.rows_tasked.least)

  pub turnable : Turnable f t out (stack_at n) v (k - 1) at
  turnable =
      let l : length t ≡ length s = p.within.same_length in
      let r : work_end n ≤ length s = a.rows_tasked.room in
      record {
        steps = λ ruled.
            let below : v / parts < n = (stacked-top top-stacked).0 ruled in
            record {
              room = omega arith;
              named = λ j m. let l : j < n = rows.named (v / parts) below j m in (omega arith, omega (arith, a.rows_tasked.few));
              few = omega (arith, a.rows_tasked.few);
            };
        stack = omega (arith, stack-below);
        fits = omega (arith, next-far, a.fits, p.long);
      }

-- bytes written after at others: the front, what is past them, the length
module _ (out : List ℕ) (at : ℕ) (bs : List ℕ) (fits : at + length bs ≤ length out) where
  front : List ℕ
  front = take at out ++ bs

  front_length : length front ≡ at + length bs
  unfolding front
  front_length = length-append (take at out) bs ∙ ap (λ (m : ℕ). m + length bs) (length-take-le at out (omega arith))

  written-front : written out at bs ≡ front ++ drop (at + length bs) out
  unfolding front
  written-front = sym (append_assoc (take at out) bs (drop (at + length bs) out))

  written-take : take (at + length bs) (written out at bs) ≡ take at out ++ bs
  unfolding front
  written-take = ap (take (at + length bs)) written-front ∙ take_at front (drop (at + length bs) out) (at + length bs) front_length

  written-length : length (written out at bs) ≡ length out
  written-length =
      ap length written-front
      ∙ length-append front (drop (at + length bs) out)
      ∙ (let l : length front ≡ at + length bs = front_length in rw (length-drop (at + length bs) out) (omega arith))

  written-drop : (m : ℕ) → at + length bs ≤ m → drop m (written out at bs) ≡ drop m out
  written-drop m past =
      let l : length front ≡ at + length bs = front_length in
      let e : length front + (m - (at + length bs)) ≡ m = omega arith in
      let d : (at + length bs) + (m - (at + length bs)) ≡ m = omega arith in
      ap₂ drop (sym e) written-front
      ∙ drop-append-add front (drop (at + length bs) out) (m - (at + length bs))
      ∙ drop-drop (m - (at + length bs)) (at + length bs) out
      ∙ ap (λ (i : ℕ). drop i out) d

module _ {f : Format} {n first : ℕ} {s out₀ t out u out' : List ℕ} {v k at : ℕ} {x : State} (a : Runnable f s out₀ n first) (p : Running f n first s out₀ t out v k at) (some : 0 < k)
    (made : TurnMade f (stack_at n) v (k - 1) at x t u out out') where
  said : List ℕ
  said = said_bytes f (step_in t v).said

  roomy : at + length said ≤ length out
  unfolding said
  roomy = (turnable a p some).fits

  next-text : take x.at out' ++ tasks_text f (meant s n) (tasks_held x.task u (stack_at n) x.tasks) ≡ stack_text f s n first
  unfolding said
  next-text =
      rw (made.moves, made.writes, made.tasks, written-take out at said roomy)
      (append_assoc (take at out) said (tasks_text f (meant s n) (add_tasks (step_in t v) (tasks_in t (stack_at n) (k - 1))))
      ∙ (unfold below_top in top-text a p some))

  pub running_more : Running f n first s out₀ u out' x.task x.tasks x.at
  unfolding said below_top
  running_more =
      let moves : x.at ≡ at + length said = made.moves in
      let long : length out' ≡ length out = ap length made.writes ∙ written-length out at said roomy in
      let stack : stack_at n + word_length * (k - 1 + 3) ≤ work_end n = stack-below a p some in
      record {
        within = within_both p.within (within_wider (stack_at n) (work_end n) (omega arith) stack made.within);
        long = long ∙ p.long;
        far = let r : at + length said ≤ length out = roomy in omega arith;
        text = next-text;
        rest = ap (drop (length (stack_text f s n first))) made.writes ∙ written-drop out at said roomy (length (stack_text f s n first)) (next-far a p some) ∙ p.rest;
        stacked = rw made.tasks (turned a p some).stacked;
      }

  pub running-less : tasks_turns (meant s n) (tasks_held x.task u (stack_at n) x.tasks) < tasks_turns (meant s n) (tasks_held v t (stack_at n) k)
  unfolding below_top
  running-less = rw (made.tasks, held-top v t (stack_at n) k some) (turned a p some).turns

-- no task is left
pub running-end : {f : Format} {n first : ℕ} {s out₀ t out : List ℕ} {v k at : ℕ} → Running f n first s out₀ t out v k at → k ≤ 0
    → Ran n (stack_text f s n first) at s t out₀ out
unfolding tasks_held tasks_spoken in_front
running-end {f} {n} {first} {s} {out₀} {t} {out} {v} {k} {at} p none =
    let z : k ≡ 0 = omega arith in
    let whole : take at out ≡ stack_text f s n first = sym (append-nil (take at out)) ∙ (rw z at p.text) in
    let far : at ≡ length (stack_text f s n first) = sym (length-take-le at out p.far) ∙ ap length whole in
    record {
      long = far;
      writes =
          sym (take-append-drop at out)
          ∙ ap₂ ◌++◌ whole (ap (λ (m : ℕ). drop m out) far ∙ p.rest);
      within = p.within;
    }
