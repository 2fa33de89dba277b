-- The stack in bytes is the list of tasks, the top first, also where the top one is in hand: a word written over k tasks leaves those below
-- it, and bytes written to the output after others leave what stands before and after them. Assumes nothing.
use Prim.Native.Nat.{ℕ, zero, suc, ◌+◌, ◌-◌, ◌*◌, ◌/◌, ◌%◌, ◌^◌, ◌≤◌, ◌<◌}
use native.Mathlib.Nat.{add-zero}
use native.Mathlib.Numerals.{add-one, add-two}
use native.Mathlib.Omega.{arith}
use mathlib.Core.Path.{◌≡◌, refl, sym, ap, ap₂, ◌∙◌}
use mathlib.Core.List.{List, [], ◌∷◌, append_assoc}
use lib.ListN.{length, take, drop, set, take-append-drop}
use lib.Seq.{sets, sets-eq}
use borrow.Author.Tests.{eq-eqb, ne_eqb}
use Rattle.words.specs.Number.{base, bytes}
use Rattle.words.specs.Put.{put}
use Rattle.words.proofs.Laws.{length-bytes, length-put, put_same, put_other, put-take, put-drop}
use Rattle.record.specs.declared.Format.{Format}
use Rattle.record.specs.Record.{word_length}
use Rattle.record.specs.Format.{high_length, label_length}
use Rattle.forest.specs.Spelling.{in_bytes}
use Rattle.work_rows.specs.Rows.{Within}
use Rattle.work_rows.proofs.Rows.{within_none, within_both, within_wider}
use Rattle.count_passes.specs.Says.{opening, opened}
use Rattle.spread_step.specs.declared.Said.{Said}
use Rattle.spread_step.specs.declared.Step.{Step}
use Rattle.spread_step.specs.Task.{no_task}
use Rattle.spread_step.specs.Step.{said_in, said_bytes, step_in}
use Rattle.spread_stack.specs.declared.State.{State}
use Rattle.spread_stack.specs.Stack.{add_task, add_tasks, tasks_in, tasks_held, Pushed, AllPushed, Lifted, Held, written, task_over, Turnable, TurnMade}

-- tasks below a word that is written
tasks-put : (s : List ℕ) (from v k j : ℕ) → j ≤ k → tasks_in (put word_length s (from + word_length * k) v) from j ≡ tasks_in s from j
unfolding tasks_in
tasks-put s from v k zero h = refl
tasks-put s from v k (suc j) h =
    ap₂ ◌∷◌ (put_other word_length word_length s (from + word_length * k) v (from + word_length * j) (λ l. absurd (omega arith))) (tasks-put s from v k j (omega arith))

within_word : (s : List ℕ) (at v : ℕ) → Within at (at + word_length) s (put word_length s at v)
within_word s at v =
    record {
      same_length = length-put word_length s at v;
      same_before = put-take word_length s at v at (omega arith);
      same_after = put-drop word_length s at v (at + word_length) (omega arith);
    }

pub pushed_none : (s : List ℕ) (from k v : ℕ) → v ≡ no_task → Pushed from k v k s s
unfolding add_task
pushed_none s from k v q =
    record { tasks = rw (eq-eqb v no_task q); grown = omega arith; within = within_none (from + word_length * k) (from + word_length * k + word_length) s }

pub pushed-some : (s : List ℕ) {t : List ℕ} (from k v : ℕ) → from + word_length * k + word_length ≤ length s → v < base ^ 2 → (v ≡ no_task → ⊥)
    → t ≡ put word_length s (from + word_length * k) v → Pushed from k v (k + 1) s t
unfolding add_task tasks_in
pushed-some s from k v fits small some q =
    rw q
    (record {
      tasks =
          rw (ne_eqb v no_task some, add-one k)
          (ap₂ ◌∷◌ (put_same word_length s (from + word_length * k) v fits small) (tasks-put s from v k k (omega arith)));
      grown = omega arith;
      within = within_word s (from + word_length * k) v;
    })

-- three of them
pub pushed-all : {from k a b j : ℕ} {s t u w : List ℕ} (x : Step) → Pushed from k x.low a s t → Pushed from a x.mid b t u
    → Pushed from b x.high j u w → AllPushed from k x j s w
unfolding add_tasks
pushed-all {from} {k} {a} {b} x p q r =
    let l : a ≤ k + 1 = p.grown in
    let m : b ≤ a + 1 = q.grown in
    record {
      tasks = r.tasks ∙ ap (add_task x.high) (q.tasks ∙ ap (add_task x.mid) p.tasks);
      within =
          within_both (within_wider from (from + word_length * (k + 3)) (omega arith) (omega arith) p.within)
          (within_both (within_wider from (from + word_length * (k + 3)) (omega arith) (omega arith) q.within)
          (within_wider from (from + word_length * (k + 3)) (omega arith) (omega arith) r.within));
    }

-- bytes written to the output
pub says_nothing : (out : List ℕ) (at : ℕ) → out ≡ written out at []
says_nothing out at = rw (add-zero at) (sym (take-append-drop at out))

says_all : (out : List ℕ) (at : ℕ) (bs : List ℕ) → at + length bs ≤ length out → sets out at bs ≡ written out at bs
says_all out at bs fits = sets-eq bs out at fits ∙ append_assoc (take at out) bs (drop (at + length bs) out)

pub says-one : (out : List ℕ) (at x : ℕ) → at + 1 ≤ length out → set out at x ≡ written out at (x ∷ [])
says-one out at x fits = says_all out at (x ∷ []) fits

opened-length : (f : Format) (a : ℕ) → length (opened f a) ≡ 1 + label_length f
opened-length f a = omega (arith, length-bytes (label_length f) a)

-- a node opened: its label's bytes fit behind the first byte, and the two together are what is said
pub opening-fits : (f : Format) (at m : ℕ) {a : ℕ} {x : Said} → x ≡ Said.Opening a → at + length (said_bytes f x) ≤ m → at + 1 + label_length f ≤ m
unfolding said_in in_bytes
opening-fits f at m {a} q fits = let l : at + length (opened f a) ≤ m = rw q at fits in omega (arith, opened-length f a)

pub opening-said : (f : Format) (at : ℕ) (out : List ℕ) {r a : ℕ} {out' : List ℕ} {x : Said} → x ≡ Said.Opening a → at + length (said_bytes f x) ≤ length out
    → (r ≡ at + 1 + label_length f) × (out' ≡ put (label_length f) (set out at opening) (at + 1) a)
    → (r ≡ at + length (said_bytes f x)) × (out' ≡ written out at (said_bytes f x))
unfolding said_in in_bytes put
opening-said f at out {a = a} q fits p =
    rw q
    (omega (arith, p.0, opened-length f a), p.1 ∙ rw (add-one at) (says_all out at (opened f a) (rw q at fits)))

-- a label's bytes, in each format
pub label-narrow : (out : List ℕ) (at a : ℕ) → set out at (a % base) ≡ put (label_length Format.Narrow) out at a
unfolding put bytes high_length
label-narrow out at a = refl

pub label-wide : (out : List ℕ) (at a : ℕ)
    → set (set (set out at (a % base)) (at + 1) (a / base % base)) (at + 2) (a / 65536 % base) ≡ put (label_length Format.Wide) out at a
unfolding put bytes high_length
label-wide out at a = let high : a / 65536 ≡ a / base / base = omega arith in rw (add-one at, add-two at, high)

-- the top task in hand
pub lifted-none : (t : List ℕ) (from k at : ℕ) {v : ℕ} → k ≡ 0 → Lifted from k at (record { task = v; tasks = 0; at = at }) t
unfolding tasks_held tasks_in
lifted-none t from k at q = record { tasks = rw q; stays = refl }

pub lifted-some : (t : List ℕ) (from k at : ℕ) {v : ℕ} → (k ≡ 0 → ⊥) → v ≡ task_over t from (k - 1) → Lifted from k at (record { task = v; tasks = k; at = at }) t
unfolding tasks_held tasks_in
lifted-some t from zero at some q = absurd (some refl)
lifted-some t from (suc k) at some q =
    let e : suc k - 1 ≡ k = omega arith in
    record { tasks = ap (λ (w : ℕ). w ∷ tasks_in t from k) (rw e at q); stays = refl }

-- the tasks of a step with the top one in hand
module _ {from k at : ℕ} {s : List ℕ} (x : Step) where
  pub held_high : {a b : ℕ} {t u : List ℕ} → (x.high ≡ no_task → ⊥) → Pushed from k x.low a s t → Pushed from a x.mid b t u
      → Held from k x at (record { task = x.high; tasks = b + 1; at = at }) s u
  unfolding add_task add_tasks tasks_held
  held_high {a} {b} some p q =
      let l : a ≤ k + 1 = p.grown in
      record {
        tasks = rw (ne_eqb x.high no_task some, add-one b) (ap (λ (vs : List ℕ). x.high ∷ vs) (q.tasks ∙ ap (add_task x.mid) p.tasks));
        within =
            within_both (within_wider from (from + word_length * (k + 3)) (omega arith) (omega arith) p.within)
            (within_wider from (from + word_length * (k + 3)) (omega arith) (omega arith) q.within);
        stays = refl;
      }

  pub held-mid : {a : ℕ} {t : List ℕ} → x.high ≡ no_task → (x.mid ≡ no_task → ⊥) → Pushed from k x.low a s t
      → Held from k x at (record { task = x.mid; tasks = a + 1; at = at }) s t
  unfolding add_task add_tasks tasks_held
  held-mid {a} none some p =
      record {
        tasks = rw (eq-eqb x.high no_task none, ne_eqb x.mid no_task some, add-one a) (ap (λ (vs : List ℕ). x.mid ∷ vs) p.tasks);
        within = within_wider from (from + word_length * (k + 3)) (omega arith) (omega arith) p.within;
        stays = refl;
      }

  pub held_low : x.high ≡ no_task → x.mid ≡ no_task → (x.low ≡ no_task → ⊥) → Held from k x at (record { task = x.low; tasks = k + 1; at = at }) s s
  unfolding add_task add_tasks tasks_held
  held_low none' none some =
      record {
        tasks = rw (eq-eqb x.high no_task none', eq-eqb x.mid no_task none, ne_eqb x.low no_task some, add-one k);
        within = within_none from (from + word_length * (k + 3)) s;
        stays = refl;
      }

  pub held_below : {y : State} → x.high ≡ no_task → x.mid ≡ no_task → x.low ≡ no_task → Lifted from k at y s → Held from k x at y s s
  unfolding add_task add_tasks
  held_below none'' none' none p =
      record {
        tasks = rw (eq-eqb x.high no_task none'', eq-eqb x.mid no_task none', eq-eqb x.low no_task none) p.tasks;
        within = within_none from (from + word_length * (k + 3)) s;
        stays = p.stays;
      }

-- a turn's parts put together
pub turn-made : {f : Format} {from v k at next : ℕ} {s t out out' : List ℕ} {x : Step} {y : State} → x ≡ step_in s v
    → (next ≡ at + length (said_bytes f x.said)) × (out' ≡ written out at (said_bytes f x.said)) → Held from k x next y s t
    → TurnMade f from v k at y s t out out'
turn-made {f} {from} {v} {k} {at} {s = s} {out = out} e w p =
    record {
      tasks = p.tasks ∙ ap (λ (z : Step). add_tasks z (tasks_in s from k)) e;
      within = p.within;
      writes = w.1 ∙ ap (λ (z : Step). written out at (said_bytes f z.said)) e;
      moves = p.stays ∙ w.0 ∙ ap (λ (z : Step). at + length (said_bytes f z.said)) e;
    }

-- what a turn may do, seen at the step that was decided
pub turn-fits : {f : Format} {from v k at : ℕ} {s out : List ℕ} {x : Step} → Turnable f s out from v k at → x ≡ step_in s v
    → at + length (said_bytes f x.said) ≤ length out
turn-fits a q = rw q a.fits
