-- A task for a whole rule has the rule's text, comes to no more tasks and writes of nothing higher: an empty rule has no text, and a pair
-- with one empty side the text of the other. Assumes nothing.
use Prim.Native.Nat.{ℕ, ◌+◌, ◌*◌, ◌/◌, ◌%◌, ◌≤◌, ◌<◌}
use native.Mathlib.Omega.{arith}
use mathlib.Core.Path.{◌≡◌, refl, sym, ap, ap₂, subst, ◌∙◌}
use mathlib.Core.Bool.{Bool, true, false, cond}
use mathlib.Core.List.{List, [], append-nil}
use lib.Dec.{eqb}
use lib.ListN.{length}
use borrow.Author.Tests.{eqb-true, ne_eqb}
use Rattle.rule.specs.declared.Rule.{Rule}
use Rattle.rule.specs.Sound.{rule, Sound}
use Rattle.forest.specs.Expression.{Expression, rhs, expression}
use Rattle.forest.specs.Spelling.{Spelling}
use Rattle.forest.specs.Sizes.{height}
use Rattle.forest.proofs.Unfold.{by_rank, unfolding-equation}
use Rattle.rule.specs.Names.{Names, pair_one, pair_two}
use Rattle.count_passes.specs.Says.{whole, after, spoken}
use Rattle.spread_step.specs.Task.{parts, close_task, task_word, no_task, task_by, task_spoken, turns_in, task_turns, task_height, task_in, task_of}

-- a case of a test
pub by-test : {A : Type 0} (b : Bool) → (b ≡ true → A) → (b ≡ false → A) → A
by-test true f g = f refl
by-test false f g = g refl

-- a task's word read back
module _ {A : Type 0} (none closes : A) (part : ℕ → ℕ → A) where
  by_part_lem : (r p : ℕ) → p ≤ after → task_by none closes part (task_word r p) ≡ part r p
  unfolding task_by
  by_part_lem r p small =
      let phase : (parts * r + p) % parts ≡ p = omega arith in
      let number : (parts * r + p) / parts ≡ r = omega arith in
      rw (ne_eqb (parts * r + p) no_task (λ e. omega arith), ne_eqb (parts * r + p) close_task (λ e. omega arith), phase, number)

module _ (x : Spelling) (E : ℕ → Expression) where
  pub text-part : (r p : ℕ) → p ≤ after → task_spoken x E (task_word r p) ≡ spoken x (E r) p
  unfolding task_spoken
  text-part r p small = by_part_lem [] x.closes (λ r p. spoken x (E r) p) r p small

  pub text-close : task_spoken x E close_task ≡ x.closes
  unfolding task_spoken
  text-close = refl

  pub text-none : task_spoken x E no_task ≡ []
  unfolding task_spoken
  text-none = refl

module _ (E : ℕ → Expression) where
  pub turns-part : (r p : ℕ) → p ≤ after → task_turns E (task_word r p) ≡ turns_in (E r)
  unfolding task_turns
  turns-part r p small = by_part_lem 0 1 (λ r p. turns_in (E r)) r p small

  pub turns-close : task_turns E close_task ≡ 1
  unfolding task_turns
  turns-close = refl

  pub turns-none : task_turns E no_task ≡ 0
  unfolding task_turns
  turns-none = refl

  pub height-part : (r p : ℕ) → p ≤ after → task_height E (task_word r p) ≡ height (E r)
  unfolding task_height
  height-part r p small = by_part_lem 0 0 (λ r p. height (E r)) r p small

  pub height-close : task_height E close_task ≡ 0
  unfolding task_height
  height-close = refl

-- v is a task for the whole of e, in each spelling, whose rules are below n
pub record Stands (E : ℕ → Expression) (n v : ℕ) (e : Expression) : Type 0 where
  pub text : (x : Spelling) → task_spoken x E v ≡ spoken x e whole
  pub turns : task_turns E v ≤ turns_in e
  pub high : task_height E v ≤ height e
  pub below : (v ≡ no_task → ⊥) → v / parts < n

-- the rule itself
stands_self : (E : ℕ → Expression) (n r : ℕ) (e : Expression) → r < n → E r ≡ e → Stands E n (task_word r whole) e
stands_self E n r e below q =
    record {
      text = λ x. text-part x E r whole (omega arith) ∙ ap (λ (d : Expression). spoken x d whole) q;
      turns = let t : task_turns E (task_word r whole) ≡ turns_in e = turns-part E r whole (omega arith) ∙ ap turns_in q in omega arith;
      high = let h : task_height E (task_word r whole) ≡ height e = height-part E r whole (omega arith) ∙ ap height q in omega arith;
      below = λ v. omega arith;
    }

stands-empty : (E : ℕ → Expression) (n r : ℕ) → Stands E n no_task (Expression.empty r)
unfolding spoken turns_in height task_spoken task_turns task_height
stands-empty E n r = record { text = λ x. refl; turns = omega arith; high = omega arith; below = λ v. absurd (v refl) }

-- no text where there is no task
silent : {E : ℕ → Expression} {n v : ℕ} {e : Expression} → Stands E n v e → v ≡ no_task → (x : Spelling) → spoken x e whole ≡ []
silent {E} s q x = sym (s.text x) ∙ ap (task_spoken x E) q ∙ text-none x E

-- one side of a pair
stands-right : {E : ℕ → Expression} {n v r : ℕ} {b c : Expression} → ((x : Spelling) → spoken x b whole ≡ []) → Stands E n v c → Stands E n v (Expression.pair r b c)
unfolding spoken turns_in height
stands-right q s =
    record {
      text = λ x. s.text x ∙ rw (q x);
      turns = let t : _ ≤ _ = s.turns in omega arith;
      high = let h : _ ≤ _ = s.high in omega arith;
      below = s.below;
    }

stands-left : {E : ℕ → Expression} {n v r : ℕ} {b c : Expression} → ((x : Spelling) → spoken x c whole ≡ []) → Stands E n v b → Stands E n v (Expression.pair r b c)
unfolding spoken turns_in height
stands-left {b = b} q s =
    record {
      text = λ x. s.text x ∙ rw (q x, append-nil (spoken x b whole));
      turns = let t : _ ≤ _ = s.turns in omega arith;
      high = let h : _ ≤ _ = s.high in omega arith;
      below = s.below;
    }

stands-pair : (E : ℕ → Expression) (n r : ℕ) (b c : Expression) → r < n → E r ≡ Expression.pair r b c → Stands E n (task_in b) b → Stands E n (task_in c) c
    → Stands E n (task_in (Expression.pair r b c)) (Expression.pair r b c)
unfolding task_in
stands-pair E n r b c below q β γ =
    by-test (eqb (task_in b) no_task)
    (λ u. rw u (stands-right (silent β (eqb-true (task_in b) no_task u)) γ))
    (λ u.
    by-test (eqb (task_in c) no_task)
    (λ w. rw (u, w) (stands-left (silent γ (eqb-true (task_in c) no_task w)) β))
    (λ w. rw (u, w) (stands_self E n r (Expression.pair r b c) below q)))

stands-rhs : (E : ℕ → Expression) (n r : ℕ) (x : Rule) → r < n → E r ≡ rhs r x E → ((k : ℕ) → Names x k → Stands E n (task_in (E k)) (E k))
    → Stands E n (task_in (rhs r x E)) (rhs r x E)
unfolding rhs task_in
stands-rhs E n r Rule.Empty below q h = stands-empty E n r
stands-rhs E n r (Rule.Pair b c) below q h = stands-pair E n r (E b) (E c) below q (h b pair_one) (h c pair_two)
stands-rhs E n r (Rule.Node a c) below q h = stands_self E n r (Expression.node r a (E c)) below q
stands-rhs E n r (Rule.Fill b c) below q h = stands_self E n r (Expression.fill r (E b) (E c)) below q
stands-rhs E n r (Rule.Part a b c) below q h = stands_self E n r (Expression.part r a (E b) (E c)) below q
stands-rhs E n r (Rule.Join b c) below q h = stands_self E n r (Expression.join r (E b) (E c)) below q

-- every rule's task stands for it
pub stands : {R : List Rule} {rank : ℕ → ℕ} → Sound R rank → (r : ℕ) → r < length R
    → Stands (expression R) (length R) (task_in (expression R r)) (expression R r)
stands {R} S =
    by_rank S (λ r. Stands (expression R) (length R) (task_in (expression R r)) (expression R r))
    (λ r h f.
    subst (λ (e : Expression). Stands (expression R) (length R) (task_in e) e) (sym (unfolding-equation S r h))
    (stands-rhs (expression R) (length R) r (rule R r) h (unfolding-equation S r h) f))

-- the tasks obey their recurrence over the rules
pub task-rhs : (r : ℕ) (E : ℕ → Expression) (x : Rule) → task_in (rhs r x E) ≡ task_of (λ k. task_in (E k)) r x
unfolding rhs task_in task_of
task-rhs r E Rule.Empty = refl
task-rhs r E (Rule.Pair b c) = refl
task-rhs r E (Rule.Node a c) = refl
task-rhs r E (Rule.Fill b c) = refl
task-rhs r E (Rule.Part a b c) = refl
task-rhs r E (Rule.Join b c) = refl

-- they depend on the tasks of the rules named alone
pub task-same : (f g : ℕ → ℕ) (r : ℕ) (x : Rule) → ((k : ℕ) → Names x k → f k ≡ g k) → task_of f r x ≡ task_of g r x
unfolding task_of
task-same f g r Rule.Empty h = refl
task-same f g r (Rule.Pair b c) h =
    ap₂ (λ (m n : ℕ). cond (eqb m no_task) n (cond (eqb n no_task) m (task_word r whole))) (h b pair_one) (h c pair_two)
task-same f g r (Rule.Node a c) h = refl
task-same f g r (Rule.Fill b c) h = refl
task-same f g r (Rule.Part a b c) h = refl
task-same f g r (Rule.Join b c) h = refl
