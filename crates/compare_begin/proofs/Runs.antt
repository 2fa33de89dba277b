-- A run of left steps taken step by step: each join's C is put around the tasks so far, until the run's end is met, a rule is no join, or
-- as many steps are taken as there are rules. The stack never grows beyond what it comes to. Assumes nothing.
use Prim.Native.Nat.{ℕ, zero, suc, ◌+◌, ◌-◌, ◌*◌, ◌≤◌, ◌<◌}
use native.Mathlib.Omega.{arith}
use mathlib.Core.Path.{◌≡◌, refl, sym, ap, ◌∙◌}
use mathlib.Core.List.{List, [], ◌∷◌}
use lib.ListN.{length, length-append}
use lib.Dec.{eqb}
use Rattle.rule.specs.declared.Rule.{Rule}
use Rattle.rule.specs.Names.{Names}
use Rattle.rule.specs.Sound.{rule}
use Rattle.forest.proofs.Cases.{by_bool}
use Rattle.forest.proofs.Unfold.{named-below}
use Rattle.work_rows.specs.Rows.{row_length, rule_in, first_rules, Within}
use Rattle.work_rows.proofs.Rows.{within-rule}
use Rattle.work_rows.proofs.Kept.{first-length, first-rule, first-same}
use Rattle.count_passes.specs.Says.{before, after}
use Rattle.spread_step.specs.Task.{task_limit, task_word}
use Rattle.compare_tokens.specs.Parts.{around}
use Rattle.compare_place.specs.Begun.{left_of, step_around, steps_until}
use Rattle.compare_place.proofs.Cells.{until-met, until-on}
use Rattle.compare_begin.specs.declared.Begun.{Begun}
use Rattle.compare_begin.specs.Stack.{tasks_of, kept_rule, kept_run, Room, Grown, SoundRows, LeftRun}
use Rattle.compare_begin.proofs.Stacks.{tasks-length, grown-none, grown-both, grown-to}

-- the rules that the rows keep
pub kept-named : {n : ℕ} {t : List ℕ} → SoundRows n t → (r k : ℕ) → r < n → Names (kept_rule t n r) k → k < n
kept-named {n} {t} h r k below m =
    let l : length (first_rules t n) ≡ n = first-length t n in
    let f : k < length (first_rules t n) = named-below h.sound r k (omega arith) m in
    omega arith

pub kept-few : {n : ℕ} {t : List ℕ} → SoundRows n t → (k : ℕ) → k < n → k < task_limit
kept-few h k below = omega (arith, h.few)

-- a change past the rows
pub kept_same : {a e : ℕ} {s t : List ℕ} (n : ℕ) → Within a e s t → row_length * n ≤ a → first_rules t n ≡ first_rules s n
kept_same {s = s} {t = t} n w past = first-same s t n (λ k below. within-rule w k (λ l. absurd (omega arith)))

pub rows-kept : {s t : List ℕ} (n : ℕ) → first_rules t n ≡ first_rules s n → SoundRows n s → SoundRows n t
rows-kept n q h = record { rank = h.rank; sound = rw q h.sound; few = h.few }

-- a grown stack lies behind the rows where there is room for more
pub grown-past : {vs : List ℕ} {x y : Begun} {s t : List ℕ} {low m : ℕ} → Grown vs x y s t → Room low m x s → length vs ≤ m → low ≤ y.from
grown-past {vs} {y = y} {t = t} g room most =
    let long : y.tasks ≡ length vs = sym (tasks-length t y.from y.tasks) ∙ ap length g.tasks in
    omega (arith, g.alike, room.below)

pub grown-rows : {vs : List ℕ} {x y : Begun} {s t : List ℕ} {m : ℕ} (n : ℕ) → Grown vs x y s t → Room (row_length * n) m x s → length vs ≤ m
    → first_rules t n ≡ first_rules s n
grown-rows n g room most = kept_same n g.within (grown-past g room most)

pub room-grown : {vs : List ℕ} {x y : Begun} {s t : List ℕ} {low m : ℕ} → Grown vs x y s t → Room low m x s → Room low m y t
room-grown g room = record { below = omega (arith, g.alike, room.below); above = omega (arith, g.alike, room.above, g.within.same_length) }

-- steps add tasks
pub around-length : (v w : ℕ) (vs : List ℕ) → length (around v w vs) ≡ length vs + 2
around-length v w vs = let e = length-append vs (w ∷ []) in omega arith

step-length : (x : Rule) (vs : List ℕ) → length vs ≤ length (step_around x vs)
unfolding step_around
step-length Rule.Empty vs = omega arith
step-length (Rule.Pair b c) vs = omega arith
step-length (Rule.Node a c) vs = omega arith
step-length (Rule.Fill b c) vs = omega arith
step-length (Rule.Part a b c) vs = omega arith
step-length (Rule.Join b c) vs = let e = around-length (task_word c before) (task_word c after) vs in omega arith

pub until-length : (X : ℕ → Rule) (k a b : ℕ) (vs : List ℕ) → length vs ≤ length (steps_until X k a b vs)
unfolding steps_until
until-length X zero a b vs = omega arith
until-length X (suc k) a b vs =
    let rest : length (step_around (X a) vs) ≤ length (steps_until X k (left_of (X a) a) b (step_around (X a) vs)) = until-length X k (left_of (X a) a) b (step_around (X a) vs) in
    by_bool (eqb a b) (λ u. rw u (omega arith)) (λ u. rw u (omega (arith, step-length (X a) vs)))

-- a rule that is no join ends the run
other-left : (x : Rule) (a : ℕ) → ((b c : ℕ) → x ≡ Rule.Join b c → ⊥) → left_of x a ≡ a
unfolding left_of
other-left Rule.Empty a h = refl
other-left (Rule.Pair b c) a h = refl
other-left (Rule.Node y c) a h = refl
other-left (Rule.Fill b c) a h = refl
other-left (Rule.Part y b c) a h = refl
other-left (Rule.Join b c) a h = absurd (h b c refl)

other-around : (x : Rule) (vs : List ℕ) → ((b c : ℕ) → x ≡ Rule.Join b c → ⊥) → step_around x vs ≡ vs
unfolding step_around
other-around Rule.Empty vs h = refl
other-around (Rule.Pair b c) vs h = refl
other-around (Rule.Node y c) vs h = refl
other-around (Rule.Fill b c) vs h = refl
other-around (Rule.Part y b c) vs h = refl
other-around (Rule.Join b c) vs h = absurd (h b c refl)

until-other : (X : ℕ → Rule) (k a b : ℕ) (vs : List ℕ) → ((o c : ℕ) → X a ≡ Rule.Join o c → ⊥) → steps_until X k a b vs ≡ vs
unfolding steps_until
until-other X zero a b vs h = refl
until-other X (suc k) a b vs h =
    let rest : steps_until X k a b vs ≡ vs = until-other X k a b vs h in
    by_bool (eqb a b) (λ u. rw u) (λ u. rw (u, other-left (X a) a h, other-around (X a) vs h) rest)

-- a join is stepped over
until-join : (X : ℕ → Rule) (k a b o c : ℕ) (vs : List ℕ) → (a ≡ b → ⊥) → X a ≡ Rule.Join o c
    → steps_until X (suc k) a b vs ≡ steps_until X k o b (around (task_word c before) (task_word c after) vs)
unfolding left_of step_around
until-join X k a b o c vs q e = until-on X k a b vs q ∙ ap (λ (x : Rule). steps_until X k (left_of x a) b (step_around x vs)) e

-- after i steps the run is at rule a, and what is left of it comes to what all of it does
pub record Running (n first b i a : ℕ) (x y : Begun) (s t : List ℕ) : Type 0 where
  pub few : i ≤ n
  pub inside : a < n
  pub grown : Grown (tasks_of t y) x y s t
  pub rest : steps_until (kept_rule s n) (n - i) a b (tasks_of t y) ≡ kept_run s n first b (tasks_of s x)

pub running-start : {n a b : ℕ} {x : Begun} {s : List ℕ} → LeftRun n a b x s → Running n a b 0 a x x s s
running-start {n} {a} {b} {x} {s} h =
    record {
      few = omega arith;
      inside = h.inside;
      grown = grown-none x s refl;
      rest = let e : n - 0 ≡ n = omega arith in ap (λ (k : ℕ). steps_until (kept_rule s n) k a b (tasks_of s x)) e;
    }

module _ {n first b i a : ℕ} {x y : Begun} {s t : List ℕ} (h : LeftRun n first b x s) (v : Running n first b i a x y s t) where
  abbrev X : ℕ → Rule
  X = kept_rule s n

  now-most : length (tasks_of t y) ≤ length (kept_run s n first b (tasks_of s x))
  now-most = rw v.rest at (until-length X (n - i) a b (tasks_of t y))

  rows_same : first_rules t n ≡ first_rules s n
  rows_same = grown-rows n v.grown h.room now-most

  pub row_lies : row_length * (a + 1) ≤ length t
  row_lies = let r = room-grown v.grown h.room in omega (arith, r.below, r.above, v.inside)

  rule-here : {z : Rule} → z ≡ rule_in t a → X a ≡ z
  rule-here e = ap (λ (R : List Rule). rule R a) (sym rows_same) ∙ first-rule t n a v.inside ∙ sym e

  -- the run ends
  pub run-over : n ≤ i → Grown (kept_run s n first b (tasks_of s x)) x y s t
  unfolding steps_until
  run-over past =
      let e : n - i ≡ 0 = omega arith in
      grown-to (ap (λ (k : ℕ). steps_until X k a b (tasks_of t y)) (sym e) ∙ v.rest) v.grown

  pub run-met : a ≡ b → Grown (kept_run s n first b (tasks_of s x)) x y s t
  run-met q = grown-to (sym (until-met X (n - i) a b (tasks_of t y) q) ∙ v.rest) v.grown

  pub run-other : {z : Rule} → z ≡ rule_in t a → ((b c : ℕ) → z ≡ Rule.Join b c → ⊥) → Grown (kept_run s n first b (tasks_of s x)) x y s t
  run-other {z} e o =
      let q : ((o c : ℕ) → X a ≡ Rule.Join o c → ⊥) = λ o' c' f. o o' c' (sym (rule-here e) ∙ f) in
      grown-to (sym (until-other X (n - i) a b (tasks_of t y) q) ∙ v.rest) v.grown

  -- or a join is stepped over
  module _ {o c : ℕ} {z : Rule} (e : z ≡ rule_in t a) (join : z ≡ Rule.Join o c) (on : a ≡ b → ⊥) (more : i < n) where
    join-here : X a ≡ Rule.Join o c
    join-here = rule-here e ∙ join

    next : steps_until X (n - (i + 1)) o b (around (task_word c before) (task_word c after) (tasks_of t y)) ≡ kept_run s n first b (tasks_of s x)
    next =
        let k : n - i ≡ suc (n - (i + 1)) = omega arith in
        sym (until-join X (n - (i + 1)) a b o c (tasks_of t y) on join-here)
        ∙ ap (λ (j : ℕ). steps_until X j a b (tasks_of t y)) (sym k)
        ∙ v.rest

    next-most : y.tasks + 2 ≤ length (kept_run s n first b (tasks_of s x))
    next-most =
        let l : length (around (task_word c before) (task_word c after) (tasks_of t y)) ≤ length (kept_run s n first b (tasks_of s x)) =
        rw next at (until-length X (n - (i + 1)) o b (around (task_word c before) (task_word c after) (tasks_of t y))) in
        let m = around-length (task_word c before) (task_word c after) (tasks_of t y) in
        let k = tasks-length t y.from y.tasks in
        omega arith

    pub step_room : Room 0 (y.tasks + 2) y t
    step_room =
        let r = room-grown v.grown h.room in
        record { below = omega (arith, r.below, next-most); above = omega (arith, r.above, next-most) }

    pub step-few : c < task_limit
    step-few = kept-few h.rows c (kept-named h.rows a c v.inside (rw join-here Names.join_two))

    pub step-made : {u : List ℕ} {w : Begun} → Grown (around (task_word c before) (task_word c after) (tasks_of t y)) y w t u
        → Running n first b (i + 1) o x w s u
    step-made {u} {w} g =
        record {
          few = omega arith;
          inside = kept-named h.rows a o v.inside (rw join-here Names.join_one);
          grown = grown-to (sym g.tasks) (grown-both v.grown g);
          rest = ap (steps_until X (n - (i + 1)) o b) g.tasks ∙ next;
        }
