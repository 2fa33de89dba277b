-- The tasks that a place's cells say are those of the node's parts: by recursion on how the position in a spine was reached, a run of left
-- steps on top being as long as its depths differ, and the first to meet its last rule. Assumes nothing.
use Prim.Native.Nat.{ℕ, zero, suc, ◌+◌, ◌-◌, ◌≤◌}
use native.Mathlib.Omega.{arith}
use mathlib.Core.Path.{◌≡◌, refl, sym, ◌∙◌, ap, ap₂}
use mathlib.Core.Bool.{false}
use mathlib.Core.List.{List, [], ◌∷◌, ◌++◌, map}
use borrow.Author.Tests.{eqb-true, eq-eqb, ne_eqb, leb-true, leb-false}
use lib.Dec.{eqb, leb}
use Rattle.rule.specs.declared.Rule.{Rule}
use Rattle.forest.specs.Expression.{Expression, rule_number}
use Rattle.forest.specs.Place.{Cells, Side, cell_spine, cell_run, step}
use Rattle.forest.specs.Sides.{pick}
use Rattle.forest.specs.Good.{Sort}
use Rattle.forest.specs.Position.{Position, At, Where, cells}
use Rattle.forest.proofs.Cases.{by_bool}
use Rattle.model.specs.Facts.{Facts}
use Rattle.model.proofs.Cells.{Steps, top_kind, step-begins, step-grows, top_kind-step}
use Rattle.model.proofs.Fit.{Fit, shape, tells, join-steps}
use Rattle.model.proofs.Standing.{whole}
use Rattle.count_passes.specs.Says.{whole as all_of, before, after}
use Rattle.spread_step.specs.Task.{task_word}
use Rattle.compare_tokens.specs.Parts.{Part, around, in_hole, subtree_parts, part_task, part_tasks}
use Rattle.compare_place.specs.Begun.{left_of, step_around, left_steps, left_end, steps_until, steps_by_depth, filled_by, hole_tasks, begun_of, begun_tasks}
use Rattle.compare_place.proofs.Crumbs.{lefts}

-- one left step more is around the others
module _ (X : ℕ → Rule) where
  end_more : (j a : ℕ) → left_end X (suc j) a ≡ left_of (X (left_end X j a)) (left_end X j a)
  unfolding left_end
  end_more zero a = refl
  end_more (suc j) a = end_more j (left_of (X a) a)

  steps-more : (j a : ℕ) (vs : List ℕ) → left_steps X (suc j) a vs ≡ step_around (X (left_end X j a)) (left_steps X j a vs)
  unfolding left_steps left_end
  steps-more zero a vs = refl
  steps-more (suc j) a vs = steps-more j (left_of (X a) a) (step_around (X a) vs)

-- the tasks of parts around others
pub map-append : {A B : Type 0} (f : A → B) (xs ys : List A) → map f (xs ++ ys) ≡ map f xs ++ map f ys
map-append f [] ys = refl
map-append f (x ∷ xs) ys = ap (λ l. f x ∷ l) (map-append f xs ys)

tasks-around : (x y : Part) (zs : List Part) → part_tasks (around x y zs) ≡ around (part_task x) (part_task y) (part_tasks zs)
tasks-around x y zs = ap (λ (l : List ℕ). part_task x ∷ l) (map-append part_task zs (y ∷ []))

-- rule v is j left steps from rule x, each to a rule one less deep
pub record Run (F : Facts) (j x v : ℕ) : Type 0 where
  pub ends : left_end F.rule j x ≡ v
  pub falls : (i : ℕ) → i ≤ j → i + F.depth Side.left (left_end F.rule i x) ≡ F.depth Side.left x

-- run takes the steps of every run of n steps at most
pub Takes : Facts → ℕ → (ℕ → ℕ → List ℕ → List ℕ) → Type 0
Takes F n run = (j x v : ℕ) (vs : List ℕ) → j ≤ n → Run F j x v → run x v vs ≡ left_steps F.rule j x vs

-- by depths
pub depths-take : (F : Facts) (n : ℕ) → Takes F n (steps_by_depth F)
unfolding Takes steps_by_depth
depths-take F n j x v vs l h =
    let f : j + F.depth Side.left (left_end F.rule j x) ≡ F.depth Side.left x = h.falls j (omega arith) in
    let g : F.depth Side.left (left_end F.rule j x) ≡ F.depth Side.left v = ap (F.depth Side.left) h.ends in
    let e : F.depth Side.left x - F.depth Side.left v ≡ j = omega arith in
    rw e

-- until rule v is met: no rule before it is as deep
run_none : (F : Facts) (x v : ℕ) → Run F 0 x v → x ≡ v
unfolding left_end
run_none F x v h = h.ends

run_more : (F : Facts) (j x v : ℕ) → Run F (suc j) x v → (x ≡ v → ⊥) × Run F j (left_of (F.rule x) x) v
unfolding left_end
run_more F j x v h =
    let f : suc j + F.depth Side.left (left_end F.rule (suc j) x) ≡ F.depth Side.left x = h.falls (suc j) (omega arith) in
    let g : F.depth Side.left (left_end F.rule (suc j) x) ≡ F.depth Side.left v = ap (F.depth Side.left) h.ends in
    let one : 1 + F.depth Side.left (left_of (F.rule x) x) ≡ F.depth Side.left x = h.falls 1 (omega arith) in (
      λ q. let d : F.depth Side.left x ≡ F.depth Side.left v = ap (F.depth Side.left) q in omega arith,
      record {
        ends = h.ends;
        falls = λ i l.
            let m : suc i + F.depth Side.left (left_end F.rule i (left_of (F.rule x) x)) ≡ F.depth Side.left x = h.falls (suc i) (omega arith) in
            omega arith;
      },
    )

pub until-met : (X : ℕ → Rule) (k a b : ℕ) (vs : List ℕ) → a ≡ b → steps_until X k a b vs ≡ vs
unfolding steps_until
until-met X zero a b vs q = refl
until-met X (suc k) a b vs q = rw (eq-eqb a b q)

pub until-on : (X : ℕ → Rule) (k a b : ℕ) (vs : List ℕ) → (a ≡ b → ⊥)
    → steps_until X (suc k) a b vs ≡ steps_until X k (left_of (X a) a) b (step_around (X a) vs)
unfolding steps_until
until-on X k a b vs q = rw (ne_eqb a b q)

until-run : (F : Facts) (n j x v : ℕ) (vs : List ℕ) → j ≤ n → Run F j x v → steps_until F.rule n x v vs ≡ left_steps F.rule j x vs
unfolding left_steps
until-run F n zero x v vs l h = until-met F.rule n x v vs (run_none F x v h)
until-run F zero (suc j) x v vs l h = absurd (omega arith)
until-run F (suc n) (suc j) x v vs l h =
    let m = run_more F j x v h in
    until-on F.rule n x v vs m.0 ∙ until-run F n j (left_of (F.rule x) x) v (step_around (F.rule x) vs) (omega arith) m.1

pub until-takes : (F : Facts) (n : ℕ) → Takes F n (steps_until F.rule n)
unfolding Takes
until-takes F n j x v vs l h = until-run F n j x v vs l h

-- cells on which rule v stands, whose hole has tasks vs: either no left run is on top, or one of m steps at most from some rule to v
data Top (F : Facts) (run : ℕ → ℕ → List ℕ → List ℕ) (m v : ℕ) : Cells → List ℕ → Type 0 where
  plain : {cs : Cells} {vs : List ℕ} → eqb (top_kind cs) (cell_run Side.left) ≡ false → hole_tasks F.rule run cs ≡ vs → Top F run m v cs vs
  ran : {x : ℕ} {t : Cells} {vs : List ℕ} (j : ℕ) → j ≤ m → Run F j x v → left_steps F.rule j x (hole_tasks F.rule run t) ≡ vs
      → Top F run m v ((cell_run Side.left, x, v, 0) ∷ t) vs

module _ (F : Facts) (n : ℕ) (run : ℕ → ℕ → List ℕ → List ℕ) (takes : Takes F n run) where
  top-tasks : (m v : ℕ) (cs : Cells) (vs : List ℕ) → m ≤ n → Top F run m v cs vs → hole_tasks F.rule run cs ≡ vs
  unfolding hole_tasks cell_run Takes
  top-tasks m v cs vs l (plain u q) = q
  top-tasks m v cs vs l (ran {x} {t} j k h q) = takes j x v (hole_tasks F.rule run t) (omega arith) h ∙ q

-- a right step adds nothing
right-tasks : (X : ℕ → Rule) (run : ℕ → ℕ → List ℕ → List ℕ) (a v : ℕ) (cs : Cells) → hole_tasks X run (step Side.right a v cs) ≡ hole_tasks X run cs
unfolding hole_tasks step cell_run top_kind
right-tasks X run a v [] = refl
right-tasks X run a v (c ∷ cs) =
    by_bool (eqb c.0 (cell_run Side.right))
    (λ u. rw u (rw (eqb-true c.0 (cell_run Side.right) u)))
    (λ u. ap (hole_tasks X run) (step-begins Side.right a v (c ∷ cs) u))

-- one step, and one step more
run-one : (F : Facts) (r b : ℕ) → left_of (F.rule r) r ≡ b → F.depth Side.left r ≡ suc (F.depth Side.left b) → Run F 1 r b
unfolding left_end
run-one F r b q d = record { ends = q; falls = λ i l. go i l }
  where
    go : (i : ℕ) → i ≤ 1 → i + F.depth Side.left (left_end F.rule i r) ≡ F.depth Side.left r
    go zero l = omega arith
    go (suc zero) l = rw q (omega arith)
    go (suc (suc i)) l = absurd (omega arith)

run-longer : (F : Facts) (j x r b : ℕ) → Run F j x r → left_of (F.rule r) r ≡ b → F.depth Side.left r ≡ suc (F.depth Side.left b) → Run F (suc j) x b
run-longer F j x r b h q d =
    let e : left_end F.rule (suc j) x ≡ b = end_more F.rule j x ∙ ap (λ (k : ℕ). left_of (F.rule k) k) h.ends ∙ q in
    let f : j + F.depth Side.left (left_end F.rule j x) ≡ F.depth Side.left x = h.falls j (omega arith) in
    let g : F.depth Side.left (left_end F.rule j x) ≡ F.depth Side.left r = ap (F.depth Side.left) h.ends in
    record {
      ends = e;
      falls = λ i l.
          by_bool (leb i j) (λ u. h.falls i (leb-true i j u))
          (λ u. let m : i ≡ suc j = omega (arith, leb-false i j u) in rw (m, e) (omega arith));
    }

module _ (F : Facts) (r : ℕ) (b c : Expression) (g : Fit F Sort.spine (Expression.join r b c)) where
  join_rule : F.rule r ≡ Rule.Join (rule_number b) (rule_number c)
  unfolding shape rule_number
  join_rule = (tells F Sort.spine (Expression.join r b c) g).rule

  join-around : (vs : List ℕ) → step_around (F.rule r) vs ≡ around (task_word (rule_number c) before) (task_word (rule_number c) after) vs
  unfolding step_around
  join-around vs = ap (λ (x : Rule). step_around x vs) join_rule

  join-left : left_of (F.rule r) r ≡ rule_number b
  unfolding left_of
  join-left = ap (λ (x : Rule). left_of x r) join_rule

  -- a left step begins a run, or the run on top grows
  left-top : (run : ℕ → ℕ → List ℕ → List ℕ) (m : ℕ) (cs : Cells) (vs : List ℕ) → Top F run m r cs vs
      → Top F run (suc m) (rule_number b) (step Side.left r (rule_number b) cs) (around (task_word (rule_number c) before) (task_word (rule_number c) after) vs)
  unfolding pick left_steps
  left-top run m cs vs h =
      go cs vs h (let s : Steps F Side.left r (rule_number b) = join-steps F Side.left r b c g in s.deep)
    where
      go : (cs : Cells) (vs : List ℕ) → Top F run m r cs vs → F.depth Side.left r ≡ suc (F.depth Side.left (rule_number b))
          → Top F run (suc m) (rule_number b) (step Side.left r (rule_number b) cs) (around (task_word (rule_number c) before) (task_word (rule_number c) after) vs)
      go cs vs (plain u q) d =
          rw (step-begins Side.left r (rule_number b) cs u)
          (ran {x = r} {t = cs} 1 (omega arith) (run-one F r (rule_number b) join-left d) (ap (step_around (F.rule r)) q ∙ join-around vs))
      go cs vs (ran {x} {t} j l h q) d =
          rw (step-grows Side.left r (rule_number b) x r t)
          (ran {x = x} {t = t} (suc j) (omega arith) (run-longer F j x r (rule_number b) h join-left d)
          (steps-more F.rule j x (hole_tasks F.rule run t)
          ∙ ap₂ (λ (v : ℕ) (ws : List ℕ). step_around (F.rule v) ws) h.ends q
          ∙ join-around vs))

fill-top : (F : Facts) (run : ℕ → ℕ → List ℕ → List ℕ) (r : ℕ) (b c : Expression) (y : Position) → Fit F Sort.tree (Expression.fill r b c)
    → Top F run 0 (rule_number b) ((cell_spine, r, 0, 0) ∷ cells y) (task_word (rule_number c) all_of ∷ [])
unfolding hole_tasks filled_by top_kind cell_run shape rule_number
fill-top F run r b c y g = plain refl (ap filled_by (tells F Sort.tree (Expression.fill r b c) g).rule)

module _ (F : Facts) (n : ℕ) (run : ℕ → ℕ → List ℕ → List ℕ) (takes : Takes F n run) where
  right-top : (m a v x : ℕ) (cs : Cells) (vs : List ℕ) → m ≤ n → Top F run m x cs vs → Top F run m v (step Side.right a v cs) vs
  unfolding cell_run
  right-top m a v x cs vs l h =
      plain {cs = step Side.right a v cs} (rw (top_kind-step Side.right a v cs)) (right-tasks F.rule run a v cs ∙ top-tasks F n run takes m x cs vs l h)

  module _ (w : Expression) (g : Fit F Sort.row w) where
    -- in a spine
    spine-top : (e : Expression) (z : Position) → lefts z ≤ n → At w Where.spine e z → Top F run (lefts z) (rule_number e) (cells z) (part_tasks (in_hole z))
    unfolding cells in_hole pick rule_number lefts
    spine-top e z l (At.fill {r} {b} {c} {z = y} h) = fill-top F run r b c y (whole F w g Where.tree (Expression.fill r b c) y h)
    spine-top e z l (At.join {r} {b} {c} {z = y} Side.left h) =
        rw (tasks-around (c, before) (c, after) (in_hole y))
        (left-top F r b c (whole F w g Where.spine (Expression.join r b c) y h).0 run (lefts y) (cells y) (part_tasks (in_hole y))
        (spine-top (Expression.join r b c) y (omega arith) h))
    spine-top e z l (At.join {r} {b} {c} {z = y} Side.right h) =
        right-top (lefts y) r (rule_number c) r (cells y) (part_tasks (in_hole y)) l (spine-top (Expression.join r b c) y l h)

    -- at a node
    pub begun-parts : (e : Expression) (z : Position) → lefts z ≤ n → At w Where.here e z
        → begun_tasks F.rule run (rule_number e) (cells z) ≡ part_tasks (subtree_parts e z)
    unfolding begun_tasks begun_of subtree_parts rule_number shape
    begun-parts e z l (At.node {r} {a} {c} {z = y} h) =
        rw (tells F Sort.tree (Expression.node r a c) (whole F w g Where.tree (Expression.node r a c) y h)).rule
    begun-parts e z l (At.part {r} {a} {b} {c} h) =
        rw (
          (tells F Sort.spine (Expression.part r a b c) (whole F w g Where.spine (Expression.part r a b c) z h).0).rule,
          top-tasks F n run takes (lefts z) r (cells z) (part_tasks (in_hole z)) l (spine-top (Expression.part r a b c) z l h),
        )
        (sym (tasks-around (Expression.part r a b c, before) (Expression.part r a b c, after) (in_hole z)))
