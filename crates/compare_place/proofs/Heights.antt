-- The tasks that a subtree begins with fit a stack of three words a rule: a crumb's two tasks stand on as many others as there are left
-- steps above and below it, and each left step goes to something lower. Assumes nothing.
use Prim.Native.Nat.{ℕ, suc, ◌+◌, ◌*◌, ◌≤◌, ◌<◌}
use native.Mathlib.Omega.{arith}
use mathlib.Core.Path.{◌≡◌, refl, ◌∙◌, ap}
use mathlib.Core.List.{List, [], ◌∷◌, ◌++◌, append_assoc, append-nil}
use lib.ListN.{length, length-append}
use Rattle.forest.specs.Expression.{Expression, rule_number}
use Rattle.forest.specs.Sizes.{height}
use Rattle.forest.specs.Place.{Side}
use Rattle.forest.specs.Good.{Known}
use Rattle.forest.specs.Position.{Position, At, Where}
use Rattle.model.proofs.Ranged.{Every, number_in}
use Rattle.count_passes.specs.Says.{whole, before, after}
use Rattle.spread_step.specs.Task.{task_word, no_task}
use Rattle.spread_stack.specs.Run.{Stacked, none, on}
use Rattle.spread_stack.proofs.Fits.{fit-part}
use Rattle.compare_tokens.specs.Parts.{Part, around, in_hole, subtree_parts, part_task, part_tasks}
use Rattle.compare_tokens.proofs.Parts.{Wordable, AllWordable}
use Rattle.compare_place.proofs.Crumbs.{lefts, Hereditary, Low, Crumbed, Stood, stood}
use Rattle.compare_place.proofs.Cells.{map-append}

-- e is what E gives for its rule's number, which is below n, and so is all inside it
pub record Ruled (E : ℕ → Expression) (n : ℕ) (e : Expression) : Type 0 where
  pub known : Known E e
  pub ranged : Every (λ r. r < n) e

known-number : {E : ℕ → Expression} {e : Expression} → Known E e → E (rule_number e) ≡ e
unfolding rule_number
known-number (Known.empty q) = q
known-number (Known.pair q b c) = q
known-number (Known.node q c) = q
known-number (Known.fill q b c) = q
known-number (Known.part q b c) = q
known-number (Known.join q b c) = q

module _ (E : ℕ → Expression) (n : ℕ) where
  two : {b c : Expression} → Known E b × Known E c → Every (λ r. r < n) b × Every (λ r. r < n) c → Ruled E n b × Ruled E n c
  two k l = (record { known = k.0; ranged = l.0 }, record { known = k.1; ranged = l.1 })

  known-pair : {r : ℕ} {b c : Expression} → Known E (Expression.pair r b c) → Known E b × Known E c
  known-pair (Known.pair q b c) = (b, c)

  known-node : {r a : ℕ} {c : Expression} → Known E (Expression.node r a c) → Known E c
  known-node (Known.node q c) = c

  known-fill : {r : ℕ} {b c : Expression} → Known E (Expression.fill r b c) → Known E b × Known E c
  known-fill (Known.fill q b c) = (b, c)

  known-part : {r a : ℕ} {b c : Expression} → Known E (Expression.part r a b c) → Known E b × Known E c
  known-part (Known.part q b c) = (b, c)

  known-join : {r : ℕ} {b c : Expression} → Known E (Expression.join r b c) → Known E b × Known E c
  known-join (Known.join q b c) = (b, c)

module _ (P : ℕ → Type 0) where
  every-pair : {r : ℕ} {b c : Expression} → Every P (Expression.pair r b c) → Every P b × Every P c
  every-pair (Every.pair q b c) = (b, c)

  every-node : {r a : ℕ} {c : Expression} → Every P (Expression.node r a c) → Every P c
  every-node (Every.node q c) = c

  every-fill : {r : ℕ} {b c : Expression} → Every P (Expression.fill r b c) → Every P b × Every P c
  every-fill (Every.fill q b c) = (b, c)

  every-part : {r a : ℕ} {b c : Expression} → Every P (Expression.part r a b c) → Every P b × Every P c
  every-part (Every.part q b c) = (b, c)

  every-join : {r : ℕ} {b c : Expression} → Every P (Expression.join r b c) → Every P b × Every P c
  every-join (Every.join q b c) = (b, c)

ruled-inside : (E : ℕ → Expression) (n : ℕ) → Hereditary (Ruled E n)
ruled-inside E n =
    record {
      pair = λ r b c x. two E n (known-pair E n x.known) (every-pair (λ r. r < n) x.ranged);
      node = λ r a c x. record { known = known-node E n x.known; ranged = every-node (λ r. r < n) x.ranged };
      fill = λ r b c x. two E n (known-fill E n x.known) (every-fill (λ r. r < n) x.ranged);
      part = λ r a b c x. two E n (known-part E n x.known) (every-part (λ r. r < n) x.ranged);
      join = λ r b c x. two E n (known-join E n x.known) (every-join (λ r. r < n) x.ranged);
    }

-- the parts of a hole
hole-length : (z : Position) → length (part_tasks (in_hole z)) ≤ 2 * lefts z + 1
unfolding in_hole lefts
hole-length (Position.start e) = omega arith
hole-length (Position.node_row r a c z) = omega arith
hole-length (Position.part_row s r a b c z) = omega arith
hole-length (Position.pair_side s r b c z) = omega arith
hole-length (Position.node_spine r a c z) = omega arith
hole-length (Position.fill_spine r b c z) = omega arith
hole-length (Position.join_side Side.left r b c z) =
    rw (map-append part_task (in_hole z) ((c, after) ∷ []), length-append (part_tasks (in_hole z)) (part_task (c, after) ∷ [])) (omega (arith, hole-length z))
hole-length (Position.join_side Side.right r b c z) = hole-length z

-- parts around others, put on a stack
around-on : (x y : Part) (zs : List Part) (vs : List ℕ) → part_tasks (around x y zs) ++ vs ≡ part_task x ∷ (part_tasks zs ++ (part_task y ∷ vs))
around-on x y zs vs =
    ap (λ (l : List ℕ). part_task x ∷ (l ++ vs)) (map-append part_task zs (y ∷ []))
    ∙ ap (λ (l : List ℕ). part_task x ∷ l) (append_assoc (part_tasks zs) (part_task y ∷ []) vs)

module _ (E : ℕ → Expression) (n : ℕ) where
  -- one part, put on a stack
  push : (c : Expression) (p : ℕ) {k : ℕ} (vs : List ℕ) → Low (Ruled E n) n k c → p ≤ after → length vs + 2 * height c ≤ 3 * n
      → Stacked E n (3 * n) vs → Stacked E n (3 * n) (task_word (rule_number c) p ∷ vs)
  push c p vs x small h s =
      let e : height (E (rule_number c)) ≡ height c = ap height (known-number x.has.known) in
      on (λ (q : task_word (rule_number c) p ≡ no_task). omega arith)
      (fit-part E n (3 * n) (length vs) (rule_number c) p (number_in (λ r. r < n) c x.has.ranged) small (omega arith))
      s

  push-around : (c : Expression) (ys : List Part) {k : ℕ} (vs : List ℕ) → Low (Ruled E n) n k c
      → length (part_tasks ys) + 1 + length vs + 2 * height c ≤ 3 * n → Stacked E n (3 * n) vs
      → ((ws : List ℕ) → length ws ≡ suc (length vs) → Stacked E n (3 * n) ws → Stacked E n (3 * n) (part_tasks ys ++ ws))
      → Stacked E n (3 * n) (part_tasks (around (c, before) (c, after) ys) ++ vs)
  push-around c ys vs x h s inner =
      let last : List ℕ = task_word (rule_number c) after ∷ vs in
      rw (around-on (c, before) (c, after) ys vs)
      (push c before (part_tasks ys ++ last) x (omega arith) (rw (length-append (part_tasks ys) last) (omega arith))
      (inner last refl (push c after vs x (omega arith) (omega arith) s)))

  -- what stands in a hole, on a stack that is low enough
  hole-stacked : (z : Position) → Crumbed (Ruled E n) n z → (vs : List ℕ) → length vs + lefts z ≤ n → Stacked E n (3 * n) vs
      → Stacked E n (3 * n) (part_tasks (in_hole z) ++ vs)
  unfolding in_hole lefts
  hole-stacked (Position.start e) k vs h s = s
  hole-stacked (Position.node_row r a c z) k vs h s = s
  hole-stacked (Position.part_row t r a b c z) k vs h s = s
  hole-stacked (Position.pair_side t r b c z) k vs h s = s
  hole-stacked (Position.node_spine r a c z) k vs h s = s
  hole-stacked (Position.fill_spine r b c z) k vs h s = push c whole vs k (omega arith) (omega (arith, k.low)) s
  hole-stacked (Position.join_side Side.left r b c z) k vs h s =
      push-around c (in_hole z) vs k.0 (omega (arith, k.0.low, hole-length z)) s
      (λ ws q t. hole-stacked z k.1 ws (omega arith) t)
  hole-stacked (Position.join_side Side.right r b c z) k vs h s = hole-stacked z k vs h s

  -- the parts of a node's subtree
  pub begun-stacked : {w e : Expression} {z : Position} → Low (Ruled E n) n 0 w → At w Where.here e z → Stacked E n (3 * n) (part_tasks (subtree_parts e z))
  unfolding subtree_parts
  begun-stacked x (At.node {r} {a} {c} h) =
      let y : Low (Ruled E n) n 0 (Expression.node r a c) = stood (Ruled E n) n (ruled-inside E n) x h in
      push (Expression.node r a c) whole [] y (omega arith) (omega (arith, y.low)) none
  begun-stacked x (At.part {r} {a} {b} {c} {z = z} h) =
      let y : Stood (Ruled E n) n Where.spine (Expression.part r a b c) z = stood (Ruled E n) n (ruled-inside E n) x h in
      rw append-nil at
      (push-around (Expression.part r a b c) (in_hole z) [] y.0 (omega (arith, y.0.low, hole-length z)) none
      (λ ws q t. hole-stacked z y.1 ws (omega (arith, y.0.low)) t))

  pub begun-lefts : {w e : Expression} {z : Position} → Low (Ruled E n) n 0 w → At w Where.here e z → lefts z ≤ n
  unfolding lefts
  begun-lefts x (At.node h) = omega arith
  begun-lefts x (At.part {r} {a} {b} {c} {z = z} h) =
      let y : Stood (Ruled E n) n Where.spine (Expression.part r a b c) z = stood (Ruled E n) n (ruled-inside E n) x h in
      omega (arith, y.0.low)

  -- and their tasks say what they say
  word : (c : Expression) (p : ℕ) {k : ℕ} → Low (Ruled E n) n k c → p ≤ after → Wordable E (c, p)
  word c p x small = record { known = known-number x.has.known; small = small }

  all_append : (xs ys : List Part) → AllWordable E xs → AllWordable E ys → AllWordable E (xs ++ ys)
  all_append [] ys h k = k
  all_append (x ∷ xs) ys h k = (h.0, all_append xs ys h.1 k)

  hole-wordable : (z : Position) → Crumbed (Ruled E n) n z → AllWordable E (in_hole z)
  unfolding in_hole
  hole-wordable (Position.start e) k = tt
  hole-wordable (Position.node_row r a c z) k = tt
  hole-wordable (Position.part_row s r a b c z) k = tt
  hole-wordable (Position.pair_side s r b c z) k = tt
  hole-wordable (Position.node_spine r a c z) k = tt
  hole-wordable (Position.fill_spine r b c z) k = (word c whole k (omega arith), tt)
  hole-wordable (Position.join_side Side.left r b c z) k =
      (word c before k.0 (omega arith), all_append (in_hole z) ((c, after) ∷ []) (hole-wordable z k.1) (word c after k.0 (omega arith), tt))
  hole-wordable (Position.join_side Side.right r b c z) k = hole-wordable z k

  pub begun-wordable : {w e : Expression} {z : Position} → Low (Ruled E n) n 0 w → At w Where.here e z → AllWordable E (subtree_parts e z)
  unfolding subtree_parts
  begun-wordable x (At.node {r} {a} {c} h) = (word (Expression.node r a c) whole (stood (Ruled E n) n (ruled-inside E n) x h) (omega arith), tt)
  begun-wordable x (At.part {r} {a} {b} {c} {z = z} h) =
      let y : Stood (Ruled E n) n Where.spine (Expression.part r a b c) z = stood (Ruled E n) n (ruled-inside E n) x h in (
        word (Expression.part r a b c) before y.0 (omega arith),
        all_append (in_hole z) ((Expression.part r a b c, after) ∷ []) (hole-wordable z y.1) (word (Expression.part r a b c) after y.0 (omega arith), tt),
      )

-- a stack is no higher than its bound and one more
pub stacked-length : {E : ℕ → Expression} {n H : ℕ} {vs : List ℕ} → Stacked E n H vs → length vs ≤ suc H
stacked-length none = omega arith
stacked-length (on q a s) = omega (arith, a.low q)
