-- A place has at most 2 × n − 2 cells, n being the number of rules. Each right-hand side applied on the way to a node costs at
-- most two cells: a pair or a join one or none, a part the opening of a row, a node the openings of its spine and its row, and a
-- fill the opening of its spine and one right run to the last part, where C is opened. So twice the height of the expression
-- bounds the cells, and the height is below the number of rules. Assumes nothing.
use Prim.Native.Nat.{ℕ, suc, ◌+◌, ◌*◌, ◌-◌, ◌≤◌, ◌<◌}
use native.Mathlib.Omega.{arith}
use mathlib.Core.Path.{◌≡◌, refl}
use mathlib.Core.Bool.{Bool, true, false, cond}
use mathlib.Core.List.{List, [], ◌∷◌}
use Rattle.std.specs.Prelude.{Some}
use lib.ListN.{length}
use lib.Dec.{eqb}
use borrow.Author.Tests.{eq-eqb}
use Rattle.rule.specs.declared.Rule.{Rule}
use Rattle.rule.specs.Sound.{Sound, Closed}
use Rattle.forest.specs.Expression.{Expression, expression, rule_number}
use Rattle.forest.specs.Sizes.{height}
use Rattle.forest.specs.Forest.{Forest, append}
use Rattle.forest.specs.Place.{Cells, Side, Placed, cell_row, cell_spine, cell_run, row_of_node, row_of_part, is_empty, representative, step, placed, placed_of, placed_forest}
use Rattle.forest.specs.Reference.{Path, label_at}
use Rattle.forest.specs.Good.{Sort, Good}
use Rattle.forest.proofs.Unfold.{height-rank, closed-row}
use Rattle.forest.proofs.Each.{Each, each_append, each_weaken, each-label_at}

-- a step adds one cell or none
pub length-step : (s : Side) (a b : ℕ) (cs : Cells) → (length cs ≤ length (step s a b cs)) × (length (step s a b cs) ≤ suc (length cs))
unfolding step
length-step s a b [] = omega arith
length-step s a b (c ∷ cs) = go (eqb c.0 (cell_run s))
  where
    stepped : Bool → Cells
    stepped p = cond p ((c.0, c.1, b, c.3) ∷ cs) ((cell_run s, a, b, 0) ∷ c ∷ cs)

    go : (p : Bool) → (suc (length cs) ≤ length (stepped p)) × (length (stepped p) ≤ suc (suc (length cs)))
    go true = omega arith
    go false = omega arith

-- a second step to the same side adds none, wherever the two lead
pub length-step-step : (s : Side) (a b a' b' : ℕ) (cs : Cells) → length (step s a b (step s a' b' cs)) ≡ length (step s a b cs)
unfolding step
length-step-step s a b a' b' [] = rw (eq-eqb (cell_run s) (cell_run s) refl)
length-step-step s a b a' b' (c ∷ cs) = go (eqb c.0 (cell_run s)) refl
  where
    stepped : ℕ → ℕ → Bool → Cells
    stepped i j p = cond p ((c.0, c.1, j, c.3) ∷ cs) ((cell_run s, i, j, 0) ∷ c ∷ cs)

    go : (p : Bool) → eqb c.0 (cell_run s) ≡ p → length (step s a b (stepped a' b' p)) ≡ length (stepped a b p)
    go true q = rw q
    go false q = rw (eq-eqb (cell_run s) (cell_run s) refl)

-- how many cells the last part has of a spine that goes on at these cells, at most
abbrev reach : Cells → ℕ
reach cs = length (step Side.right 0 0 cs)

reach_here : (cs : Cells) → length cs ≤ reach cs
reach_here cs = (length-step Side.right 0 0 cs).0

reach-spine : (r : ℕ) (cs : Cells) → reach ((cell_spine, r, 0, 0) ∷ cs) ≡ suc (suc (length cs))
unfolding step
reach-spine r cs = refl

module _ (K : ℕ) where
  abbrev pub Short : Placed → Type 0
  Short p = length p.1 ≤ K

  -- cells enough for the nodes of an expression of this sort at these cells; a spine's hole is asked at its last part
  abbrev Room : Sort → Expression → Cells → (Cells → Forest Placed) → Type 0
  Room Sort.row e cs hole = length cs + 2 * height e ≤ suc K
  Room Sort.tree e cs hole = length cs + 2 * height e ≤ suc K
  Room Sort.spine e cs hole = (length cs + 2 * height e ≤ suc (suc K)) × ((last : Cells) → length last ≤ reach cs → Each Short (hole last))

  abbrev Bounded : Sort → Expression → Type 0
  Bounded s e = (cs : Cells) (hole : Cells → Forest Placed) → Room s e cs hole → Each Short (placed e cs hole)

  pair-bounded : (r : ℕ) (b c : Expression) → Bounded Sort.row b → Bounded Sort.row c → Bounded Sort.row (Expression.pair r b c)
  unfolding placed height
  pair-bounded r b c β γ cs hole h = go (is_empty b) (is_empty c)
    where
      left : Cells
      left = step Side.left r (representative b) cs

      right : Cells
      right = step Side.right r (representative c) cs

      go : (p q : Bool) → Each Short (cond p (placed c cs hole) (cond q (placed b cs hole) (append (placed b left hole) (placed c right hole))))
      go true q = γ cs hole (omega arith)
      go false true = β cs hole (omega arith)
      go false false =
          each_append Short (placed b left hole) (placed c right hole)
          (β left hole (omega (arith, length-step Side.left r (representative b) cs)))
          (γ right hole (omega (arith, length-step Side.right r (representative c) cs)))

  node-bounded : (r a : ℕ) (c : Expression) → Bounded Sort.row c → Bounded Sort.tree (Expression.node r a c)
  unfolding placed height
  node-bounded r a c γ cs hole h = (omega arith, γ ((cell_row, row_of_node, representative c, 0) ∷ (cell_spine, r, 0, 0) ∷ cs) hole (omega arith), tt)

  fill-bounded : (r : ℕ) (b c : Expression) → Bounded Sort.spine b → Bounded Sort.tree c → Bounded Sort.tree (Expression.fill r b c)
  unfolding placed height
  fill-bounded r b c β γ cs hole h =
      β ((cell_spine, r, 0, 0) ∷ cs) (λ last. placed c last hole)
      (omega arith, λ last l. γ last hole (omega (arith, reach-spine r cs)))

  part-bounded : (r a : ℕ) (b c : Expression) → Bounded Sort.row b → Bounded Sort.row c → Bounded Sort.spine (Expression.part r a b c)
  unfolding placed height
  part-bounded r a b c β γ cs hole h = (
    omega arith,
    each_append Short (placed b left hole) (append (hole cs) (placed c right hole)) (β left hole (omega arith))
        (each_append Short (hole cs) (placed c right hole) (h.1 cs (reach_here cs)) (γ right hole (omega arith))),
    tt,
  )
    where
      left : Cells
      left = (cell_row, row_of_part Side.left, representative b, 0) ∷ cs

      right : Cells
      right = (cell_row, row_of_part Side.right, representative c, 0) ∷ cs

  join-bounded : (r : ℕ) (b c : Expression) → Bounded Sort.spine b → Bounded Sort.spine c → Bounded Sort.spine (Expression.join r b c)
  unfolding placed height
  join-bounded r b c β γ cs hole h =
      β (step Side.left r (rule_number b) cs) (λ around. placed c right hole)
      (omega (arith, length-step Side.left r (rule_number b) cs), λ around m. γ right hole onward)
    where
      right : Cells
      right = step Side.right r (rule_number c) cs

      onward : Room Sort.spine c right hole
      onward = (
        omega (arith, length-step Side.right r (rule_number c) cs),
        λ last l. h.1 last (rw (length-step-step Side.right 0 0 r (rule_number c) cs) at l),
      )

  bounded : {s : Sort} {e : Expression} → Good s e → Bounded s e
  bounded (Good.empty {r}) cs hole h = unfold placed in tt
  bounded (Good.pair {r} {b} {c} f g) cs hole h = pair-bounded r b c (bounded f) (bounded g) cs hole h
  bounded (Good.grown f) cs hole h = bounded f cs hole h
  bounded (Good.node {r} {a} {c} g) cs hole h = node-bounded r a c (bounded g) cs hole h
  bounded (Good.fill {r} {b} {c} f g) cs hole h = fill-bounded r b c (bounded f) (bounded g) cs hole h
  bounded (Good.part {r} {a} {b} {c} f g) cs hole h = part-bounded r a b c (bounded f) (bounded g) cs hole h
  bounded (Good.join {r} {b} {c} f g) cs hole h = join-bounded r b c (bounded f) (bounded g) cs hole h

-- twice the height
pub cells-height : {e : Expression} → Good Sort.row e → Each (Short (2 * height e)) (placed_of e)
unfolding placed_of
cells-height {e} g = bounded (2 * height e) g ((cell_row, row_of_node, representative e, 0) ∷ []) (λ around. Forest.none) (omega arith)

module _ {R : List Rule} {rank : ℕ → ℕ} (S : Sound R rank) {r : ℕ} (c : Closed R r) where
  -- the sharp bound, "k is at most 3 × n", and the same of the place of the node at a path
  pub cells-sharp : Each (Short (2 * length R - 2)) (placed_forest R r)
  unfolding placed_forest
  cells-sharp =
      each_weaken (Short (2 * height (expression R r))) (Short (2 * length R - 2))
      (λ p h. within h (height-rank S r c.below) (S.ranked r c.below))
      (placed_of (expression R r)) (cells-height (closed-row S c))
    where
      within : {k h m n : ℕ} → k ≤ 2 * h → h ≤ m → m < n → k ≤ 2 * n - 2
      within p q l = omega arith

  pub cells-bound : Each (Short (3 * length R)) (placed_forest R r)
  cells-bound = each_weaken (Short (2 * length R - 2)) (Short (3 * length R)) (λ p h. omega arith) (placed_forest R r) cells-sharp

  pub place-bound : (p : Path) (a : ℕ) (cs : Cells) → label_at (placed_forest R r) p ≡ Some (a, cs) → length cs ≤ 3 * length R
  place-bound p a cs q = each-label_at (Short (3 * length R)) (placed_forest R r) p (a, cs) cells-bound q
