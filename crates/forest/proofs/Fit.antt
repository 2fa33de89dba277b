-- Every word of a place fits two bytes: the words are rule numbers below n and the cell forms' own small numbers, and a step
-- brings in no other. Every place has a cell, because it begins with the row of the walked rule. Assumes nothing.
use Prim.Native.Nat.{ℕ, ◌≤◌, ◌<◌}
use native.Mathlib.Omega.{arith}
use mathlib.Core.Bool.{Bool, true, false, cond}
use mathlib.Core.List.{List, [], ◌∷◌}
use lib.ListN.{length}
use lib.Dec.{eqb}
use Rattle.rule.specs.declared.Rule.{Rule}
use Rattle.rule.specs.Sound.{rule, Sound}
use Rattle.forest.specs.Expression.{Expression, rhs, expression, rule_number}
use Rattle.forest.specs.Forest.{Forest, append}
use Rattle.forest.specs.Place.{Cells, Placed, Side, cell_run, cell_row, cell_spine, row_of_part, row_of_node, is_empty, representative, step, placed, placed_of, placed_forest}
use Rattle.forest.proofs.Each.{Each, each_append}
use Rattle.forest.proofs.Unfold.{by_rank, unfolding-equation}
use Rattle.rule.specs.Names.{Names}
use Rattle.forest.proofs.Stored.{Fitting, AllFitting}

-- every rule number in an expression is below N
abbrev Below : ℕ → Expression → Type 0
Below N (Expression.empty r) = r < N
Below N (Expression.pair r b c) = (r < N) × Below N b × Below N c
Below N (Expression.node r a c) = (r < N) × Below N c
Below N (Expression.fill r b c) = (r < N) × Below N b × Below N c
Below N (Expression.part r a b c) = (r < N) × Below N b × Below N c
Below N (Expression.join r b c) = (r < N) × Below N b × Below N c

below-rhs : (N r : ℕ) (x : Rule) (E : ℕ → Expression) → r < N → ((k : ℕ) → Names x k → Below N (E k)) → Below N (rhs r x E)
unfolding rhs
below-rhs N r Rule.Empty E l h = l
below-rhs N r (Rule.Pair b c) E l h = (l, h b Names.pair_one, h c Names.pair_two)
below-rhs N r (Rule.Node a c) E l h = (l, h c Names.node_one)
below-rhs N r (Rule.Fill b c) E l h = (l, h b Names.fill_one, h c Names.fill_two)
below-rhs N r (Rule.Part a b c) E l h = (l, h b Names.part_one, h c Names.part_two)
below-rhs N r (Rule.Join b c) E l h = (l, h b Names.join_one, h c Names.join_two)

expression-below : {R : List Rule} {rank : ℕ → ℕ} → Sound R rank → (N : ℕ) → length R ≤ N → (r : ℕ) → r < length R → Below N (expression R r)
expression-below {R} S N fits =
    by_rank S (λ r. Below N (expression R r)) (λ r h f. rw (unfolding-equation S r h) (below-rhs N r (rule R r) (expression R) (omega arith) f))

either : (N : ℕ) (t : Bool) (a b : ℕ) → a < N → b < N → cond t a b < N
either N true a b h k = h
either N false a b h k = k

number-below : (N : ℕ) (e : Expression) → Below N e → rule_number e < N
unfolding rule_number
number-below N (Expression.empty r) h = h
number-below N (Expression.pair r b c) h = h.0
number-below N (Expression.node r a c) h = h.0
number-below N (Expression.fill r b c) h = h.0
number-below N (Expression.part r a b c) h = h.0
number-below N (Expression.join r b c) h = h.0

representative-below : (N : ℕ) (e : Expression) → Below N e → representative e < N
unfolding representative
representative-below N (Expression.empty r) h = h
representative-below N (Expression.pair r b c) h =
    either N (is_empty b) (representative c) (cond (is_empty c) (representative b) r) (representative-below N c h.2)
    (either N (is_empty c) (representative b) r (representative-below N b h.1) h.0)
representative-below N (Expression.node r a c) h = h.0
representative-below N (Expression.fill r b c) h = h.0
representative-below N (Expression.part r a b c) h = h.0
representative-below N (Expression.join r b c) h = h.0

run_fits : (s : Side) → cell_run s < 65536
unfolding cell_run
run_fits Side.left = omega arith
run_fits Side.right = omega arith

row_fits : (s : Side) → row_of_part s < 65536
unfolding row_of_part
row_fits Side.left = omega arith
row_fits Side.right = omega arith

step_fits : (s : Side) (a b : ℕ) (cs : Cells) → a < 65536 → b < 65536 → AllFitting cs → AllFitting (step s a b cs)
unfolding step
step_fits s a b [] ha hb f = (record { kind = run_fits s; one = ha; two = hb; three = omega arith }, tt)
step_fits s a b (c ∷ cs) ha hb f = go (eqb c.0 (cell_run s))
  where
    go : (t : Bool) → AllFitting (cond t ((c.0, c.1, b, c.3) ∷ cs) ((cell_run s, a, b, 0) ∷ c ∷ cs))
    go true = (record { kind = f.0.kind; one = f.0.one; two = hb; three = f.0.three }, f.1)
    go false = (record { kind = run_fits s; one = ha; two = hb; three = omega arith }, f)

abbrev Fits : Placed → Type 0
Fits p = AllFitting p.1

spine-fits : (r : ℕ) → r < 65536 → Fitting (cell_spine, r, 0, 0)
spine-fits r h = record { kind = omega arith; one = h; two = omega arith; three = omega arith }

opening-fits : (d r : ℕ) → d < 65536 → r < 65536 → Fitting (cell_row, d, r, 0)
opening-fits d r k h = record { kind = omega arith; one = k; two = h; three = omega arith }

-- two forests side by side, one of which may be left out
pair_fits : (t u : Bool) (f g h k : Forest Placed) → Each Fits f → Each Fits g → Each Fits h → Each Fits k → Each Fits (cond t f (cond u g (append h k)))
pair_fits true u f g h k p q r s = p
pair_fits false true f g h k p q r s = q
pair_fits false false f g h k p q r s = each_append Fits h k r s

placed-fits : (e : Expression) → Below 65536 e → (cs : Cells) (hole : Cells → Forest Placed) → AllFitting cs → ((y : Cells) → AllFitting y → Each Fits (hole y)) → Each Fits (placed e cs hole)
unfolding placed
placed-fits (Expression.empty r) h cs hole f k = tt
placed-fits (Expression.pair r b c) h cs hole f k =
    pair_fits (is_empty b) (is_empty c) (placed c cs hole) (placed b cs hole)
    (placed b (step Side.left r (representative b) cs) hole)
    (placed c (step Side.right r (representative c) cs) hole)
    (placed-fits c h.2 cs hole f k) (placed-fits b h.1 cs hole f k)
    (placed-fits b h.1 (step Side.left r (representative b) cs) hole (step_fits Side.left r (representative b) cs h.0 (representative-below 65536 b h.1) f) k)
    (placed-fits c h.2 (step Side.right r (representative c) cs) hole (step_fits Side.right r (representative c) cs h.0 (representative-below 65536 c h.2) f) k)
placed-fits (Expression.node r a c) h cs hole f k = (
  (spine-fits r h.0, f),
  placed-fits c h.1 ((cell_row, row_of_node, representative c, 0) ∷ (cell_spine, r, 0, 0) ∷ cs) hole (opening-fits 0 (representative c) (omega arith) (representative-below 65536 c h.1), (spine-fits r h.0, f)) k,
  tt,
)
placed-fits (Expression.fill r b c) h cs hole f k =
    placed-fits b h.1 ((cell_spine, r, 0, 0) ∷ cs) (λ last. placed c last hole) (spine-fits r h.0, f) (λ y g. placed-fits c h.2 y hole g k)
placed-fits (Expression.part r a b c) h cs hole f k = (
  f,
  each_append Fits (placed b ((cell_row, row_of_part Side.left, representative b, 0) ∷ cs) hole) (append (hole cs) (placed c ((cell_row, row_of_part Side.right, representative c, 0) ∷ cs) hole))
      (placed-fits b h.1 ((cell_row, row_of_part Side.left, representative b, 0) ∷ cs) hole (opening-fits (row_of_part Side.left) (representative b) (row_fits Side.left) (representative-below 65536 b h.1), f) k)
      (each_append Fits (hole cs) (placed c ((cell_row, row_of_part Side.right, representative c, 0) ∷ cs) hole) (k cs f) (placed-fits c h.2 ((cell_row, row_of_part Side.right, representative c, 0) ∷ cs) hole (opening-fits (row_of_part Side.right) (representative c) (row_fits Side.right) (representative-below 65536 c h.2), f) k)),
  tt,
)
placed-fits (Expression.join r b c) h cs hole f k =
    placed-fits b h.1 (step Side.left r (rule_number b) cs) (λ around. placed c (step Side.right r (rule_number c) cs) hole) (step_fits Side.left r (rule_number b) cs h.0 (number-below 65536 b h.1) f)
    (λ y g. placed-fits c h.2 (step Side.right r (rule_number c) cs) hole (step_fits Side.right r (rule_number c) cs h.0 (number-below 65536 c h.2) f) k)

pub places-fit : {R : List Rule} {rank : ℕ → ℕ} → Sound R rank → length R ≤ 65536 → (r : ℕ) → r < length R → Each (λ (p : Placed). AllFitting p.1) (placed_forest R r)
unfolding placed_forest placed_of
places-fit {R} S small r h =
    let b : Below 65536 (expression R r) = expression-below S 65536 small r h in
    placed-fits (expression R r) b ((cell_row, row_of_node, representative (expression R r), 0) ∷ []) (λ around. Forest.none)
    (opening-fits 0 (representative (expression R r)) (omega arith) (representative-below 65536 (expression R r) b), tt)
    (λ y g. tt)
