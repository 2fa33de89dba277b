-- A place has no cells exactly where it is above the forest: the opening of a row is the first cell of every node's place, and a step keeps
-- what lies below it. Assumes nothing.
use Prim.Native.Nat.{ℕ}
use native.Mathlib.Omega.{arith}
use mathlib.Core.Path.{◌≡◌, refl}
use mathlib.Core.Bool.{Bool, true, false, cond}
use mathlib.Core.List.{[], ◌∷◌, cons≢nil}
use Rattle.std.specs.Prelude.{Option, None}
use lib.Dec.{eqb}
use Rattle.forest.specs.Expression.{Expression, rule_number}
use Rattle.forest.specs.Place.{Cells, Side, cell_run, step, representative}
use Rattle.forest.specs.Sides.{pick}
use Rattle.forest.specs.Position.{Position, Located, cells}
use Rattle.model.specs.Model.{Node}
use Rattle.model.specs.Same.{Same}

-- a node's place has cells
step-some : (s : Side) (a b : ℕ) (cs : Cells) → step s a b cs ≡ [] → ⊥
unfolding step
step-some s a b [] q = cons≢nil q
step-some s a b (c ∷ cs) q = go (eqb c.0 (cell_run s)) q
  where
    go : (t : Bool) → cond t ((c.0, c.1, b, c.3) ∷ cs) ((cell_run s, a, b, 0) ∷ c ∷ cs) ≡ [] → ⊥
    go true g = cons≢nil g
    go false g = cons≢nil g

cells-some : (z : Position) → cells z ≡ [] → ⊥
unfolding cells
cells-some (Position.start e) q = cons≢nil q
cells-some (Position.node_row r a c z) q = cons≢nil q
cells-some (Position.part_row s r a b c z) q = cons≢nil q
cells-some (Position.pair_side s r b c z) q = step-some s r (representative (pick s b c)) (cells z) q
cells-some (Position.node_spine r a c z) q = cons≢nil q
cells-some (Position.fill_spine r b c z) q = cons≢nil q
cells-some (Position.join_side s r b c z) q = step-some s r (rule_number (pick s b c)) (cells z) q

-- the same place, above the forest or not
pub same_above : {w : Expression} (x : Option Located) (m : Node) → Same w x m → m.1 ≡ [] → x ≡ None
same_above x m Same.above q = refl
same_above x m (Same.at {z = z} h) q = absurd (cells-some z q)

pub equal_cells : {w : Expression} (x : Option Located) (m : Node) → Same w x m → x ≡ None → m.1 ≡ []
equal_cells x m Same.above q = refl
equal_cells x m (Same.at h) q = absurd (let z : ◌≡◌ {A = ℕ} 0 1 = cc in omega arith)
