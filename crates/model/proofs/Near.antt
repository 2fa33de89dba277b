-- What a letter leaves alone: each piece of a move changes at most one cell on top and pushes others, so every move but a root
-- keeps all cells below the last eight, and the parent of a row's node only drops cells. So cells 1 to m − 16 stay.
-- Assumes nothing.
use Prim.Native.Nat.{ℕ, zero, suc, ◌+◌, ◌-◌, ◌≤◌, min}
use native.Mathlib.Omega.{arith}
use mathlib.Core.Path.{◌≡◌, refl, sym, ◌∙◌}
use mathlib.Core.Bool.{false, false≢true}
use mathlib.Core.List.{[], ◌∷◌}
use Rattle.std.specs.Prelude.{Option, None, Some, option_map, unwrap_or}
use lib.ListN.{length, drop, length-drop}
use lib.Seq.{drop-drop}
use lib.Dec.{eqb, leb}
use Rattle.rule.specs.declared.Rule.{Rule}
use Rattle.forest.specs.Place.{Cells, Side, cell_row, cell_spine, cell_run, row_of_node, row_of_part, step, first_cells}
use Rattle.forest.specs.Sides.{other, pick}
use Rattle.forest.specs.Position.{or_else}
use Rattle.forest.specs.Letter.{Letter, is_root}
use Rattle.model.specs.Facts.{Facts}
use Rattle.model.specs.Model
use Rattle.model.specs.Walk.{move, moved, from_node}
use Rattle.forest.proofs.Cases.{by_bool}
use Rattle.model.proofs.Stages.{ended, follow, sibling_from, sibling-stages}

-- t is what lies at the bottom of a stack
pub data Under (t : Cells) : Cells → Type 0 where
  all : Under t t
  more : {c : ℕ × ℕ × ℕ × ℕ} {cs : Cells} → Under t cs → Under t (c ∷ cs)

under-trans : (t u v : Cells) → Under t u → Under u v → Under t v
under-trans t u v h all = h
under-trans t u v h (more {cs} k) = more (under-trans t u cs h k)

under_drop : (i : ℕ) (cs : Cells) → Under (drop i cs) cs
under_drop zero cs = all
under_drop (suc i) [] = all
under_drop (suc i) (c ∷ cs) = more (under_drop i cs)

drop-less : (i : ℕ) (cs : Cells) → Under (drop (suc i) cs) (drop i cs)
drop-less zero [] = all
drop-less zero (c ∷ cs) = more all
drop-less (suc i) [] = all
drop-less (suc i) (c ∷ cs) = drop-less i cs

drop-under : (u v : Cells) → Under u v → (i : ℕ) → Under (drop i u) (drop i v)
drop-under u v all i = all
drop-under u v (more h) zero = more h
drop-under u v (more {c} {cs} h) (suc i) = under-trans (drop (suc i) u) (drop i u) (drop i cs) (drop-less i u) (drop-under u cs h i)

-- all but the last j cells are kept
abbrev pub Keeps : ℕ → Cells → Cells → Type 0
Keeps j cs ds = Under (drop j cs) ds

keeps-both : (i j : ℕ) (cs ds es : Cells) → Keeps i cs ds → Keeps j ds es → Keeps (i + j) cs es
keeps-both i j cs ds es h k =
    rw (← (drop-drop j i cs)) (under-trans (drop j (drop i cs)) (drop j ds) es (drop-under (drop i cs) ds h j) k)

keeps-more : (i j : ℕ) (cs ds : Cells) → Keeps i cs ds → Keeps (i + j) cs ds
keeps-more i j cs ds h = keeps-both i j cs ds ds h (under_drop j ds)

keeps-tail : (cs : Cells) → Keeps 1 cs (Model.tail cs)
unfolding Model.tail
keeps-tail [] = all
keeps-tail (c ∷ cs) = all

keeps-pop_run : (s : Side) (cs : Cells) → Keeps 1 cs (Model.pop_run s cs)
unfolding Model.pop_run
keeps-pop_run s [] = all
keeps-pop_run s (c ∷ cs) = by_bool (eqb c.0 (cell_run s)) (λ u. rw u all) (λ u. rw u (more all))

keeps-step : (s : Side) (a b : ℕ) (cs : Cells) → Keeps 1 cs (step s a b cs)
unfolding step
keeps-step s a b [] = more all
keeps-step s a b (c ∷ cs) = by_bool (eqb c.0 (cell_run s)) (λ u. rw u (more all)) (λ u. rw u (more (more all)))

module _ (F : Facts) where
  keeps-run : (s : Side) (a : ℕ) (cs : Cells) → Keeps 1 cs (Model.run F s a cs)
  unfolding Model.run
  keeps-run s a cs = by_bool (eqb (F.depth s a) 0) (λ u. rw u (under_drop 1 cs)) (λ u. rw u (keeps-step s a (F.last s a) cs))

  keeps-shrunk : (s : Side) (cs : Cells) → Keeps 1 cs (Model.shrunk F s cs)
  unfolding Model.shrunk
  keeps-shrunk s [] = all
  keeps-shrunk s (c ∷ cs) = by_bool (leb (F.depth s c.1) (suc (F.depth s c.2))) (λ u. rw u all) (λ u. rw u (more all))

  keeps-turned : (s : Side) (v : ℕ) (cs : Cells) → Keeps 2 cs (Model.turned F s v cs).1
  unfolding Model.turned
  keeps-turned s v cs =
      keeps-both 1 1 cs (step s v (F.toward s v) cs) (Model.run F (other s) (F.toward s v) (step s v (F.toward s v) cs))
      (keeps-step s v (F.toward s v) cs) (keeps-run (other s) (F.toward s v) (step s v (F.toward s v) cs))

  keeps-opened : (a : ℕ) (cs : Cells) → Keeps 0 cs (Model.opened F a cs).1
  unfolding Model.opened
  keeps-opened a cs = keeps-run Side.left (Model.outer F a) ((cell_spine, a, 0, 0) ∷ cs)

-- so does a move that leads to a node
data Near (j : ℕ) (cs : Cells) : Option Model.Node → Type 0 where
  off : Near j cs None
  on : {x : Model.Node} → Keeps j cs x.1 → Near j cs (Some x)

near-else : (j : ℕ) (cs : Cells) (x y : Option Model.Node) → Near j cs x → Near j cs y → Near j cs (or_else x y)
unfolding or_else
near-else j cs x y off k = k
near-else j cs x y (on h) k = on h

near-more : (i j : ℕ) (cs : Cells) (x : Option Model.Node) → Near i cs x → Near (i + j) cs x
near-more i j cs x off = off
near-more i j cs x (on {x = y} h) = on (keeps-more i j cs y.1 h)

-- after cells were kept
near-after : (i j : ℕ) (cs ds : Cells) (x : Option Model.Node) → Keeps i cs ds → Near j ds x → Near (i + j) cs x
near-after i j cs ds x h off = off
near-after i j cs ds x h (on {x = y} k) = on (keeps-both i j cs ds y.1 h k)

module _ (F : Facts) where
  near-beside_top : (s : Side) (cs : Cells) → Near 3 cs (Model.beside_top F s cs)
  unfolding Model.beside_top
  near-beside_top s [] = off
  near-beside_top s (c ∷ cs) =
      by_bool (eqb c.0 (cell_run (other s)))
      (λ u. rw u
      (let v = Model.one_above F (other s) c.1 c.2 in
      let ds = Model.shrunk F (other s) (c ∷ cs) in
      on (keeps-both 1 2 (c ∷ cs) ds (Model.turned F s v ds).1 (keeps-shrunk F (other s) (c ∷ cs)) (keeps-turned F s v ds))))
      (λ u. rw u off)

  near-enter : (s : Side) (d a : ℕ) (cs : Cells) → Near 0 cs (Model.enter F s d a cs)
  unfolding Model.enter
  near-enter s d a cs =
      by_bool (F.is_empty a) (λ u. rw u off)
      (λ u. rw u
      (let v = F.representative a in
      let ds = Model.run F s v ((cell_row, d, v, 0) ∷ cs) in
      on (under-trans cs ds (Model.opened F (F.last s v) ds).1 (keeps-run F s v ((cell_row, d, v, 0) ∷ cs)) (keeps-opened F (F.last s v) ds))))

  near-continued : (cs : Cells) (x : Option ℕ) → Near 0 cs (option_map (λ (c : ℕ). Model.opened F c cs) x)
  near-continued cs None = off
  near-continued cs (Some c) = on (keeps-opened F c cs)

  near-inward : (cs : Cells) → Near 4 cs (Model.inward F cs)
  unfolding Model.inward Model.beside
  near-inward cs =
      let t = Model.pop_run Side.right cs in
      near-else 4 cs (Model.beside_top F Side.right t) (option_map (λ (c : ℕ). Model.opened F c cs) (Model.continuing F t))
      (near-after 1 3 cs t (Model.beside_top F Side.right t) (keeps-pop_run Side.right cs) (near-beside_top Side.right t))
      (near-more 0 4 cs (option_map (λ (c : ℕ). Model.opened F c cs) (Model.continuing F t)) (near-continued cs (Model.continuing F t)))

  near-part_at : (cs : Cells) → Near 0 cs (Model.part_at F cs)
  unfolding Model.part_at
  near-part_at cs = by_bool (Model.is_part (F.rule (Model.standing F cs))) (λ u. rw u (on all)) (λ u. rw u off)

  near-outward : (cs : Cells) → Near 4 cs (Model.outward F cs)
  unfolding Model.outward Model.beside Model.under
  near-outward cs =
      let t = Model.pop_run Side.left cs in
      let x = Model.part_at F (Model.tail t) in
      near-after 1 3 cs t (or_else (Model.beside_top F Side.left t) x) (keeps-pop_run Side.left cs)
      (near-else 3 t (Model.beside_top F Side.left t) x (near-beside_top Side.left t)
      (near-more 1 2 t x (near-after 1 0 t (Model.tail t) x (keeps-tail t) (near-part_at (Model.tail t)))))

  near-ended : (s : Side) (cs : Cells) → Near 5 cs (ended F s cs)
  unfolding ended
  near-ended s [] = off
  near-ended s (c ∷ cs) =
      by_bool (eqb c.1 (row_of_part (other s))) (λ u. rw u (near-after 1 4 (c ∷ cs) cs (Model.inward F cs) all (near-inward cs))) (λ u. rw u off)

  near-tree : (j : ℕ) (cs : Cells) (x : Option Model.Node) → Near j cs x → Near j cs (option_map (λ (y : Model.Node). Model.opened F y.0 y.1) x)
  near-tree j cs x off = off
  near-tree j cs x (on {x = y} h) = on (under-trans (drop j cs) y.1 (Model.opened F y.0 y.1).1 h (keeps-opened F y.0 y.1))

  near-follow : (s : Side) (cs : Cells) → Near 6 cs (follow F s cs)
  unfolding follow Model.beside
  near-follow s cs =
      let u = Model.pop_run s cs in
      let x = option_map (λ (y : Model.Node). Model.opened F y.0 y.1) (Model.beside_top F s u) in
      near-after 1 5 cs u (or_else x (ended F s u)) (keeps-pop_run s cs)
      (near-else 5 u x (ended F s u) (near-more 3 2 u x (near-tree 3 u (Model.beside_top F s u) (near-beside_top s u))) (near-ended s u))

  near-child_of : (s : Side) (q : Rule) (cs : Cells) → Near 4 cs (Model.child_of F s q cs)
  unfolding Model.child_of
  near-child_of s Rule.Empty cs = off
  near-child_of s (Rule.Pair b c) cs = off
  near-child_of s (Rule.Node x c) cs = near-more 0 4 cs (Model.enter F s row_of_node c cs) (near-enter s row_of_node c cs)
  near-child_of s (Rule.Fill b c) cs = off
  near-child_of s (Rule.Part x b c) cs =
      near-else 4 cs (Model.enter F s (row_of_part s) (pick s b c) cs) (Model.inward F cs)
      (near-more 0 4 cs (Model.enter F s (row_of_part s) (pick s b c) cs) (near-enter s (row_of_part s) (pick s b c) cs)) (near-inward cs)
  near-child_of s (Rule.Join b c) cs = off

  near-beside_hole : (s : Side) (q : Rule) (cs : Cells) → Near 0 cs (Model.beside_hole F s q cs)
  unfolding Model.beside_hole
  near-beside_hole s Rule.Empty cs = off
  near-beside_hole s (Rule.Pair b c) cs = off
  near-beside_hole s (Rule.Node x c) cs = off
  near-beside_hole s (Rule.Fill b c) cs = off
  near-beside_hole s (Rule.Part x b c) cs = near-enter (other s) (row_of_part s) (pick s b c) cs
  near-beside_hole s (Rule.Join b c) cs = off

  near-sibling_from : (s : Side) (x : Option Model.Node) (cs : Cells) → Near 4 cs x → Near 8 cs (sibling_from F s x cs)
  unfolding sibling_from Model.under
  near-sibling_from s x cs off =
      let t = Model.pop_run Side.left cs in
      near-after 2 6 cs (Model.tail t) (follow F s (Model.tail t)) (keeps-both 1 1 cs t (Model.tail t) (keeps-pop_run Side.left cs) (keeps-tail t)) (near-follow s (Model.tail t))
  near-sibling_from s x cs (on {x = y} h) =
      let z = Model.beside_hole F s (F.rule y.0) y.1 in
      near-more 4 4 cs z (near-after 4 0 cs y.1 z h (near-beside_hole s (F.rule y.0) y.1))

-- the cells below a row's opening lie under a stack
below_row_lem : (cs : Cells) → Under (Model.below_row cs) cs
unfolding Model.below_row
below_row_lem [] = all
below_row_lem (c ∷ cs) = by_bool (eqb c.0 cell_row) (λ u. rw u (more all)) (λ u. rw u (more (below_row_lem cs)))

under-tree : (cs : Cells) → Under (Model.under cs) cs
unfolding Model.under Model.pop_run Model.tail
under-tree [] = all
under-tree (c ∷ cs) = by_bool (eqb c.0 (cell_run Side.left)) (λ u. rw u (more (dropped cs))) (λ u. rw u (more all))
  where
    dropped : (cs : Cells) → Under (Model.tail cs) cs
    dropped [] = all
    dropped (c ∷ cs) = more all

-- a letter but a root keeps all cells below the last eight, or only drops cells
data Shares (cs : Cells) : Option Model.Node → Type 0 where
  nowhere : Shares cs None
  kept : {x : Model.Node} → Keeps 8 cs x.1 → Shares cs (Some x)
  fallen : {x : Model.Node} → Under x.1 cs → Shares cs (Some x)

near-shares : (cs : Cells) (x : Option Model.Node) → Near 8 cs x → Shares cs x
near-shares cs x off = nowhere
near-shares cs x (on h) = kept h

node-shares : (F : Facts) (cs ds : Cells) → Under ds cs → Shares cs (Model.node_at F ds)
unfolding Model.node_at
node-shares F cs [] h = nowhere
node-shares F cs (d ∷ ds) h = fallen h

parent-shares : (F : Facts) (cs : Cells) (x : Option Model.Node) → Near 8 cs x → Shares cs (or_else x (Model.node_at F (Model.below_row (Model.under cs))))
unfolding or_else
parent-shares F cs x off =
    node-shares F cs (Model.below_row (Model.under cs)) (under-trans (Model.below_row (Model.under cs)) (Model.under cs) cs (below_row_lem (Model.under cs)) (under-tree cs))
parent-shares F cs x (on h) = kept h

from-shares : (cs : Cells) (y : Option Model.Node) → Shares cs y → Shares cs (from_node cs y)
unfolding from_node
from-shares [] y h = nowhere
from-shares (c ∷ cs) y h = h

move-shares : (F : Facts) (r : ℕ) (l : Letter) (x : Model.Node) → is_root l ≡ false → Shares x.1 (move F r l x)
unfolding move is_root Model.child Model.parent
move-shares F r (Letter.root s) x q = absurd (false≢true (sym q))
move-shares F r (Letter.child s) x q =
    let y = Model.child_of F s (F.rule x.0) x.1 in
    from-shares x.1 y (near-shares x.1 y (near-more 4 4 x.1 y (near-child_of F s (F.rule x.0) x.1)))
move-shares F r (Letter.sibling s) x q =
    let y = sibling_from F s (Model.outward F x.1) x.1 in
    rw sibling-stages (from-shares x.1 y (near-shares x.1 y (near-sibling_from F s (Model.outward F x.1) x.1 (near-outward F x.1))))
move-shares F r Letter.parent x q =
    from-shares x.1 (Model.parent F x)
    (parent-shares F x.1 (Model.outward F x.1) (near-more 4 4 x.1 (Model.outward F x.1) (near-outward F x.1)))
move-shares F r Letter.stay x q = from-shares x.1 (Some x) (fallen all)

-- what lies at the bottom of two stacks is the same in both
under-length : (t cs : Cells) → Under t cs → length t ≤ length cs
under-length t cs all = omega arith
under-length t cs (more {cs = ds} h) = let k = under-length t ds h in omega arith

same_first : (t cs : Cells) → Under t cs → (j : ℕ) → j ≤ length t → first_cells j cs ≡ first_cells j t
unfolding first_cells
same_first t cs all j l = refl
same_first t cs (more {cs = ds} h) j l =
    let k = under-length t ds h in
    rw (let e : suc (length ds) - j ≡ suc (length ds - j) = omega arith in e) (same_first t ds h j l)

first-kept : (cs ds : Cells) → Keeps 8 cs ds → first_cells (min (length cs) (length ds) - 16) cs ≡ first_cells (min (length cs) (length ds) - 16) ds
first-kept cs ds h =
    let j : ℕ = min (length cs) (length ds) - 16 in
    let l : j ≤ length (drop 8 cs) = rw (length-drop 8 cs) (omega arith) in
    same_first (drop 8 cs) cs (under_drop 8 cs) j l ∙ sym (same_first (drop 8 cs) ds h j l)

first-fallen : (cs ds : Cells) → Under ds cs → first_cells (min (length cs) (length ds) - 16) cs ≡ first_cells (min (length cs) (length ds) - 16) ds
first-fallen cs ds h = same_first ds cs h (min (length cs) (length ds) - 16) (omega arith)

shares-first : (x : Model.Node) (y : Option Model.Node) → Shares x.1 y → let ds = (unwrap_or y x).1 in first_cells (min (length x.1) (length ds) - 16) x.1 ≡ first_cells (min (length x.1) (length ds) - 16) ds
shares-first x y nowhere = refl
shares-first x y (kept {x = z} h) = first-kept x.1 z.1 h
shares-first x y (fallen {x = z} h) = first-fallen x.1 z.1 h

-- "For a single letter other than a or z, let m be the smaller of k before and k after: cells 1 to m − 16 are then the same
-- before and after."
pub first-cells-stay : (F : Facts) (r : ℕ) (l : Letter) (x : Model.Node) → is_root l ≡ false → let ds = (moved F r l x).1 in first_cells (min (length x.1) (length ds) - 16) x.1 ≡ first_cells (min (length x.1) (length ds) - 16) ds
unfolding moved
first-cells-stay F r l x q = shares-first x (move F r l x) (move-shares F r l x q)
