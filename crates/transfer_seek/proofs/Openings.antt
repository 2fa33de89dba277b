-- A tree is opened at its own spot, and what stands in the hole of a part behind the trees of its L: the parts of a spine before it are passed as
-- `through` passes them. Assumes nothing.
use Prim.Native.Nat.{ℕ}
use mathlib.Core.Path.{◌≡◌, refl, ap, ◌∙◌}
use Rattle.std.specs.Prelude.{Option, Some}
use Rattle.std.proofs.lemmas.Option.{none-some, same_Some}
use Rattle.forest.specs.Expression.{Expression, rule_number}
use Rattle.forest.specs.Place.{Side}
use Rattle.forest.specs.Sides.{pick}
use Rattle.forest.specs.Good.{Sort}
use Rattle.forest.specs.Position.{Position, Located, opened, inward, Where, At, cells}
use Rattle.model.specs.Facts.{Facts}
use Rattle.model.specs.Model as M
use Rattle.model.specs.Model.{Node}
use Rattle.model.proofs.Fit.{Fit}
use Rattle.model.proofs.Standing.{whole}
use Rattle.model.proofs.Enter.{Agree, tree-opened}
use Rattle.model.proofs.Spine.{inwards}
use Rattle.transfer_path.specs.Spot.{Spot, path_to, tops, through, opening, spot}
use Rattle.transfer_path.proofs.Spots.{opening-row, opening-part}
use Rattle.transfer_seek.specs.Seek.{NodeAt}

module _ {F : Facts} where
  spine-spot : {e : Expression} → Fit F Sort.spine e → (z : Position) → spot (opened e z).1 ≡ spot z
  unfolding opened spot
  spine-spot (Fit.part t gb gc) z = refl
  spine-spot (Fit.join {r} {b} {c} t gb gc) z = spine-spot gb (Position.join_side Side.left r b c z)

  tree-spot : {e : Expression} → Fit F Sort.tree e → (z : Position) → spot (opened e z).1 ≡ opening z (spot z)
  unfolding opened spot
  tree-spot (Fit.node t gc) z = refl
  tree-spot (Fit.fill {r} {b} {c} t gb gc) z = spine-spot gb (Position.fill_spine r b c z)

-- a node of w, as positions and as cells have it
found_at : {w : Expression} {x : Located} {n : Node} {q : Spot} → Agree w (Some x) (Some n) → spot x.1 ≡ q → NodeAt w q n
found_at (Agree.found {e} {z} h) s = record { expression = e; position = z; here = h; node_is = refl; spot_is = s }

module _ (F : Facts) {w : Expression} (g : Fit F Sort.row w) where
  -- the root of a tree in a row
  pub tree_node : {e : Expression} {z : Position} → At w Where.row e z → At w Where.tree e z → NodeAt w (spot z) (M.opened F (rule_number e) (cells z))
  tree_node {e} {z} row tree =
      let f = whole F w g Where.tree e z tree in
      found_at (tree-opened F w e z f tree) (tree-spot f z ∙ opening-row row (spot z))

  -- what stands in the hole of the part at p, z being p without some of its joins
  record Inner (p z : Position) (q : Spot) : Type 0 where
    located : Located
    found : inward p z ≡ Some located
    spot_is : spot located.1 ≡ q

  inner : {e : Expression} (p : Position) {z : Position} (q : Spot) → At w Where.spine e z → opening p (spot p) ≡ q → through e (spot z) ≡ q → Inner p z q
  unfolding inward spot through pick
  inner p {z} q (At.fill {r} {b} {c} {z = y} h) o s =
      record { located = opened c p; found = refl; spot_is = tree-spot (filled (whole F w g Where.tree (Expression.fill r b c) y h)) p ∙ o }
    where
      filled : Fit F Sort.tree (Expression.fill r b c) → Fit F Sort.tree c
      filled (Fit.fill t gb gc) = gc
  inner p {z} q (At.join {r} {b} {c} {z = y} Side.left h) o s =
      record {
        located = opened c (Position.join_side Side.right r b c y);
        found = refl;
        spot_is = spine-spot (second (whole F w g Where.spine (Expression.join r b c) y h).0) (Position.join_side Side.right r b c y) ∙ s;
      }
    where
      second : Fit F Sort.spine (Expression.join r b c) → Fit F Sort.spine c
      second (Fit.join t gb gc) = gc
  inner p {z} q (At.join {r} {b} {c} {z = y} Side.right h) o s =
      let k = inner p q h o s in
      record { located = k.located; found = k.found; spot_is = k.spot_is }

  part-spine : {r a : ℕ} {b c : Expression} {z : Position} → At w Where.here (Expression.part r a b c) z → At w Where.spine (Expression.part r a b c) z
  part-spine (At.part h) = h

  -- the root of the tree in the hole of a part, on cells
  hole-found : {x : Option Located} {y : Option Node} {l : Located} {q : Spot} → Agree w x y → x ≡ Some l → spot l.1 ≡ q
      → (n : Node) × ((y ≡ Some n) × NodeAt w q n)
  hole-found Agree.nowhere e s = absurd (none-some _ e)
  hole-found (Agree.found {e} {z} h) q s = (
    (rule_number e, cells z),
    (
      refl,
      record { expression = e; position = z; here = h; node_is = refl; spot_is = ap (λ (l : Located). spot l.1) (same_Some _ _ q) ∙ s },
    ),
  )

  pub hole-node : {r a : ℕ} {b c : Expression} {z : Position} → At w Where.here (Expression.part r a b c) z
      → (n : Node) × ((M.inward F (cells z) ≡ Some n) × NodeAt w (tops b, path_to (spot z)) n)
  unfolding through
  hole-node {r} {a} {b} {c} {z} h =
      let k = inner z (tops b, path_to (spot z)) (part-spine h) (opening-part (part-spine h) (spot z)) refl in
      hole-found (inwards F w g r a b c z h) k.found k.spot_is
