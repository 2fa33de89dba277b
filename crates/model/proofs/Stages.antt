-- The five neighbour cases of document 003 in stages, as proofs take them: what stands up the spine first, then the row, then what
-- the row ends at. For all facts and cells the first case that holds gives what the stages give: each test of a stage is that of
-- two cases. Assumes nothing.
use Prim.Native.Nat.{ℕ}
use mathlib.Core.Path.{◌≡◌, refl, ◌∙◌}
use mathlib.Core.Bool.{Bool, true, false, cond, not, ◌&&◌}
use mathlib.Core.List.{List, [], ◌∷◌, map}
use Rattle.std.specs.Prelude.{Option, None, Some, option_map}
use lib.Dec.{eqb}
use Rattle.rule.specs.declared.Rule.{Rule}
use Rattle.forest.specs.Place.{Cell, Cells, Side, row_of_part}
use Rattle.forest.specs.Sides.{other, pick}
use Rattle.forest.specs.Position.{or_else}
use Rattle.forest.proofs.Cases.{by_bool, by-option}
use Rattle.model.specs.Facts.{Facts}
use Rattle.model.specs.Model.{Node, tail, pop_run, beside_top, beside, opened, enter, continuing, inward, under, outward, beside_hole, sibling}
use Rattle.model.specs.Neighbour.{fails, is_nil, up, across, row_end, number_of, row_number, below, arm_of, up_arm, arm_is, arm_has_tree, arm_is_empty, row_goes_on, row_ends_at_hole, row_ends_off, into_arm, sibling_cases, first_that, how_many}

-- document 003's sequence: the conditions as the article lists them
pub in-sequence : (F : Facts) (s : Side) (x : Node) → map (λ (c : Bool × Option Node). c.0) (sibling_cases F s x) ≡ arm_has_tree F s x ∷ arm_is_empty F s x ∷ row_goes_on F s x ∷ row_ends_at_hole F s x ∷ row_ends_off F s x ∷ []
unfolding sibling_cases
in-sequence F s x = refl

-- the tree in the hole that the row on top ends at on side s: the row of a part's other arm
unfoldable pub ended : Facts → Side → Cells → Option Node
ended F s [] = None
ended F s (c ∷ cs) = cond (eqb c.1 (row_of_part (other s))) (inward F cs) None

-- the root of the tree beside the one at t, on side s: in the row, or in the hole that the row ends at
unfoldable pub follow : Facts → Side → Cells → Option Node
follow F s t = or_else (option_map (λ (x : Node). opened F x.0 x.1) (beside F s t)) (ended F s (pop_run s t))

-- the sibling on side s of the node at cs: beside the hole of the part above (its L or R, or nowhere); else beside it in its
-- row; else in the hole that its row ends at; else nowhere
unfoldable pub sibling_from : Facts → Side → Option Node → Cells → Option Node
sibling_from F s None cs = follow F s (under cs)
sibling_from F s (Some x) cs = beside_hole F s (F.rule x.0) x.1

-- what the row ends at, by the tests of cases 4 and 5: below the lowest row there is no part
pub ended-cases : (F : Facts) (s : Side) (r : Cells) → ended F s r ≡ cond (not (is_nil (tail r)) && eqb (number_of r) (row_of_part (other s))) (inward F (tail r)) None
unfolding ended is_nil number_of tail inward beside pop_run beside_top continuing or_else
ended-cases F s [] = refl
ended-cases F s (c ∷ []) = by_bool (eqb c.1 (row_of_part (other s))) (λ u. rw u) (λ u. rw u)
ended-cases F s (c ∷ d ∷ cs) = refl

-- cells by how many lie on the lowest: the equation is kept
by-cells : {P : Type 0} (cs : Cells) → (cs ≡ [] → P) → ((c : Cell) → cs ≡ c ∷ [] → P) → ((c d : Cell) (ds : Cells) → cs ≡ c ∷ d ∷ ds → P) → P
by-cells [] f g h = f refl
by-cells (c ∷ []) f g h = g c refl
by-cells (c ∷ d ∷ ds) f g h = h c d ds refl

module _ (F : Facts) (s : Side) (x : Node) where
  -- where moving up fails, the first case that holds is found in the row
  row_first : outward F x.1 ≡ None → sibling F s x ≡ follow F s (under x.1)
  unfolding sibling sibling_cases first_that arm_has_tree arm_is_empty row_goes_on row_ends_at_hole row_ends_off up across row_number below row_end up_arm arm_is fails is_nil number_of tail or_else follow
  row_first e =
      by-option (beside F s (under x.1))
      (λ b. by-cells (pop_run s (under x.1))
      (λ r. rw (e, b, r, ended-cases))
      (λ c r. rw (e, b, r, ended-cases))
      (λ c d ds r. by_bool (eqb c.1 (row_of_part (other s))) (λ h. rw (e, b, r, ended-cases, h)) (λ h. rw (e, b, r, ended-cases, h))))
      (λ y b. rw (e, b))

  -- where it leads to a node with that rule, beside the hole
  pub case-up : (u : Node) (q : Rule) → up F x ≡ Some u → F.rule u.0 ≡ q → sibling F s x ≡ beside_hole F s q u.1
  unfolding sibling sibling_cases first_that arm_has_tree arm_is_empty row_goes_on row_ends_at_hole row_ends_off up_arm arm_is arm_of fails into_arm beside_hole enter
  case-up u (Rule.Part a b c) e q = by_bool (F.is_empty (pick s b c)) (λ h. rw (e, q, h)) (λ h. rw (e, q, h))
  case-up u Rule.Empty e q = rw (e, q)
  case-up u (Rule.Pair b c) e q = rw (e, q)
  case-up u (Rule.Node a c) e q = rw (e, q)
  case-up u (Rule.Fill b c) e q = rw (e, q)
  case-up u (Rule.Join b c) e q = rw (e, q)

  -- the answer where a case's condition holds: of 3; of 4 and 5, r being the row's opening and what lies below
  pub case-across : {y : Node} → up F x ≡ None → across F s x ≡ Some y → sibling F s x ≡ Some (opened F y.0 y.1)
  unfolding sibling sibling_cases first_that arm_has_tree arm_is_empty row_goes_on up_arm arm_is fails
  case-across e h = rw (e, h)

  pub case-hole : {r : Cells} → up F x ≡ None → across F s x ≡ None → row_end s x ≡ r → (not (is_nil (tail r)) && eqb (number_of r) (row_of_part (other s))) ≡ true → sibling F s x ≡ inward F (tail r)
  unfolding sibling sibling_cases first_that arm_has_tree arm_is_empty row_goes_on row_ends_at_hole row_number below up_arm arm_is fails
  case-hole e h q t = rw (e, h, q, t)

  pub case-off : {r : Cells} → up F x ≡ None → across F s x ≡ None → row_end s x ≡ r → (not (is_nil (tail r)) && eqb (number_of r) (row_of_part (other s))) ≡ false → sibling F s x ≡ None
  unfolding sibling sibling_cases first_that arm_has_tree arm_is_empty row_goes_on row_ends_at_hole row_number below up_arm arm_is fails
  case-off e h q t = by_bool (row_ends_off F s x) (λ u. rw (e, h, q, t, u)) (λ u. rw (e, h, q, t, u))

  -- the first case that holds, in stages
  pub sibling-stages : sibling F s x ≡ sibling_from F s (outward F x.1) x.1
  unfolding sibling_from up
  sibling-stages = by-option (outward F x.1) (λ e. row_first e ∙ rw e) (λ u e. case-up u (F.rule u.0) e refl ∙ rw e)

  -- exactly one condition holds where moving up fails, and where it leads to a part
  pub one-in-row : outward F x.1 ≡ None → how_many (sibling_cases F s x) ≡ 1
  unfolding sibling_cases how_many arm_has_tree arm_is_empty row_goes_on row_ends_at_hole row_ends_off up across row_number below row_end up_arm arm_is fails is_nil number_of tail
  one-in-row e =
      by-option (beside F s (under x.1))
      (λ b. by-cells (pop_run s (under x.1))
      (λ r. rw (e, b, r))
      (λ c r. rw (e, b, r))
      (λ c d ds r. by_bool (eqb c.1 (row_of_part (other s))) (λ h. rw (e, b, r, h)) (λ h. rw (e, b, r, h))))
      (λ y b. rw (e, b))

  pub one-in-hole : (u : Node) (a b c : ℕ) → outward F x.1 ≡ Some u → F.rule u.0 ≡ Rule.Part a b c → how_many (sibling_cases F s x) ≡ 1
  unfolding sibling_cases how_many arm_has_tree arm_is_empty row_goes_on row_ends_at_hole row_ends_off up up_arm arm_is arm_of fails
  one-in-hole u a b c e q = by_bool (F.is_empty (pick s b c)) (λ h. rw (e, q, h)) (λ h. rw (e, q, h))
