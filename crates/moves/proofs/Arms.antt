-- What the code finds up the spine says which of cases 1 and 2 holds: the arm of u is that of u's rule, and one over its representative
-- has a tree. Assumes nothing.
use Prim.Native.Nat.{ℕ, ◌≤◌}
use native.Mathlib.Omega.{arith}
use mathlib.Core.Path.{◌≡◌, refl, sym, ap, ◌∙◌}
use mathlib.Core.Bool.{true, false, not}
use mathlib.Core.List.{List}
use Rattle.std.specs.Prelude.{Option, None, Some}
use Rattle.rule.specs.declared.Rule.{Rule}
use Rattle.forest.specs.Place.{Side, row_of_part}
use Rattle.forest.specs.Sides.{other, pick}
use Rattle.forest.specs.Letter.{Letter}
use Rattle.forest.proofs.Cases.{by_bool}
use Rattle.forest.proofs.Sides.{picked}
use Rattle.model.specs.Facts.{Facts}
use Rattle.model.specs.Model.{Node, is_part, beside_hole, sibling}
use Rattle.model.specs.Neighbour.{fails, up, arm_of, up_arm, arm_is, arm_has_tree, arm_is_empty, into_arm}
use Rattle.model.specs.Neighbour.{row_goes_on, row_ends_at_hole, row_ends_off, sibling_cases, first_that}
use Rattle.facts.specs.Facts.{facts_in, In}
use Rattle.facts.specs.Closes.{Closes}
use Rattle.facts.proofs.Closes.{named-arms}
use Rattle.move_parts.specs.declared.Change.{Change}
use Rattle.move_parts.specs.Change.{entered, change_node, Able, keep_of}
use Rattle.move_parts.proofs.Outcomes.{decided, enter-some}
use Rattle.moves.specs.declared.UpArm.{UpArm}
use Rattle.moves.specs.Arms.{arm_over, ArmUp}

-- the answer where the condition of 1 holds, and where it doesn't but moving up succeeds
module _ (F : Facts) (d : Side) (x : Node) where
  pub case-tree : arm_has_tree F d x ≡ true → into_arm F d (up F x) ≡ sibling F d x
  unfolding sibling sibling_cases first_that
  case-tree e = rw e

  pub case-empty : arm_has_tree F d x ≡ false → fails (up F x) ≡ false → None ≡ sibling F d x
  unfolding sibling sibling_cases first_that row_goes_on row_ends_at_hole row_ends_off
  case-empty e u = by_bool (arm_is_empty F d x) (λ h. rw (e, h)) (λ h. rw (e, h, u))

-- of a rule that is no part's, and of a part's, as the code takes it apart
no_arm : (d : Side) (q : Rule) → is_part q ≡ false → arm_of d q ≡ None
unfolding arm_of is_part
no_arm d Rule.Empty e = refl
no_arm d (Rule.Pair b c) e = refl
no_arm d (Rule.Node x c) e = refl
no_arm d (Rule.Fill b c) e = refl
no_arm d (Rule.Part x b c) e = cc
no_arm d (Rule.Join b c) e = refl

module _ (F : Facts) (d : Side) (q : Rule) where
  pub arm-none : is_part q ≡ false → None ≡ arm_over F (arm_of d q)
  unfolding arm_over
  arm-none e = rw (no_arm d q e)

  module _ {a b c v : ℕ} (part : q ≡ Rule.Part a b c) (picks : v ≡ pick d b c) where
    pub arm-empty : F.is_empty v ≡ true → None ≡ arm_over F (arm_of d q)
    unfolding arm_over arm_of
    arm-empty h = rw (part, sym picks, h)

    pub arm-tree : F.is_empty v ≡ false → Some (F.representative v) ≡ arm_over F (arm_of d q)
    unfolding arm_over arm_of
    arm-tree h = rw (part, sym picks, h)

empty-over : {P : Type 0} {o : ℕ} → None ≡ Some o → P
empty-over e = let z : ◌≡◌ {A = ℕ} 0 1 = cc in absurd (omega arith)

-- a part's rule whose L or R has a tree, and o is that one's representative
record Trees (F : Facts) (d : Side) (q : Rule) (o : ℕ) : Type 0 where
  label : ℕ
  left : ℕ
  right : ℕ
  is : q ≡ Rule.Part label left right
  some_tree : F.is_empty (pick d left right) ≡ false
  over : F.representative (pick d left right) ≡ o

module _ (F : Facts) where
  over-trees : {o : ℕ} (d : Side) (q : Rule) → arm_over F (arm_of d q) ≡ Some o → Trees F d q o
  unfolding arm_over arm_of
  over-trees d Rule.Empty e = empty-over e
  over-trees d (Rule.Pair b c) e = empty-over e
  over-trees d (Rule.Node x c) e = empty-over e
  over-trees d (Rule.Fill b c) e = empty-over e
  over-trees d (Rule.Part x b c) e =
      by_bool (F.is_empty (pick d b c)) (λ h. empty-over (rw h at e))
      (λ h. let f = rw h at e in record { label = x; left = b; right = c; is = refl; some_tree = h; over = cc })
  over-trees d (Rule.Join b c) e = empty-over e

  empty-trees : (m : Option ℕ) → arm_over F m ≡ None → arm_is (λ a. not (F.is_empty a)) m ≡ false
  unfolding arm_over arm_is
  empty-trees None e = refl
  empty-trees (Some a) e = by_bool (F.is_empty a) (λ h. rw h) (λ h. let f = rw h at e in cc)

-- where moving up leads to u, which has rule q, and v was found of it
module _ (t s : List ℕ) (k : ℕ) (d : Side) (x : Node) {u : Node} {q : ℕ} {v : Option ℕ} (e : up (facts_in t) x ≡ Some u) (r : q ≡ u.0)
    (found : v ≡ arm_over (facts_in t) (arm_of d ((facts_in t).rule q))) where
  pub has-tree : {o n : ℕ} (y : Change) → v ≡ Some o → n ≡ row_of_part d
      → change_node (facts_in t) (Letter.sibling d) y s ≡ entered (facts_in t) (other d) n o u.1
      → Closes t → In t q → (In t o → Able t s (Letter.sibling d) y) → keep_of y ≤ k → ArmUp t s k d x (UpArm.HasTree y)
  unfolding ArmUp arm_has_tree up_arm arm_of arm_is into_arm beside_hole
  has-tree y over number node rows within able keeps =
      let F = facts_in t in
      let m = over-trees F d (F.rule q) (sym found ∙ over) in
      let part : F.rule u.0 ≡ Rule.Part m.label m.left m.right = rw (sym r) m.is in
      let both = named-arms (In t) m.is (rows.names q within) in
      let row = rows.represents _ (picked (In t) d _ _ both.0 both.1) in
      let enters = ap (λ z. beside_hole F d z u.1) part ∙ enter-some F (other d) (row_of_part d) _ u.1 m.some_tree in
      let same = ap Some node ∙ (λ i. Some (entered F (other d) (number i) (sym m.over i) u.1)) in
      (rw (e, part, m.some_tree), decided y (same ∙ sym enters ∙ sym (ap (into_arm F d) e)) (able (rw (sym m.over) row)) keeps)

  pub is-empty : v ≡ None → ArmUp t s k d x UpArm.IsEmpty
  unfolding ArmUp arm_has_tree up_arm fails
  is-empty empty = let F = facts_in t in (rw (e, sym r) (empty-trees F (arm_of d (F.rule q)) (sym found ∙ empty)), rw e)
