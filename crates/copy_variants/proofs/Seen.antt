-- What a client sees has labels that may be seen alone, and where all may be seen nothing is gone; a label may be seen where its class is no
-- higher than the client's. One induction each, and the class that a sound list gives. Assumes nothing.
use Rattle.std.specs.Prelude.{Result, Ok, Err}
use Rattle.refusal.specs.declared.Refusal.{Refusal}
use Prim.Native.Nat.{ℕ}
use mathlib.Core.Bool.{Bool, true}
use mathlib.Core.List.{List}
use mathlib.Core.Path.{◌≡◌, refl, ap}
use lib.Dec.{leb}
use Rattle.label_rows.specs.declared.LabelRow.{LabelRow}
use Rattle.label_rows.specs.Coverage.{coverage}
use Rattle.label_rows.specs.Class.{row_of, label_judged, class_in, classed}
use Rattle.forest.specs.Forest.{Forest}
use Rattle.forest.proofs.Each.{Each}
use Rattle.forest.proofs.Cases.{by_bool}
use Rattle.copy_variants.specs.Visible.{seen_by, visible}

module _ (v : ℕ → Bool) where
  -- "must not see entries of a higher class"
  pub visible-seen : (g : Forest ℕ) → Each (λ a. v a ≡ true) (visible v g)
  unfolding visible
  visible-seen Forest.none = tt
  visible-seen (Forest.tree a c f) =
      let p = visible-seen c in
      let q = visible-seen f in
      by_bool (v a) (λ u. rw u (u, p, q)) (λ u. rw u q)

  pub visible_all : (g : Forest ℕ) → Each (λ a. v a ≡ true) g → visible v g ≡ g
  unfolding visible
  visible_all Forest.none h = refl
  visible_all (Forest.tree a c f) h = rw (h.0, visible_all c h.1, visible_all f h.2)

-- the class of a label that a list gives
given : (x : Result Unit Refusal) (rows : List LabelRow) (k a : ℕ) → class_in x rows a ≡ Ok k → (row_of rows a).class ≡ k
unfolding class_in
given (Ok _) rows k a e = cc
given (Err why) rows k a e = cc

pub class-seen : (rows : List LabelRow) (c k a : ℕ) → classed rows a ≡ Ok k → seen_by rows c a ≡ leb k c
unfolding classed seen_by
class-seen rows c k a e = ap (λ (m : ℕ). leb m c) (given (label_judged (coverage rows) a) rows k a e)
