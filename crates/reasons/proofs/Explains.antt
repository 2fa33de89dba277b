-- What reason answers is what holds: nothing is turned down, and the sentence of the reason given holds of the walked rule's forest and the
-- path of the stored place. That path names a node, or is above: a search of cells finds only nodes. Assumes nothing.
use Prim.Native.Nat.{ℕ}
use native.Mathlib.Omega.{arith}
use mathlib.Core.Path.{◌≡◌, refl, ap, subst, ◌∙◌}
use mathlib.Core.Logic.{◌↔◌}
use mathlib.Core.Bool.{Bool, true, false, cond}
use mathlib.Core.List.{List}
use Rattle.std.specs.Prelude.{Option, None, Some, option_map, Result, Ok, Err}
use Rattle.rule.specs.declared.Rule.{Rule}
use Rattle.refusal.specs.declared.Refusal.{Refusal}
use Rattle.plan.specs.declared.Checked.{Checked}
use Rattle.plan.specs.Check.{checked, rules_of}
use Rattle.forest.specs.Forest.{Forest, forest}
use Rattle.forest.specs.Relabel.{relabel}
use Rattle.forest.specs.Place.{placed_forest}
use Rattle.forest.specs.Letter.{Letter, letter_of}
use Rattle.forest.specs.Position.{Named}
use Rattle.forest.specs.Reference.{Path}
use Rattle.forest.specs.Walk.{cells_in, used_cells, lent_judged, Begun, place_judged}
use Rattle.forest.proofs.Forget.{label, placed_forest-forgets}
use Rattle.forest.proofs.Relabel.{label_at-relabel}
use Rattle.forest.proofs.Search.{path-named}
use Rattle.forest.proofs.WalkedRule.{judged-holds}
use Rattle.reasons.specs.declared.Reason.{Reason}
use Rattle.reasons.specs.Outcome.{enough_asked, asked_judged, reasoned_at, reasoned_by, reasoned_from, reasoned, Explained}
use Rattle.reasons.proofs.Exactly.{exactly}

relabel-named : {A B : Type 0} (h : A → B) (g : Forest A) (p : Path) → Named g p → Named (relabel h g) p
relabel-named h g p Named.above = Named.above
relabel-named h g p (Named.node q) = Named.node (label_at-relabel h g p ∙ ap (option_map h) q)

-- a refusal is no reason
not-because : {x : Refusal} {w : Reason} → ◌≡◌ {A = Result Reason Refusal} (Err x) (Ok w) → ⊥
not-because e = let z : ◌≡◌ {A = ℕ} 0 1 = cc in omega arith

-- a place that is judged stands at a node of the walked rule's forest, or above it
module _ (R : List Rule) (n start : ℕ) (cursor : List ℕ) where
  pub place-named : {m r : ℕ} {p : Path} → place_judged R n start cursor ≡ Begun.at m r p → (m ≡ n) × Named (forest R r) p
  place-named {m} {r} {p} e =
      let H = judged-holds R n start m r cursor p e in
      let G = placed_forest R r in
      let found = relabel-named label G p (path-named G (cells_in cursor (used_cells cursor)) p H.leads) in
      (H.count, subst (λ (g : Forest ℕ). Named g p) (placed_forest-forgets R r) found)

module _ (s work cursor : List ℕ) (letter : ℕ) (w : Reason) where
  -- past check and 8 the letter is read, and the place is judged
  from_place : {n start : ℕ} → checked s ≡ Ok (record { n = n; start = start }) → enough_asked work cursor n ≡ true → {c : Letter} → letter_of letter ≡ Some c
      → (b : Begun) → place_judged (rules_of s) n start cursor ≡ b → reasoned_at (rules_of s) c b ≡ Ok w → Explained s work cursor letter w
  unfolding reasoned_at
  from_place a l q (Begun.refused x) j e = absurd (not-because e)
  from_place {n} {start} a l {c} q (Begun.at m r p) j e =
      let named = place-named (rules_of s) n start cursor j in
      record {
        n = n;
        start = start;
        walked = r;
        path = p;
        pressed = c;
        accepted = a;
        lent = l;
        reads = q;
        place = j ∙ ap (λ (k : ℕ). Begun.at k r p) named.0;
        says = (exactly (forest (rules_of s) r) c p named.1 w).0 cc;
      }

  from-letter : {n start : ℕ} → checked s ≡ Ok (record { n = n; start = start }) → enough_asked work cursor n ≡ true → (x : Option Letter) → letter_of letter ≡ x
      → reasoned_by (rules_of s) x (place_judged (rules_of s) n start cursor) ≡ Ok w → Explained s work cursor letter w
  unfolding reasoned_by
  from-letter a l None q e = absurd (not-because e)
  from-letter a l (Some c) q e = from_place a l q _ refl e

  from-lent : {n start : ℕ} → checked s ≡ Ok (record { n = n; start = start }) → (t : Bool) → enough_asked work cursor n ≡ t
      → reasoned_from (rules_of s) cursor letter (cond t (Ok (record { n = n; start = start })) (Err Refusal.Lent)) ≡ Ok w
      → Explained s work cursor letter w
  unfolding reasoned_from
  from-lent a true l e = from-letter a l (letter_of letter) refl e
  from-lent a false l e = absurd (not-because e)

  from-checked : (x : Result Checked Refusal) → checked s ≡ x
      → reasoned_from (rules_of s) cursor letter (asked_judged work cursor x) ≡ Ok w → Explained s work cursor letter w
  unfolding reasoned_from lent_judged
  from-checked (Ok x) a e = from-lent a (enough_asked work cursor x.n) refl e
  from-checked (Err x) a e = absurd (not-because e)

  -- what is explained is answered
  explains : Explained s work cursor letter w → reasoned s work cursor letter ≡ Ok w
  unfolding reasoned reasoned_from lent_judged reasoned_by reasoned_at
  explains x =
      rw (x.accepted, x.lent, x.reads, x.place)
      (let named = place-named (rules_of s) x.n x.start cursor x.place in
      ap Ok ((exactly (forest (rules_of s) x.walked) x.pressed x.path named.1 w).1 x.says))

  -- a reason is answered exactly where nothing is turned down and its sentence holds
  pub answered : (reasoned s work cursor letter ≡ Ok w) ↔ Explained s work cursor letter w
  unfolding reasoned
  answered = (from-checked (checked s) refl, explains)
