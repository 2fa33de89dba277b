-- At a place of the walked rule's forest what is decided on the cells is the reason that the unfolded forest has: a rule is empty exactly if
-- its forest has no trees, a place has no cells exactly above the forest, and a letter leads to a node exactly where the finger's answer is
-- one. Assumes nothing.
use Prim.Native.Nat.{ℕ}
use mathlib.Core.Path.{◌≡◌, refl, sym, ap, ◌∙◌}
use mathlib.Core.List.{List, [], ◌∷◌}
use Rattle.std.specs.Prelude.{Option, None, Some, option_map, Ok, Err}
use Rattle.std.proofs.lemmas.Option.{none-some}
use Rattle.rule.specs.declared.Rule.{Rule}
use Rattle.refusal.specs.declared.Refusal.{Refusal}
use Rattle.rule.specs.Sound.{Sound, Closed}
use Rattle.forest.specs.Expression.{expression}
use Rattle.forest.specs.Forest.{Forest, forest}
use Rattle.forest.specs.Place.{Cells}
use Rattle.forest.specs.Letter.{Letter}
use Rattle.forest.specs.Position.{Located, Named, located_of}
use Rattle.forest.specs.Reference.{Path, label_at, is_above, answer, answers}
use Rattle.forest.specs.Ends.{has_none}
use Rattle.forest.specs.Walk.{Begun, cells_in, place_judged}
use Rattle.forest.proofs.Forget.{empty-no-trees}
use Rattle.model.specs.Facts.{Facts, facts_of}
use Rattle.model.specs.Model.{Node}
use Rattle.model.specs.Neighbour.{is_nil}
use Rattle.model.specs.Walk as model
use Rattle.model.proofs.Rules.{facts-agree}
use Rattle.facts.specs.Facts.{facts_in}
use Rattle.letter_arrival.specs.declared.Standing.{Standing}
use Rattle.letter_moves.specs.Standing.{rules_kept}
use Rattle.letter_moves.proofs.Valid.{good}
use Rattle.place_open.specs.Open.{Stood, OpensAt}
use Rattle.place_open.proofs.Above.{same_above, equal_cells}
use Rattle.place_open.proofs.Begin.{answers-are}
use Rattle.reasons.specs.declared.Reason.{Reason}
use Rattle.reasons.specs.Reason.{reason_of}
use Rattle.reasons.specs.Decided.{is_found, decided}
use Rattle.reasons.specs.Outcome.{reasoned_at}
use Rattle.reasons.proofs.Explains.{place-named}
use Rattle.reasons.proofs.Told.{told}

-- no cells, exactly where no node is named
none_above : (g : Forest Located) (p : Path) (cs : Cells) → Named g p → (cs ≡ [] → label_at g p ≡ None) → (label_at g p ≡ None → cs ≡ []) → is_nil cs ≡ is_above p
unfolding is_nil is_above label_at
none_above g [] cs N f h = ap is_nil (h refl)
none_above g (i ∷ p) [] (Named.node e) f h = absurd (none-some _ (sym (f refl) ∙ e))
none_above g (i ∷ p) (c ∷ cs) N f h = refl

-- a node's label is there where the node is
found-label : {A B : Type 0} (f : A → B) (x : Option A) → is_found (option_map f x) ≡ is_found x
unfolding is_found
found-label f None = refl
found-label f (Some a) = refl

module _ {R : List Rule} {rank : ℕ → ℕ} (S : Sound R rank) {r : ℕ} (C : Closed R r) (p : Path) (x : Node) (stood : Stood R r p x) where
  empty-is : (facts_of R).is_empty r ≡ has_none (forest R r)
  unfolding facts_of forest
  empty-is = sym (empty-no-trees (good S C (facts_of R) (λ k l. facts-agree R k)))

  above-is : is_nil x.1 ≡ is_above p
  above-is =
      let g = located_of (expression R r) in
      none_above g p x.1 stood.named (same_above (label_at g p) x stood.same) (equal_cells (label_at g p) x stood.same)

  answer-is : (c : Letter) → answer (forest R r) c p ≡ model.answer (facts_of R) r c x
  unfolding answers model.answers
  answer-is c =
      let e : (answer (forest R r) c p ∷ []) ≡ (model.answer (facts_of R) r c x ∷ []) = answers-are S C p x stood (c ∷ []) in
      cc

  leads-is : (c : Letter) → is_found (model.move (facts_of R) r c x) ≡ is_found (answer (forest R r) c p)
  unfolding model.answer
  leads-is c = sym (ap is_found (answer-is c) ∙ found-label _ (model.move (facts_of R) r c x))

  -- what is decided is the forest's reason
  stood-reason : Named (forest R r) p → (c : Letter)
      → decided ((facts_of R).is_empty r) (is_nil x.1) c (is_found (model.move (facts_of R) r c x)) ≡ reason_of (forest R r) c p
  stood-reason N c = (λ i. decided (empty-is i) (above-is i) c (leads-is c i)) ∙ sym (told (forest R r) c p N)

-- from the place that is opened
module _ {t : List ℕ} {n start : ℕ} {s : List ℕ} {r : ℕ} {h : Standing} (o : OpensAt t n start s r h) where
  abbrev decides : Facts → Letter → Reason
  decides F c = decided (F.is_empty r) (is_nil (cells_in s h.used)) c (is_found (model.move F r c (h.rule, cells_in s h.used)))

  pub opened-reason : (c : Letter) {w : Reason} → w ≡ decides (facts_in t) c
      → Ok w ≡ reasoned_at (rules_kept t) c (place_judged (rules_kept t) n start s)
  unfolding reasoned_at
  opened-reason c e =
      let rows = o.place.rows in
      let named = (place-named (rules_kept t) n start s o.begun).1 in
      let is = stood-reason rows.sound rows.closed o.path (h.rule, cells_in s h.used) o.stood named c in
      rw o.begun (ap Ok (e ∙ ap (λ (F : Facts). decides F c) rows.facts_are ∙ is))

-- a place that is none
pub not_opened : (R : List Rule) (c : Letter) {b : Begun} {why : Refusal} → b ≡ Begun.refused why → Err why ≡ reasoned_at R c b
unfolding reasoned_at
not_opened R c e = rw e
