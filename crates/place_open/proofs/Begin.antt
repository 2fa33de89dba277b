-- What a walk begins with, answers and leaves, on the walker's own terms: the test of stored cells decides refusal 10, and the
-- answers and the cursor are those of the walker on cells. Assumes nothing.
use Prim.Native.Nat.{ℕ, zero, suc}
use mathlib.Core.Path.{◌≡◌, sym, ap, ◌∙◌}
use mathlib.Core.Bool.{true, false, true≢false}
use mathlib.Core.List.{List, [], map}
use Rattle.std.specs.Prelude.{Option}
use Rattle.rule.specs.declared.Rule.{Rule}
use Rattle.refusal.specs.declared.Refusal.{Refusal}
use Rattle.rule.specs.Sound.{Sound, Closed}
use Rattle.words.specs.Front.{in_front}
use Rattle.forest.specs.Expression.{expression, rule_number}
use Rattle.forest.specs.Forest.{Forest, forest}
use Rattle.forest.specs.Relabel.{relabel}
use Rattle.forest.specs.Place.{Cells, placed_of, placed_forest}
use Rattle.forest.specs.Letter.{Letter}
use Rattle.forest.specs.Reference.{Path, label_at, answers, path_after}
use Rattle.forest.specs.Walk.{cell_at, cells_in, used_cells, rule_word, headed, path_of, Begun, stored, place_in, letters_of, place_at, stored_cursor, cursor_after, answer_word, answers_bytes, answers_after}
use Rattle.forest.proofs.Unfold.{rule_number-expression}
use Rattle.forest.proofs.Forget.{label, placed_forest-forgets}
use Rattle.forest.proofs.WalkedRule.{closed-walked}
use Rattle.forest.specs.Position.{located_of, Named}
use Rattle.model.specs.Facts.{facts_of}
use Rattle.model.specs.Model.{Node, standing}
use Rattle.model.specs.Stored.{accepts}
use Rattle.model.specs.Walk as model
use Rattle.model.proofs.Rules.{facts-agree}
use Rattle.model.specs.Same.{Same}
use Rattle.model.proofs.Outcome.{Found, accepted-path, refused-path, call-answers, call-cells}
use Rattle.letter_moves.specs.Standing.{Valid}
use Rattle.place_open.specs.Open.{placed, Stood}
use Rattle.letter_moves.proofs.Valid.{good, fit}

module _ {R : List Rule} {rank : ℕ → ℕ} (S : Sound R rank) {r : ℕ} (C : Closed R r) where
  pub stood-valid : (p : Path) (n : Node) → Stood R r p n → Valid R r n
  stood-valid p n s = record { position = label_at (located_of (expression R r)) p; same = s.same }

  -- refusal 10
  place-above : (n : ℕ) (cursor : List ℕ) → headed n cursor ≡ true → used_cells cursor ≡ 0 → place_in R n r cursor ≡ Begun.at n r []
  unfolding place_in stored cells_in path_of
  place-above n cursor h u = rw (closed-walked R r C, h, u)

  stood-above : (p : ℕ) → Stood R r [] (p, [])
  unfolding label_at
  stood-above p = record { named = Named.above; same = Same.above }

  numbered : rule_number (expression R r) ≡ r
  numbered = rule_number-expression R r

  place-accepted : (n : ℕ) (cursor : List ℕ) (k : ℕ) → headed n cursor ≡ true → used_cells cursor ≡ suc k → accepts (facts_of R) r (cells_in cursor (suc k)) ≡ true
      → (p : Path) × Stood R r p (standing (facts_of R) (cells_in cursor (suc k)), cells_in cursor (suc k)) × (place_in R n r cursor ≡ Begun.at n r p)
  unfolding place_in stored placed_forest
  place-accepted n cursor k h u q =
      let f : Found (expression R r) (good S C (facts_of R) (λ k l. facts-agree R k)) (facts_of R) (fit S C (facts_of R) (λ k l. facts-agree R k)) (cells_in cursor (suc k)) =
      accepted-path (expression R r) (good S C (facts_of R) (λ k l. facts-agree R k)) (facts_of R) (fit S C (facts_of R) (λ k l. facts-agree R k)) (cells_in cursor (suc k)) (rw numbered q) in
      (f.path, record { named = f.named; same = f.same }, rw (closed-walked R r C, h, u, f.found))

  place-refused : (n : ℕ) (cursor : List ℕ) (k : ℕ) → headed n cursor ≡ true → used_cells cursor ≡ suc k → accepts (facts_of R) r (cells_in cursor (suc k)) ≡ false
      → place_in R n r cursor ≡ Begun.refused Refusal.Place
  unfolding place_in stored placed_forest cells_in
  place-refused n cursor k h u q =
      rw (closed-walked R r C, h, u, refused-path (expression R r) (good S C (facts_of R) (λ k l. facts-agree R k)) (facts_of R) (fit S C (facts_of R) (λ k l. facts-agree R k)) (cell_at cursor (suc k)) (cells_in cursor k) (rw numbered q))

  -- both by the test of the stored cells, above the forest or at a node
  begins-at : (n : ℕ) (cursor : List ℕ) (k : ℕ) → headed n cursor ≡ true → used_cells cursor ≡ k → placed (facts_of R) r (cells_in cursor k) ≡ true
      → (p : Path) × Stood R r p (standing (facts_of R) (cells_in cursor k), cells_in cursor k) × (place_in R n r cursor ≡ Begun.at n r p)
  unfolding placed cells_in
  begins-at n cursor zero h u q = ([], stood-above (standing (facts_of R) []), place-above n cursor h u)
  begins-at n cursor (suc k) h u q = place-accepted n cursor k h u q

  pub begins : (n : ℕ) (cursor : List ℕ) (k : ℕ) → headed n cursor ≡ true → k ≡ used_cells cursor → placed (facts_of R) r (cells_in cursor k) ≡ true
      → (p : Path) × Stood R r p (standing (facts_of R) (cells_in cursor k), cells_in cursor k) × (place_in R n r cursor ≡ Begun.at n r p)
  begins n cursor k h u q = begins-at n cursor k h (sym u) q

  pub begins-not : (n : ℕ) (cursor : List ℕ) (k : ℕ) → headed n cursor ≡ true → k ≡ used_cells cursor → placed (facts_of R) r (cells_in cursor k) ≡ false
      → place_in R n r cursor ≡ Begun.refused Refusal.Place
  unfolding placed cells_in
  begins-not n cursor zero h u q = absurd (true≢false q)
  begins-not n cursor (suc k) h u q = place-refused n cursor k h (sym u) q

  -- what is answered and left from a place
  labels-forest : relabel label (placed_of (expression R r)) ≡ forest R r
  unfolding placed_forest
  labels-forest = placed_forest-forgets R r

  -- the answers to letters are the walker's
  pub answers-are : (p : Path) (x : Node) → Stood R r p x → (ls : List Letter) → answers (forest R r) ls p ≡ model.answers (facts_of R) r ls x
  answers-are p x s ls =
      ap (λ (g : Forest ℕ). answers g ls p) (sym labels-forest)
      ∙ call-answers (expression R r) (good S C (facts_of R) (λ k l. facts-agree R k)) (facts_of R) (fit S C (facts_of R) (λ k l. facts-agree R k)) ls p x s.named s.same
      ∙ ap (λ (k : ℕ). model.answers (facts_of R) k ls x) numbered

  pub answers_left : (n : ℕ) (p : Path) (x : Node) → Stood R r p x → (letters given : List ℕ)
      → answers_after R (Begun.at n r p) letters given ≡ in_front (answers_bytes (map answer_word (model.answers (facts_of R) r (letters_of letters) x))) given
  unfolding answers_after
  answers_left n p x s letters given = ap (λ (xs : List (Option ℕ)). in_front (answers_bytes (map answer_word xs)) given) (answers-are p x s (letters_of letters))

  pub cursor_left : (n : ℕ) (p : Path) (x : Node) → Stood R r p x → (letters cursor : List ℕ)
      → cursor_after R (Begun.at n r p) letters cursor ≡ stored_cursor n (rule_word cursor) (model.after (facts_of R) r (letters_of letters) x).1 cursor
  unfolding cursor_after placed_forest
  cursor_left n p x s letters cursor =
      ap (λ (cs : Cells). stored_cursor n (rule_word cursor) cs cursor)
      (ap (λ (g : Forest ℕ). place_at (placed_of (expression R r)) (path_after g (letters_of letters) p)) (sym labels-forest)
      ∙ call-cells (expression R r) (good S C (facts_of R) (λ k l. facts-agree R k)) (facts_of R) (fit S C (facts_of R) (λ k l. facts-agree R k)) (letters_of letters) p x s.named s.same
      ∙ ap (λ (k : ℕ). (model.after (facts_of R) k (letters_of letters) x).1) numbered)
