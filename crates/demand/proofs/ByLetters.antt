-- Refusal 10 by letters. Where cell 0 is in order the cells are looked for in the walked rule's forest: what is found is above the forest or a
-- node, and letters lead to every node; what no node has no letters lead to. That cells 1 to k lie in 16 × (n + 1) words turns
-- down no place that letters lead to, since each of them has at most 3 × n cells. Assumes nothing.
use Prim.Native.Nat.{ℕ, suc, ◌+◌, ◌*◌, ◌≤◌}
use native.Mathlib.Omega.{arith}
use mathlib.Core.Path.{◌≡◌, refl, sym, ap, ◌∙◌, subst}
use mathlib.Core.Logic.{◌↔◌, ◌≢◌, inl, inr, ⊎_elim}
use mathlib.Core.Bool.{Bool, true, false, cond, not, true≢false, ◌&&◌}
use mathlib.Core.List.{List, [], ◌∷◌}
use Rattle.std.specs.Prelude.{Option, None, Some, Ok, Err}
use Rattle.std.proofs.lemmas.Option.{none-some}
use lib.ListN.{length}
use lib.Dec.{leb}
use borrow.Author.Tests.{le-leb, leb-true}
use Rattle.refusal.specs.declared.Refusal.{Refusal}
use Rattle.rule.specs.Sound.{Closed}
use Rattle.plan.specs.Check.{checked, rules_of}
use Rattle.forest.specs.Forest.{Forest, forest}
use Rattle.forest.specs.Place.{Cells, Placed, placed_forest}
use Rattle.forest.specs.Letter.{Letter}
use Rattle.forest.specs.Reference.{Path, label_at, path_after}
use Rattle.forest.specs.Walk.{cell_words, cursor_words, enough_lent, first_other, cells_in, used_cells, walked_rule, is_closed, headed, path_of, Begun, stored, place_in, place_judged, letters_judged, begun_from, begun, walked, place_at, cells_of}
use Rattle.forest.proofs.Cases.{by_bool, by-option}
use Rattle.forest.proofs.Reach.{letters, letters-after}
use Rattle.forest.proofs.Search.{path-cells, path-named, path-of-place}
use Rattle.forest.proofs.WalkedRule.{closed-walked, walked-closed}
use Rattle.forest.specs.Position.{Named}
use Rattle.demand.specs.Calls.{Call, lent, walk_of}
use Rattle.demand.specs.Demand.{turned_down, is_none, InOrder, Above}
use Rattle.demand.specs.Misplaced.{Unreached, Misplaced}
use Rattle.demand.proofs.Passed.{zeros-headed, headed-zeros, length-cells_in}
use Rattle.demand.proofs.Walkable.{Walkable}
use Rattle.demand.proofs.OneCall.{place_short, same-paths, named-after}
use Rattle.demand.proofs.Plans.{walkable}

-- ---- the cells

module _ {n : ℕ} {g : Forest ℕ} {G : Forest Placed} (W : Walkable n g G) where
  -- what is found is above the forest or a node, so letters lead there
  found-reached : (cells : Cells) (p : Path) → path_of G cells ≡ Some p → ¬ Unreached g G cells
  unfolding Unreached
  found-reached cells p e unreached =
      unreached (letters p) (ap (place_at G) (same-paths W (letters p) [] ∙ letters-after G p (path-named G cells p e)) ∙ path-cells G cells p e)

  -- and where nothing is found no letters lead
  none-unreached : (cells : Cells) → path_of G cells ≡ None → Unreached g G cells
  unfolding Unreached
  none-unreached cells e cs h =
      let p = path_after g cs [] in
      none-some _ (sym e ∙ ap (path_of G) (sym h) ∙ path-of-place G W.distinct p (named-after W cs [] Named.above))

  -- what letters lead to lies in the words that n rules need
  short-reached : (cs : List Letter) → cell_words * (length (place_at G (path_after g cs [])) + 1) ≤ cursor_words n
  unfolding cursor_words
  short-reached cs = let h = place_short W (path_after g cs []) (named-after W cs [] Named.above) in omega arith

  long-unreached : (cursor : List ℕ) → ¬ (cell_words * (used_cells cursor + 1) ≤ cursor_words n) → Unreached g G (cells_in cursor (used_cells cursor))
  unfolding Unreached
  long-unreached cursor long cs h =
      let k : length (place_at G (path_after g cs [])) ≡ used_cells cursor = ap length h ∙ length-cells_in cursor (used_cells cursor) in
      long (subst (λ (m : ℕ). cell_words * (m + 1) ≤ cursor_words n) k (short-reached cs))

-- ---- refusal 10

-- that cells 1 to k must lie in 16 × (n + 1) words turns down no place of an accepted plan that letters lead to
pub reached-lies : (s : List ℕ) (n start : ℕ) → checked s ≡ Ok (record { n = n; start = start }) → (r : ℕ) → Closed (rules_of s) r → (cs : List Letter)
    → cell_words * (length (place_at (placed_forest (rules_of s) r) (path_after (forest (rules_of s) r) cs [])) + 1) ≤ cursor_words n
reached-lies s n start accepted r C cs = short-reached (walkable s n start accepted r C) cs

is_at : Begun → Bool
is_at (Begun.refused r) = false
is_at (Begun.at n r p) = true

at-not-refused : {n r : ℕ} {p : Path} {x : Refusal} → ¬ (Begun.at n r p ≡ Begun.refused x)
unfolding is_at
at-not-refused e = true≢false (ap is_at e)

-- the place is judged last, and only it is refused with 10: t says whether 8 is passed, x where 9 finds a byte
judged-last : (t : Bool) (x : Option ℕ) (b : Begun) → (walked (cond t (letters_judged x b) (Begun.refused Refusal.Lent)) ≡ Err Refusal.Place) ↔ ((not (t && is_none x) ≡ false) × (b ≡ Begun.refused Refusal.Place))
unfolding walked letters_judged is_none
judged-last true None (Begun.refused r) = (λ e. (refl, cc), λ h. ap walked h.1)
judged-last true None (Begun.at n r p) = (λ e. (refl, cc), λ h. cc)
judged-last true (Some i) b = (λ e. (cc, cc), λ h. cc)
judged-last false x b = (λ e. (cc, cc), λ h. cc)

module _ (s : List ℕ) (n start : ℕ) (cursor : List ℕ) (accepted : checked s ≡ Ok (record { n = n; start = start })) where
  -- the walked rule
  abbrev r : ℕ
  r = walked_rule start cursor

  abbrev found : Option Path
  found = path_of (placed_forest (rules_of s) r) (cells_in cursor (used_cells cursor))

  abbrev W : Closed (rules_of s) r → Walkable n (forest (rules_of s) r) (placed_forest (rules_of s) r)
  W C = walkable s n start accepted r C

  refused-misplaced : place_judged (rules_of s) n start cursor ≡ Begun.refused Refusal.Place → Misplaced (rules_of s) start cursor
  unfolding place_judged place_in stored Misplaced
  refused-misplaced e = by_bool (is_closed (rules_of s) r) (λ c. by_bool (headed n cursor) (in-forest c) (not-headed c)) not_named
    where
      not_named : is_closed (rules_of s) r ≡ false → Misplaced (rules_of s) start cursor
      not_named c = inl (λ o. true≢false (sym (closed-walked (rules_of s) r o.names) ∙ c))

      in-forest : is_closed (rules_of s) r ≡ true → headed n cursor ≡ true → Misplaced (rules_of s) start cursor
      in-forest c h =
          by-option found
          (λ x. inr (none-unreached (W (walked-closed (rules_of s) r c)) _ x))
          (λ p x. absurd (at-not-refused (rw (c, h, x) at e)))

      not-headed : is_closed (rules_of s) r ≡ true → headed n cursor ≡ false → Misplaced (rules_of s) start cursor
      not-headed c h =
          by_bool (leb (cell_words * (used_cells cursor + 1)) (cursor_words n))
          (λ fits. inl (λ o. true≢false (sym (zeros-headed n cursor o.zeros (leb-true _ _ fits)) ∙ h)))
          (λ long. inr (long-unreached (W (walked-closed (rules_of s) r c)) cursor (λ fits. true≢false (sym (le-leb _ _ fits) ∙ long))))

  misplaced-refused : Misplaced (rules_of s) start cursor → place_judged (rules_of s) n start cursor ≡ Begun.refused Refusal.Place
  unfolding place_judged place_in stored Misplaced
  misplaced-refused m =
      by_bool (is_closed (rules_of s) r)
      (λ c. by_bool (headed n cursor) (λ h. by-option found (λ x. rw (c, h, x)) (λ p x. absurd (⊎_elim (λ o. o (order c h)) (found-reached (W (walked-closed (rules_of s) r c)) _ p x) m))) (λ h. rw (c, h)))
      (λ c. rw c)
    where
      order : is_closed (rules_of s) r ≡ true → headed n cursor ≡ true → InOrder (rules_of s) start cursor
      order c h = record { names = walked-closed (rules_of s) r c; zeros = (headed-zeros n cursor h).0 }

  -- an accepted plan's place is refused with 10 exactly when document 01 says so
  pub refused-by-letters : (place_judged (rules_of s) n start cursor ≡ Begun.refused Refusal.Place) ↔ Misplaced (rules_of s) start cursor
  refused-by-letters = (refused-misplaced, misplaced-refused)

  -- and a walk answers 10 exactly then, past 8 and 9
  pub walk-refused-by-letters : (c : Call) → ((walk_of (lent s cursor c)).answer ≡ Err Refusal.Place) ↔ ((turned_down n cursor c ≡ false) × Misplaced (rules_of s) start cursor)
  unfolding walk_of lent turned_down begun begun_from
  walk-refused-by-letters c =
      let t = enough_lent c.work cursor c.letters c.answers n in
      let b = begun s c.work cursor c.letters c.answers in
      let eq : b ≡ cond t (letters_judged (first_other c.letters 0) (place_judged (rules_of s) n start cursor)) (Begun.refused Refusal.Lent) = rw accepted in
      let last = judged-last t (first_other c.letters 0) (place_judged (rules_of s) n start cursor) in
      (λ e. let h = last.0 (sym (ap walked eq) ∙ e) in (h.0, refused-misplaced h.1), λ h. ap walked eq ∙ last.1 (h.0, misplaced-refused h.1))

  -- no cells are above the forest
  above-found : used_cells cursor ≡ 0 → found ≡ Some []
  unfolding cells_in path_of
  above-found k = rw k

  -- "Above the forest means k = 0 in a cell 0 that 10 doesn't refuse": the definition says exactly that
  pub above-exactly : Above (rules_of s) start cursor ↔ ((used_cells cursor ≡ 0) × (place_judged (rules_of s) n start cursor ≢ Begun.refused Refusal.Place))
  unfolding place_judged place_in stored Misplaced
  above-exactly = (λ a. (a.none_used, passes a), λ h. record { none_used = h.0; in_order = in_order h.1 })
    where
      passes : Above (rules_of s) start cursor → place_judged (rules_of s) n start cursor ≢ Begun.refused Refusal.Place
      passes a e =
          ⊎_elim (λ o. o a.in_order) (found-reached (W a.in_order.names) _ [] (above-found a.none_used)) (refused-misplaced e)

      in_order : place_judged (rules_of s) n start cursor ≢ Begun.refused Refusal.Place → InOrder (rules_of s) start cursor
      in_order f =
          by_bool (is_closed (rules_of s) r)
          (λ c. by_bool (headed n cursor) (λ h. record { names = walked-closed (rules_of s) r c; zeros = (headed-zeros n cursor h).0 }) (λ h. absurd (f (rw (c, h)))))
          (λ c. absurd (f (rw c)))
