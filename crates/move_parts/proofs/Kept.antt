-- The moves keep what holds of every rule of a place: if the facts of a rule lead only to rules with P, then a move from a
-- place of rules with P leads to one. Each piece of a move adds only rules that the facts name.
-- Assumes nothing.
use Prim.Native.Nat.{ℕ, suc}
use native.Mathlib.Omega.{arith}
use mathlib.Core.Path.{◌≡◌, refl, sym, ◌∙◌}
use mathlib.Core.Bool.{Bool, true, false, cond}
use mathlib.Core.List.{[], ◌∷◌}
use Rattle.std.specs.Prelude.{Option, None, Some, option_map}
use lib.Dec.{eqb, leb}
use borrow.Author.Tests.{eqb-true}
use Rattle.rule.specs.declared.Rule.{Rule}
use Rattle.forest.specs.Place.{Cell, Cells, Side, cell_row, cell_spine, cell_run, row_of_node, row_of_part, step}
use Rattle.forest.specs.Sides.{other, pick}
use Rattle.forest.specs.Position.{or_else}
use Rattle.forest.proofs.Sides.{picked}
use Rattle.model.specs.Facts.{Facts}
use Rattle.model.specs.Model.{Node, one_above, outer, inner_of, standing, tail, pop_run, run, shrunk, turned, beside_top, beside, opened, enter, continuing, inward, under, part_at, is_part, outward, child, child_of, beside_hole, sibling, below_row, node_at, parent, root}
use Rattle.model.proofs.Stages.{ended, follow, sibling_from, sibling-stages}
use Rattle.facts.specs.Closes.{Names, Closed}
use Rattle.move_parts.specs.Moves.{Each, Fits, node_has, Kept}
use Rattle.forest.proofs.Cases.{by_bool}
use Rattle.place_cells.proofs.Stack.{run-no-row}
use Rattle.facts.proofs.Closes.{above-has, outer-has}

-- the rule of a node that was found
pub found-rule : (P : ℕ → Type 0) {y : Option Node} {x : Node} → y ≡ Some x → Kept P y → P x.0
unfolding Kept
found-rule P e k = (rw e at k).0

else-kept : (P : ℕ → Type 0) (x y : Option Node) → Kept P x → Kept P y → Kept P (or_else x y)
unfolding Kept or_else
else-kept P None y a b = b
else-kept P (Some x) y a b = a

map-kept : (P : ℕ → Type 0) (f : Node → Node) → ((x : Node) → node_has P x → node_has P (f x)) → (x : Option Node) → Kept P x → Kept P (option_map f x)
unfolding Kept
map-kept P f g None a = tt
map-kept P f g (Some x) a = g x a

module _ (F : Facts) (P : ℕ → Type 0) (h : Closed F P) where
  step_kept : (s : Side) (a b : ℕ) (cs : Cells) → P a → P b → Each (Fits P) cs → Each (Fits P) (step s a b cs)
  unfolding Each step
  step_kept s a b [] p q e = (record { one = λ _. p; two = q }, tt)
  step_kept s a b (c ∷ cs) p q e =
      by_bool (eqb c.0 (cell_run s))
      (λ u. rw u (record { one = e.0.one; two = q }, e.1))
      (λ u. rw u (record { one = λ _. p; two = q }, e))

  run-kept : (s : Side) (a : ℕ) (cs : Cells) → P a → Each (Fits P) cs → Each (Fits P) (run F s a cs)
  unfolding run
  run-kept s a cs p e =
      by_bool (eqb (F.depth s a) 0) (λ u. rw u e) (λ u. rw u (step_kept s a (F.last s a) cs p (h.ends s a p) e))

  pop_kept : (s : Side) (cs : Cells) → Each (Fits P) cs → Each (Fits P) (pop_run s cs)
  unfolding Each pop_run
  pop_kept s [] e = tt
  pop_kept s (c ∷ cs) e = by_bool (eqb c.0 (cell_run s)) (λ u. rw u e.1) (λ u. rw u e)

  tail-kept : (cs : Cells) → Each (Fits P) cs → Each (Fits P) (tail cs)
  unfolding Each tail
  tail-kept [] e = tt
  tail-kept (c ∷ cs) e = e.1

  shrunk-kept : (s : Side) (c : Cell) (cs : Cells) → P c.1 → Each (Fits P) (c ∷ cs) → Each (Fits P) (shrunk F s (c ∷ cs))
  unfolding Each shrunk
  shrunk-kept s c cs p e =
      by_bool (leb (F.depth s c.1) (suc (F.depth s c.2)))
      (λ u. rw u e.1)
      (λ u. rw u (record { one = e.0.one; two = above-has h s c.1 c.2 p }, e.1))

  turned-kept : (s : Side) (v : ℕ) (cs : Cells) → P v → Each (Fits P) cs → node_has P (turned F s v cs)
  unfolding turned
  turned-kept s v cs p e =
      let q = h.steps s v p in
      (h.ends (other s) (F.toward s v) q, run-kept (other s) (F.toward s v) (step s v (F.toward s v) cs) q (step_kept s v (F.toward s v) cs p q e))

  pub beside-kept : (s : Side) (cs : Cells) → Each (Fits P) cs → Kept P (beside_top F s cs)
  unfolding Each Kept beside_top
  beside-kept s [] e = tt
  beside-kept s (c ∷ cs) e =
      by_bool (eqb c.0 (cell_run (other s)))
      (λ u. rw u
      (let p : P c.1 = e.0.one (λ q. run-no-row (other s) (sym (eqb-true c.0 (cell_run (other s)) u) ∙ q)) in
      turned-kept s (one_above F (other s) c.1 c.2) (shrunk F (other s) (c ∷ cs)) (above-has h (other s) c.1 c.2 p) (shrunk-kept (other s) c cs p e)))
      (λ u. rw u tt)

  pub opened-kept : (a : ℕ) (cs : Cells) → P a → Each (Fits P) cs → node_has P (opened F a cs)
  unfolding Each opened
  opened-kept a cs p e =
      let q = outer-has h a p in
      (h.ends Side.left (outer F a) q, run-kept Side.left (outer F a) ((cell_spine, a, 0, 0) ∷ cs) q (record { one = λ _. p; two = h.least }, e))

  pub enter-kept : (s : Side) (d a : ℕ) (cs : Cells) → P a → Each (Fits P) cs → Kept P (enter F s d a cs)
  unfolding Each Kept enter
  enter-kept s d a cs p e =
      let r = F.representative a in let q = h.represents a p in
      by_bool (F.is_empty a) (λ u. rw u tt)
      (λ u. rw u (opened-kept (F.last s r) (run F s r ((cell_row, d, r, 0) ∷ cs)) (h.ends s r q)
      (run-kept s r ((cell_row, d, r, 0) ∷ cs) q (record { one = λ z. absurd (z refl); two = q }, e))))

  inner-kept : (x : Rule) (cs : Cells) → Names P x → Each (Fits P) cs → Kept P (option_map (λ (c : ℕ). opened F c cs) (inner_of x))
  unfolding Kept Names inner_of
  inner-kept Rule.Empty cs n e = tt
  inner-kept (Rule.Pair b c) cs n e = tt
  inner-kept (Rule.Node x c) cs n e = tt
  inner-kept (Rule.Fill b c) cs n e = opened-kept c cs n.1 e
  inner-kept (Rule.Part x b c) cs n e = tt
  inner-kept (Rule.Join b c) cs n e = tt

  continued-kept : (t cs : Cells) → Each (Fits P) t → Each (Fits P) cs → Kept P (option_map (λ (c : ℕ). opened F c cs) (continuing F t))
  unfolding Each Kept continuing
  continued-kept [] cs f e = tt
  continued-kept (c ∷ t) cs f e =
      by_bool (eqb c.0 cell_spine)
      (λ u. rw u (let p : P c.1 = f.0.one (λ q. let z : c.0 ≡ cell_spine = eqb-true c.0 cell_spine u in omega arith) in inner-kept (F.rule c.1) cs (h.names c.1 p) e))
      (λ u. rw u tt)

  pub inward-kept : (cs : Cells) → Each (Fits P) cs → Kept P (inward F cs)
  unfolding inward beside
  inward-kept cs e =
      let f = pop_kept Side.right cs e in
      else-kept P (beside_top F Side.right (pop_run Side.right cs)) (option_map (λ (c : ℕ). opened F c cs) (continuing F (pop_run Side.right cs)))
      (beside-kept Side.right (pop_run Side.right cs) f) (continued-kept (pop_run Side.right cs) cs f e)

  pub standing-kept : (cs : Cells) → Each (Fits P) cs → P (standing F cs)
  unfolding Each standing
  standing-kept [] e = h.least
  standing-kept (c ∷ cs) e =
      by_bool (eqb c.0 cell_spine)
      (λ u. rw u (outer-has h c.1 (e.0.one (λ q. let z : c.0 ≡ cell_spine = eqb-true c.0 cell_spine u in omega arith))))
      (λ u. rw u e.0.two)

  part-kept : (cs : Cells) → Each (Fits P) cs → Kept P (part_at F cs)
  unfolding Kept part_at
  part-kept cs e = by_bool (is_part (F.rule (standing F cs))) (λ u. rw u (standing-kept cs e, e)) (λ u. rw u tt)

  pub outward-kept : (cs : Cells) → Each (Fits P) cs → Kept P (outward F cs)
  unfolding outward beside under
  outward-kept cs e =
      let t = pop_run Side.left cs in let f = pop_kept Side.left cs e in
      else-kept P (beside_top F Side.left t) (part_at F (tail t)) (beside-kept Side.left t f) (part-kept (tail t) (tail-kept t f))

  ended-kept : (s : Side) (cs : Cells) → Each (Fits P) cs → Kept P (ended F s cs)
  unfolding Each Kept ended
  ended-kept s [] e = tt
  ended-kept s (c ∷ cs) e = by_bool (eqb c.1 (row_of_part (other s))) (λ u. rw u (inward-kept cs e.1)) (λ u. rw u tt)

  follow-kept : (s : Side) (cs : Cells) → Each (Fits P) cs → Kept P (follow F s cs)
  unfolding follow beside
  follow-kept s cs e =
      let t = pop_run s cs in let f = pop_kept s cs e in
      else-kept P (option_map (λ (x : Node). opened F x.0 x.1) (beside_top F s t)) (ended F s t)
      (map-kept P (λ (x : Node). opened F x.0 x.1) (λ x k. opened-kept x.0 x.1 k.0 k.1) (beside_top F s t) (beside-kept s t f))
      (ended-kept s t f)

  child-of : (s : Side) (x : Rule) (cs : Cells) → Names P x → Each (Fits P) cs → Kept P (child_of F s x cs)
  unfolding Kept Names child_of
  child-of s Rule.Empty cs n e = tt
  child-of s (Rule.Pair b c) cs n e = tt
  child-of s (Rule.Node x c) cs n e = enter-kept s row_of_node c cs n e
  child-of s (Rule.Fill b c) cs n e = tt
  child-of s (Rule.Part x b c) cs n e =
      else-kept P (enter F s (row_of_part s) (pick s b c) cs) (inward F cs) (enter-kept s (row_of_part s) (pick s b c) cs (picked P s b c n.0 n.1) e) (inward-kept cs e)
  child-of s (Rule.Join b c) cs n e = tt

  pub child-kept : (s : Side) (x : Node) → node_has P x → Kept P (child F s x)
  unfolding child
  child-kept s x e = child-of s (F.rule x.0) x.1 (h.names x.0 e.0) e.1

  hole-kept : (s : Side) (x : Rule) (cs : Cells) → Names P x → Each (Fits P) cs → Kept P (beside_hole F s x cs)
  unfolding Kept Names beside_hole
  hole-kept s Rule.Empty cs n e = tt
  hole-kept s (Rule.Pair b c) cs n e = tt
  hole-kept s (Rule.Node x c) cs n e = tt
  hole-kept s (Rule.Fill b c) cs n e = tt
  hole-kept s (Rule.Part x b c) cs n e = enter-kept (other s) (row_of_part s) (pick s b c) cs (picked P s b c n.0 n.1) e
  hole-kept s (Rule.Join b c) cs n e = tt

  sibling-from : (s : Side) (x : Option Node) (cs : Cells) → Kept P x → Each (Fits P) cs → Kept P (sibling_from F s x cs)
  unfolding Kept sibling_from under
  sibling-from s None cs k e = follow-kept s (under cs) (tail-kept (pop_run Side.left cs) (pop_kept Side.left cs e))
  sibling-from s (Some x) cs k e = hole-kept s (F.rule x.0) x.1 (h.names x.0 k.0) k.1

  pub sibling-kept : (s : Side) (x : Node) → node_has P x → Kept P (sibling F s x)
  sibling-kept s x e = rw sibling-stages (sibling-from s (outward F x.1) x.1 (outward-kept x.1 e.1) e.1)

  below-kept : (cs : Cells) → Each (Fits P) cs → Each (Fits P) (below_row cs)
  unfolding Each below_row
  below-kept [] e = tt
  below-kept (c ∷ cs) e = by_row (eqb c.0 cell_row) (below-kept cs e.1)
    where
      by_row : (b : Bool) → Each (Fits P) (below_row cs) → Each (Fits P) (cond b cs (below_row cs))
      by_row true k = e.1
      by_row false k = k

  node_kept : (cs : Cells) → Each (Fits P) cs → Kept P (node_at F cs)
  unfolding Kept node_at
  node_kept [] e = tt
  node_kept (c ∷ cs) e = (standing-kept (c ∷ cs) e, e)

  pub parent-kept : (x : Node) → node_has P x → Kept P (parent F x)
  unfolding parent under
  parent-kept x e =
      else-kept P (outward F x.1) (node_at F (below_row (under x.1))) (outward-kept x.1 e.1)
      (node_kept (below_row (under x.1)) (below-kept (under x.1) (tail-kept (pop_run Side.left x.1) (pop_kept Side.left x.1 e.1))))

  pub root_kept : (s : Side) (r : ℕ) → P r → Kept P (root F s r)
  unfolding Each root
  root_kept s r p = enter-kept s row_of_node r [] p tt
