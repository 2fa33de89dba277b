-- The reason read off the forest is the one that is decided from three tests: at a node the answer is nowhere exactly where the definition
-- gives another reason than that it moves, and then the letter alone tells which. Assumes nothing.
use Prim.Native.Nat.{ℕ}
use mathlib.Core.Path.{◌≡◌, refl}
use mathlib.Core.Bool.{Bool, true, false, cond, true≢false}
use mathlib.Core.List.{[], ◌∷◌}
use Rattle.std.specs.Prelude.{Option}
use Rattle.forest.specs.Forest.{Forest}
use Rattle.forest.specs.Letter.{Letter}
use Rattle.forest.specs.Position.{Named}
use Rattle.forest.specs.Reference.{Path, children_at, is_above, answer}
use Rattle.forest.specs.Ends.{has_none, at_end}
use Rattle.reasons.specs.declared.Reason.{Reason}
use Rattle.reasons.specs.Reason.{end_reason, reason_at, reason_of}
use Rattle.reasons.specs.Decided.{is_found, stop_reason, decided_at, decided}
use Rattle.reasons.proofs.Reasons.{is_moves, Agrees, leads, stops, agrees}

-- a test that gives another reason than that the letter moves
other-reason : (t : Bool) (w : Reason) → is_moves (cond t w Reason.Moves) ≡ false → cond t w Reason.Moves ≡ w
unfolding is_moves
other-reason true w e = refl
other-reason false w e = absurd (true≢false e)

module _ {A : Type 0} where
  stopped : (g : Forest A) (c : Letter) (i : ℕ) (p : Path) → is_moves (reason_at g c i p) ≡ false → reason_at g c i p ≡ stop_reason c
  unfolding is_moves reason_at stop_reason
  stopped g (Letter.root s) i p e = absurd (true≢false e)
  stopped g (Letter.child s) i p e = other-reason (has_none (children_at g (i ∷ p))) Reason.NoChildren e
  stopped g (Letter.sibling s) i p e = other-reason (at_end s (children_at g p) i) (end_reason s) e
  stopped g Letter.parent i [] e = refl
  stopped g Letter.parent i (j ∷ p) e = absurd (true≢false e)
  stopped g Letter.stay i p e = absurd (true≢false e)

  told-node : (g : Forest A) (c : Letter) (i : ℕ) (p : Path) {x : Option A} → Agrees A (reason_at g c i p) x → reason_at g c i p ≡ decided_at c (is_found x)
  unfolding decided_at is_found
  told-node g c i p (leads e q) = rw q e
  told-node g c i p (stops e q) = rw q (stopped g c i p e)

  -- the reason, from three tests
  pub told : (g : Forest A) (c : Letter) (p : Path) → Named g p → reason_of g c p ≡ decided (has_none g) (is_above p) c (is_found (answer g c p))
  unfolding reason_of decided has_none is_above
  told Forest.none c p N = refl
  told (Forest.tree a d f) c [] N = refl
  told (Forest.tree a d f) c (i ∷ p) N = told-node (Forest.tree a d f) c i p (agrees (Forest.tree a d f) c (i ∷ p) N)
