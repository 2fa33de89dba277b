-- Rules of which none reaches itself have ranks. All that a named rule reaches is reached from the rule that names it, and the named rule
-- is one more, since it doesn't reach itself; so the number of rules reached falls along names. Assumes nothing.
use Prim.Native.Nat.{ℕ, ◌<◌}
use mathlib.Core.Bool.{true}
use mathlib.Core.List.{List}
use mathlib.Core.Path.{◌≡◌}
use native.Mathlib.Omega.{arith}
use lib.Dec.{T, ltb, lt→ltb}
use lib.ListN.{length}
use Rattle.rule.specs.declared.Rule.{Rule}
use Rattle.rule.specs.Rule.{every}
use Rattle.rule.specs.Names.{Names}
use Rattle.rule.specs.Sound.{rule}
use Rattle.reach.specs.Reaches.{Reaches, named, through, reaches}
use Rattle.reach.specs.Order.{Ranged, Acyclic, rank}
use Rattle.reach.proofs.Named.{named-every}
use Rattle.reach.proofs.Counting.{count_less, count-below}
use Rattle.reach.proofs.Steps.{named-below, reaches-exact}

module _ (R : List Rule) (ok : Ranged R) (none : Acyclic R) where
  not_itself : (r : ℕ) → r < length R → reaches R r r ≡ true → ⊥
  not_itself r l t = none r l ((reaches-exact R ok r r).0 t)

  pub rank_falls : (r : ℕ) → r < length R → T (every (λ x. ltb (rank R x) (rank R r)) (rule R r))
  unfolding rank
  rank_falls r l =
      named-every (λ x. ltb (rank R x) (rank R r)) (rule R r) λ x m.
      lt→ltb (rank R x) (rank R r)
      (count_less (length R) (reaches R x) (reaches R r)
      (λ i k t. (reaches-exact R ok r i).1 (through m ((reaches-exact R ok x i).0 t)))
      x (named-below R ok r x m) ((reaches-exact R ok r x).1 (named m)) (not_itself x (named-below R ok r x m)))

  pub rank_below : (r : ℕ) → r < length R → rank R r < length R
  unfolding rank
  rank_below r l = count-below (length R) (reaches R r) r l (not_itself r l)

-- and where some number falls along names, no rule reaches itself
reaches-falls : {R : List Rule} (height : ℕ → ℕ) → ((r k : ℕ) → Names (rule R r) k → height k < height r) → {a b : ℕ} → Reaches R a b → height b < height a
reaches-falls height f {a} {b} (named m) = f a b m
reaches-falls height f {a} {b} (through {x} m r) = let s : height b < height x = reaches-falls height f r in omega (arith, s, f a x m)

pub falls-acyclic : (R : List Rule) (height : ℕ → ℕ) → ((r k : ℕ) → Names (rule R r) k → height k < height r) → Acyclic R
falls-acyclic R height f r l s = omega (arith, reaches-falls height f s)
