-- What a test over the rules that a rule names says of each of them, and back: every kind's named rules are those that `Names` lists.
-- Past the last rule a rule is empty, so whoever names a rule is one of the rules. Assumes nothing.
use Prim.Native.Nat.{ℕ, ◌<◌}
use mathlib.Core.Bool.{Bool, true, false, ◌&&◌, ◌||◌, or-true, false≢true}
use mathlib.Core.Logic.{◌⊎◌, inl, inr, ⊎_elim}
use mathlib.Core.List.{List}
use mathlib.Core.Path.{◌≡◌, refl}
use native.Mathlib.Decide.{dec_lt}
use native.Mathlib.Omega.{arith}
use lib.Dec.{T}
use lib.ListN.{length}
use Rattle.rule.specs.declared.Rule.{Rule}
use Rattle.rule.specs.Rule.{every}
use Rattle.rule.specs.Names.{Names, pair_one, pair_two, node_one, fill_one, fill_two, part_one, part_two, join_one, join_two}
use Rattle.rule.specs.Sound.{rule}
use Rattle.rule.proofs.Names.{every-named}
use Rattle.rule.proofs.Rules.{past-rule}
use Rattle.reach.specs.Reaches.{any_named}

-- one of two tests passes
pub either : (a b : Bool) → (a || b) ≡ true → (a ≡ true) ⊎ (b ≡ true)
either true b h = inl refl
either false b h = inr h

both : (a b : Bool) → T a → T b → T (a && b)
both true b s t = t
both false b s t = s

-- a test that each named rule passes, every one passes
pub named-every : (p : ℕ → Bool) (x : Rule) → ((k : ℕ) → Names x k → T (p k)) → T (every p x)
unfolding every
named-every p Rule.Empty f = tt
named-every p (Rule.Pair b c) f = both (p b) (p c) (f b pair_one) (f c pair_two)
named-every p (Rule.Node a c) f = f c node_one
named-every p (Rule.Fill b c) f = both (p b) (p c) (f b fill_one) (f c fill_two)
named-every p (Rule.Part a b c) f = both (p b) (p c) (f b part_one) (f c part_two)
named-every p (Rule.Join b c) f = both (p b) (p c) (f b join_one) (f c join_two)

-- a test that one named rule passes, some named rule passes
pub named-any : (p : ℕ → Bool) {x : Rule} {k : ℕ} → Names x k → p k ≡ true → any_named p x ≡ true
unfolding any_named
named-any p pair_one h = rw h
named-any p (pair_two {b} {c}) h = rw (h, or-true)
named-any p node_one h = h
named-any p fill_one h = rw h
named-any p (fill_two {b} {c}) h = rw (h, or-true)
named-any p part_one h = rw h
named-any p (part_two {a} {b} {c}) h = rw (h, or-true)
named-any p join_one h = rw h
named-any p (join_two {b} {c}) h = rw (h, or-true)

-- and if some named rule passes it, here is one
abbrev pub Passes : (ℕ → Bool) → Rule → Type 0
Passes p x = (k : ℕ) × Names x k × (p k ≡ true)

of_two : (p : ℕ → Bool) {x : Rule} {b c : ℕ} → Names x b → Names x c → (p b || p c) ≡ true → Passes p x
of_two p {x} {b} {c} m n h = ⊎_elim (λ e. (b, m, e)) (λ e. (c, n, e)) (either (p b) (p c) h)

pub any-named : (p : ℕ → Bool) (x : Rule) → any_named p x ≡ true → Passes p x
unfolding any_named
any-named p Rule.Empty h = absurd (false≢true h)
any-named p (Rule.Pair b c) h = of_two p pair_one pair_two h
any-named p (Rule.Node a c) h = (c, node_one, h)
any-named p (Rule.Fill b c) h = of_two p fill_one fill_two h
any-named p (Rule.Part a b c) h = of_two p part_one part_two h
any-named p (Rule.Join b c) h = of_two p join_one join_two h

-- whoever names a rule is one of the rules
pub names-below : (R : List Rule) (a x : ℕ) → Names (rule R a) x → a < length R
unfolding every
names-below R a x m =
    elim (dec_lt a (length R)) [
      | yes l ↦ l
      | no g ↦ absurd (every-named (λ y. false) m (rw (past-rule R a (omega (arith, g))) tt))
    ]
