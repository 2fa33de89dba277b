-- Where a table closes, what its facts lead to from a rule that has a row has one: steps, runs, and the rules that a rule names.
-- Assumes nothing.
use Prim.Native.Nat.{ℕ, zero, suc, ◌-◌}
use mathlib.Core.Path.{◌≡◌}
use Rattle.rule.specs.declared.Rule.{Rule}
use Rattle.forest.specs.Place.{Side}
use Rattle.model.specs.Facts.{Facts}
use Rattle.model.specs.Model.{along, one_above, outer, outer_of}
use Rattle.facts.specs.Closes.{Names, Closed}

-- P of what the facts of a rule with P lead to
pub along-has : {F : Facts} {P : ℕ → Type 0} → Closed F P → (s : Side) (j a : ℕ) → P a → P (along F s j a)
unfolding along
along-has h s zero a p = p
along-has {F} h s (suc j) a p = h.steps s (along F s j a) (along-has h s j a p)

pub above-has : {F : Facts} {P : ℕ → Type 0} → Closed F P → (s : Side) (a b : ℕ) → P a → P (one_above F s a b)
unfolding one_above
above-has {F} h s a b p = along-has h s (F.depth s a - suc (F.depth s b)) a p

-- P of the rules that a rule with P names
pub named-inner : (P : ℕ → Type 0) {x : Rule} {b c : ℕ} → x ≡ Rule.Fill b c → Names P x → P c
unfolding Names
named-inner P e n = (rw e at n).1

pub named-under : (P : ℕ → Type 0) {x : Rule} {a c : ℕ} → x ≡ Rule.Node a c → Names P x → P c
unfolding Names
named-under P e n = rw e at n

pub named-arms : (P : ℕ → Type 0) {x : Rule} {a b c : ℕ} → x ≡ Rule.Part a b c → Names P x → P b × P c
unfolding Names
named-arms P e n = rw e at n

outer-of : (P : ℕ → Type 0) (x : Rule) (a : ℕ) → Names P x → P a → P (outer_of x a)
unfolding Names outer_of
outer-of P Rule.Empty a n p = p
outer-of P (Rule.Pair b c) a n p = p
outer-of P (Rule.Node x c) a n p = p
outer-of P (Rule.Fill b c) a n p = n.0
outer-of P (Rule.Part x b c) a n p = p
outer-of P (Rule.Join b c) a n p = p

pub outer-has : {F : Facts} {P : ℕ → Type 0} → Closed F P → (a : ℕ) → P a → P (outer F a)
unfolding outer
outer-has {F} {P} h a p = outer-of P (F.rule a) a (h.names a p) p
