-- What the code of one rule's variants comes to, a law for each answer, and what may be read: the rows of the rules named, also of the rule
-- that a match found. Assumes nothing.
use Prim.Native.Nat.{ℕ, zero, suc, ◌*◌, ◌<◌}
use native.Mathlib.Omega.{arith}
use mathlib.Core.Path.{◌≡◌, refl, ◌∙◌}
use mathlib.Core.List.{List}
use Rattle.rule.specs.declared.Rule.{Rule}
use Rattle.rule.specs.Names.{Names}
use Rattle.work_rows.specs.Rows.{own_end, rule_at, rule_in}
use Rattle.copy_variants.specs.Variants.{filling, variant, variant_name, whole_name}
use Rattle.copy_rows.specs.Table.{most_copied, at_whole, at_shut, inner_of, variants_at, Fits, Readable, NamesFew}

pub at-rule : {t : List ℕ} {r : ℕ} {x y : Rule} → x ≡ y → Readable t r x → Readable t r y
at-rule q h = rw q at h

pub named-fits : {t : List ℕ} {r : ℕ} {x y : Rule} → x ≡ y → Readable t r x → (k : ℕ) → Names y k → Fits t k
named-fits q h k m = (at-rule q h).named k m

pub named-few : {t : List ℕ} {r : ℕ} {x y : Rule} → x ≡ y → Readable t r x → (k : ℕ) → Names y k → k < most_copied
named-few q h k m = (named-fits q h k m).few

pub named_in : {x y : Rule} → x ≡ y → NamesFew x → NamesFew y
named_in q h = rw q at h

-- the filling of variants that are read from rows
pub put-rows : {x whole shut z : Rule} {m k : ℕ} (s : List ℕ) (b c t : ℕ) → x ≡ filling (record { inner = Rule.Empty; whole = whole; shut = shut }) m z k
    → whole ≡ rule_at s b at_whole → shut ≡ rule_at s b at_shut → z ≡ rule_at s c (own_end * t) → m ≡ whole_name b → k ≡ variant_name c t
    → x ≡ filling (variants_at s b) (whole_name b) (rule_at s c (own_end * t)) (variant_name c t)
unfolding filling variants_at
put-rows s b c t e p q r u v = e ∙ rw (p, q, r, u, v)

-- a variant read from its row: the inner one is made of the rule, the others stand one behind the other
pub variant-inner : {x : Rule} (s : List ℕ) (r t : ℕ) → t ≡ 0 → x ≡ inner_of (rule_in s r) → x ≡ variant (variants_at s r) t
unfolding variant variants_at
variant-inner s r t q p = rw q p

pub variant-kept : {x : Rule} (s : List ℕ) (r t : ℕ) → t < 3 → (t ≡ 0 → ⊥) → x ≡ rule_at s r (own_end * t) → x ≡ variant (variants_at s r) t
unfolding variant variants_at
variant-kept s r zero l ne p = absurd (ne refl)
variant-kept s r (suc zero) l ne p = p
variant-kept s r (suc (suc zero)) l ne p = p
variant-kept s r (suc (suc (suc t))) l ne p = absurd (omega arith)
