-- The four writes are those of `put_rule_facts`, one after the other. Assumes nothing.
use Prim.Native.Nat.{ℕ}
use mir.Val.{bool_byte}
use mathlib.Core.Bool.{Bool, true, false}
use mathlib.Core.Path.{◌≡◌, refl, ◌∙◌}
use mathlib.Core.List.{List}
use Rattle.forest.specs.Place.{Side}
use Rattle.facts_build.specs.declared.RuleFacts.{RuleFacts}
use Rattle.work_rows.specs.Rows.{put_field}
use Rattle.side.specs.Side.{side_of}
use Rattle.facts.specs.Facts.{at_representative, at_emptiness, put_link}
use Rattle.facts_build.specs.RuleFacts.{flag, put_rule_facts}
use Rattle.facts_build.proofs.RuleFacts.write.Goals as goal

-- the four lists one after the other
written : (t t₁ t₂ t₃ t₄ : List ℕ) (r v : ℕ) (e : RuleFacts) → t₁ ≡ put_field 2 t r at_representative e.representative → v ≡ flag e.empty
    → t₂ ≡ put_field 2 t₁ r at_emptiness v → t₃ ≡ put_link t₂ Side.left r e.left → t₄ ≡ put_link t₃ Side.right r e.right → t₄ ≡ put_rule_facts t r e
unfolding put_rule_facts
written t t₁ t₂ t₃ t₄ r v e e₁ f e₂ e₃ e₄ = rw (e₄, e₃, e₂, f, e₁)

-- a test as a word
test-word : (b : Bool) → bool_byte b ≡ flag b
unfolding flag
test-word true = refl
test-word false = refl

pub returns : goal.returns
unfolding side_of
returns c = written _ _ _ _ _ _ _ _ c.put16.ensures (c.from.ensures ∙ test-word _) c.put16-2.ensures c.write.ensures c.write-2.ensures
