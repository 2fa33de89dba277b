-- "Plans with the old mark keep their forest, their texts and their places" (document 02, Note 2). What their records mean is document 01's
-- table (rule/proofs/Narrow), and forests and places are the same definitions of rules; their labels have one byte, so their texts are those
-- of document 01. Assumes nothing.
use Rattle.std.specs.Prelude.{Ok}
use Prim.Native.Nat.{ℕ, ◌≤◌, ◌<◌}
use native.Mathlib.Omega.{arith}
use mathlib.Core.List.{List, [], ◌∷◌, ◌++◌}
use mathlib.Core.Path.{◌≡◌, refl, ap, ap₂, subst, ◌∙◌}
use lib.Dec.{T}
use lib.ListN.{length}
use Rattle.record.specs.declared.Format.{Format}
use Rattle.record.specs.Format.{most_label}
use Rattle.record.specs.Records.{record_in}
use Rattle.rule.specs.Rule.{labelled_to}
use Rattle.rule.specs.Sound.{rule}
use Rattle.rule.proofs.Decode.{decode-labelled_to}
use Rattle.rule.proofs.Rules.{rule-decoded}
use Rattle.judge.proofs.Fit.{fine-fit}
use Rattle.plan.specs.Check.{checked, format_of, most_rules, records_of, rules_of}
use Rattle.plan.proofs.Sound.{Plan, checked-plan}
use Rattle.forest.specs.Forest.{Forest, forest, text}
use Rattle.forest.specs.Outcome.{text_of}
use Rattle.forest.proofs.Each.{Each}
use Rattle.forest.proofs.Counts.{text-narrow}
use Rattle.forest.proofs.Labels.{forest-labelled}

-- "It writes "(" label children ")" for each node in reading order", as document 01 has it
pub text_before : Forest ℕ → List ℕ
text_before Forest.none = []
text_before (Forest.tree a c g) = 40 ∷ a ∷ (text_before c ++ (41 ∷ text_before g))

text-before : (g : Forest ℕ) → Each (λ a. a ≤ 255) g → text Format.Narrow g ≡ text_before g
unfolding text text_before
text-before Forest.none h = refl
text-before (Forest.tree a c g) h =
    text-narrow a c g (omega (arith, h.0))
    ∙ ap₂ (λ (u v : List ℕ). 40 ∷ a ∷ (u ++ (41 ∷ v))) (text-before c h.1) (text-before g h.2)

module _ (s : List ℕ) (n start : ℕ) (accepted : checked s ≡ Ok (record { n = n; start = start })) where
  plan : Plan most_rules s n start
  plan = checked-plan s n start accepted

  -- every label is one of the format's
  rule-labels : (r : ℕ) → r < length (rules_of s) → T (labelled_to (most_label (format_of s)) (rule (rules_of s) r))
  unfolding rules_of
  rule-labels r l =
      let named = (fine-fit (format_of s) (records_of s) start plan.fine).each r (omega (arith, l, plan.records, plan.rules)) in
      rw (rule-decoded (format_of s) (records_of s) r named.means named.decodes)
      (decode-labelled_to (format_of s) (record_in (records_of s) r) named.means named.decodes)

  pub format-labels : Each (λ a. a ≤ most_label (format_of s)) (forest (rules_of s) start)
  format-labels = forest-labelled plan.sound (most_label (format_of s)) rule-labels start plan.ends.below

  pub narrow-text : format_of s ≡ Format.Narrow → text_of s (checked s) ≡ text_before (forest (rules_of s) start)
  unfolding text_of most_label
  narrow-text narrow =
      ap (text_of s) accepted
      ∙ ap (λ (f : Format). text f (forest (rules_of s) start)) narrow
      ∙ text-before (forest (rules_of s) start) (subst (λ (f : Format). Each (λ a. a ≤ most_label f) (forest (rules_of s) start)) narrow format-labels)
