-- The rules of a client's copy, written as a plan, are an accepted plan of the visible forest, and fit into the output: a plan of at most
-- 4,096 rules has a copy of at most 12,288. Assumes nothing.
use Rattle.std.specs.Prelude.{Ok}
use Prim.Native.Nat.{ℕ, ◌+◌, ◌*◌, ◌≤◌, ◌<◌}
use native.Mathlib.Omega.{arith}
use mathlib.Core.Bool.{Bool}
use mathlib.Core.List.{List}
use mathlib.Core.Path.{◌≡◌, ap, ◌∙◌}
use lib.Dec.{T}
use lib.ListN.{length}
use Rattle.record.specs.declared.Format.{Format}
use Rattle.record.specs.Format.{high_length, most_label}
use Rattle.rule.specs.declared.Rule.{Rule}
use Rattle.rule.specs.Rule.{labelled, labelled_to}
use Rattle.rule.specs.Sound.{rule}
use Rattle.plan.specs.Check.{most_rules, checked, format_of, rules_of}
use Rattle.plan_rules.proofs.Accepted.{rules-bytes, rules-format, rules-read, rules-accepted}
use Rattle.forest.specs.Forest.{forest}
use Rattle.copy_variants.specs.Visible.{visible}
use Rattle.copy_passes.specs.Copied.{Copied}
use Rattle.copy_plan.specs.Bytes.{most_copied, copy_room, copy_bytes}

module _ {v : ℕ → Bool} {R C : List Rule} {start top : ℕ} (X : Copied v R start C top) (small : length R ≤ most_copied) where
  in-limit : length C ≤ most_rules
  in-limit = omega (arith, X.few, small)

  wide : (r : ℕ) → r < length C → T (labelled_to (most_label Format.Wide) (rule C r))
  unfolding labelled most_label
  wide r h = X.sound.labels r h

  -- "a new wide plan"
  pub copy-format : format_of (copy_bytes C top) ≡ Format.Wide
  unfolding copy_bytes
  copy-format = rules-format _ C X.sound wide top X.ends in-limit

  pub copy-accepted : checked (copy_bytes C top) ≡ Ok (record { n = (length C); start = top })
  unfolding copy_bytes
  copy-accepted = rules-accepted _ C X.sound wide top X.ends in-limit

  pub copy-rules : rules_of (copy_bytes C top) ≡ C
  unfolding copy_bytes
  copy-rules = rules-read _ C X.sound wide top X.ends in-limit

  -- "whose forest is the old one with those subtrees gone"
  pub copy-forest : forest (rules_of (copy_bytes C top)) top ≡ visible v (forest R start)
  copy-forest = ap (λ (S : List Rule). forest S top) copy-rules ∙ X.gives

  pub copy-length : length (copy_bytes C top) ≡ 10 * length C + 10
  unfolding copy_bytes high_length
  copy-length = rules-bytes _ C X.sound wide top X.ends in-limit

  pub copy-fits : length (copy_bytes C top) ≤ copy_room (length R)
  copy-fits = omega (arith, copy-length, X.few)
