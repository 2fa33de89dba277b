-- "Labels go to 16,777,215", and "nowhere becomes 4,294,967,295, since 65,535 is now a food" (document 02, Note 2): no label of an
-- accepted plan's forest is the word for nowhere, so that word answers a letter only where it leads nowhere. Assumes nothing.
use Prim.Native.Nat.{ℕ, ◌≤◌, ◌<◌}
use native.Mathlib.Omega.{arith}
use mathlib.Core.Path.{◌≡◌, refl}
use mathlib.Core.Logic.{◌≢◌}
use mathlib.Core.List.{List}
use Rattle.std.specs.Prelude.{Option, None, Some, Ok}
use lib.ListN.{length}
use Rattle.rule.specs.Rule.{largest_label}
use Rattle.plan.specs.Check.{checked, rules_of}
use Rattle.plan.proofs.Sound.{checked-plan}
use Rattle.forest.specs.Forest.{forest}
use Rattle.forest.specs.Letter.{Letter}
use Rattle.forest.specs.Reference.{Path, label_at, answer, moved}
use Rattle.forest.specs.Walk.{nowhere, answer_word}
use Rattle.forest.proofs.Each.{each-label_at}
use Rattle.forest.proofs.Labels.{forest-labels}
use Rattle.forest.proofs.Steps.{answer-label}

-- every label, also the largest, is below the word for nowhere
below-nowhere : (a : ℕ) → a ≤ largest_label → a < nowhere
below-nowhere a h = omega arith

word-label : (x : Option ℕ) → ((a : ℕ) → x ≡ Some a → a < nowhere) → answer_word x ≡ nowhere → x ≡ None
unfolding answer_word
word-label None h e = refl
word-label (Some a) h e = absurd (let b = h a refl in omega arith)

-- in the forest of any rule of the plan
module _ (s : List ℕ) (n start : ℕ) (accepted : checked s ≡ Ok (record { n = n; start = start })) (r : ℕ) (below : r < length (rules_of s)) where
  pub label-below : (p : Path) (a : ℕ) → label_at (forest (rules_of s) r) p ≡ Some a → a < nowhere
  label-below p a e =
      let P = checked-plan s n start accepted in
      let most = each-label_at (λ (x : ℕ). x ≤ largest_label) (forest (rules_of s) r) p a (forest-labels P.sound r below) e in
      below-nowhere a (omega arith)

  pub label-not-nowhere : (p : Path) → label_at (forest (rules_of s) r) p ≢ Some nowhere
  label-not-nowhere p e = let b = label-below p nowhere e in omega arith

  -- the word that a letter is answered with is that for nowhere only where it leads nowhere
  pub word-nowhere : (c : Letter) (p : Path) → answer_word (answer (forest (rules_of s) r) c p) ≡ nowhere → answer (forest (rules_of s) r) c p ≡ None
  word-nowhere c p =
      word-label (answer (forest (rules_of s) r) c p)
      (λ a e. label-below (moved (forest (rules_of s) r) c p) a (answer-label (forest (rules_of s) r) c p e))
