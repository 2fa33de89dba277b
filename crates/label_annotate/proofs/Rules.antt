-- Rows that hold the rules of a sound plan may be annotated; they hold them after it, each with the word of its own rule. Assumes nothing.
use Rattle.std.specs.Prelude.{Ok}
use Prim.Native.Nat.{ℕ, ◌*◌, ◌≤◌}
use native.Mathlib.Omega.{arith}
use mathlib.Core.Path.{◌≡◌, sym, subst}
use mathlib.Core.List.{List}
use lib.ListN.{length}
use lib.Dec.{T}
use Rattle.rule.specs.declared.Rule.{Rule}
use Rattle.rule.specs.Rule.{labelled}
use Rattle.rule.specs.Sound.{Sound}
use Rattle.label_rows.specs.declared.LabelRow.{LabelRow}
use Rattle.label_rows.specs.Coverage.{coverage}
use Rattle.work_rows.specs.Rows.{row_length, Holds}
use Rattle.label_annotate.specs.Annotated.{Annotatable}

module _ (R : List Rule) (rows : List LabelRow) (n : ℕ) (s : List ℕ) (held : Holds R s n) where
  pub sound-annotatable : (rank : ℕ → ℕ) → Sound R rank → length R ≡ n → coverage rows ≡ Ok tt → row_length * n ≤ length s
      → Annotatable rows n s
  unfolding Holds
  sound-annotatable rank sound long whole room =
      record {
        sound = λ some. whole;
        room = room;
        labels = λ r below. subst (λ (x : Rule). T (labelled x)) (sym (held r below)) (sound.labels r (omega arith));
      }
