-- A text put at the front is printed. Assumes nothing.
use Prim.Native.Nat.{ℕ}
use native.Mathlib.Omega.{arith}
use native.Mathlib.Nat.{zero-add}
use mathlib.Core.Path.{ap, ◌∙◌}
use mathlib.Core.List.{List, ◌++◌}
use lib.ListN.{length, drop, length-take}
use lib.Seq.{sets-eq}
use Rattle.words.specs.Front.{in_front}
use Rattle.decimal.specs.Put.{Put}
use Rattle.stroll_output.specs.Printed.{Printed}
use Rattle.decimal.proofs.Puts.{put-length}

pub put-printed : {a s t : List ℕ} {end : ℕ} → Put a 0 s t end → Printed a s t end
unfolding in_front
put-printed {a} {s} {t} {end} P =
    let l = put-length P in
    record {
      front = P.stored ∙ sets-eq a s 0 P.room ∙ ap (λ (k : ℕ). a ++ drop k s) (zero-add (length a));
      counts = omega arith;
      within = omega arith;
      taken = omega (arith, length-take end t);
    }
