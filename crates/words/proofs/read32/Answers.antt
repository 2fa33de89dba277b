-- `read32` is the sum of its four bytes, each times its power of 256, which is what `number 4` unfolds to. Assumes nothing.
use Prim.Native.Nat.{ℕ}
use native.Mathlib.Omega.{arith}
use mathlib.Core.List.{List}
use mathlib.Core.Path.{ap, ◌∙◌}
use Rattle.words.specs.Number.{number}
use Rattle.words.proofs.Library.{number-part}
use Rattle.words.proofs.read32.Goals as goal

pub returns : goal.returns
unfolding number
returns c =
    let taken = rw c.unwrap.ensures at c.try_into.ensures.1 in
    let same = ap (λ (l : List ℕ). number 4 l 0) taken.same ∙ number-part 4 c.args.s.now c.args.at in
    omega (arith, same, c.from_le_bytes.ensures)
