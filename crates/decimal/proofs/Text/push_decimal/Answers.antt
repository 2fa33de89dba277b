-- The library's digits, pushed as bytes. Assumes nothing.
use Prim.Native.Nat.{ℕ}
use native.Mathlib.Omega.{arith}
use mathlib.Core.Path.{ap, subst, ◌∙◌}
use mathlib.Core.List.{List}
use lib.ListN.{length}
use Rattle.decimal.specs.Text.{Pushed}
use Rattle.decimal.proofs.Decimals.{same_digits}
use Rattle.decimal.proofs.Text.push_decimal.Goals as goal

pub push_bytes-requires : goal.push_bytes-requires
push_bytes-requires c = omega (arith, ap length (same_digits (omega arith) (c.as_bytes.ensures.value ∙ c.format.ensures.text)))

pub returns : goal.returns
returns c =
    subst (λ (l : List ℕ). Pushed l c.args.self.now c.push_bytes.new.self)
    (same_digits (omega arith) (c.as_bytes.ensures.value ∙ c.format.ensures.text)) c.push_bytes.ensures
