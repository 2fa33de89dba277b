-- Blanks for the columns that the digits leave, and the digits. Assumes nothing.
use native.Mathlib.Omega.{arith}
use mathlib.Core.Path.{ap, ◌∙◌}
use lib.ListN.{length}
use Rattle.decimal.specs.Decimal.{decimal}
use Rattle.decimal.proofs.Decimals.{same_digits}
use Rattle.decimal.proofs.Texts.{pushed_both, pushed_as}
use Rattle.page_line.proofs.Lines.{pushed-so, right-long, right_is}
use Rattle.page_line.proofs.put_right.Goals as goal

pub overflow_sub-width : goal.overflow_sub-width
overflow_sub-width c = omega (arith, ap length (same_digits (omega arith) c.format-digits.ensures.text), c.requires.0)

pub push_bytes-requires : goal.push_bytes-requires
push_bytes-requires c = let digits = same_digits (omega arith) c.format-digits.ensures.text in
    omega (arith, ap length digits, c.requires.0, ap length c.as_bytes.ensures.value, c.put_blanks.ensures.0.same_length)

pub returns : goal.returns
returns c =
    let digits = same_digits (omega arith) c.format-digits.ensures.text in
    pushed-so c.args.width (right-long c.args.width (decimal c.args.v) c.requires.0)
    (pushed_as (right_is c.args.width c.args.v (ap length digits))
    (pushed_both c.put_blanks.ensures.0 (pushed_as (c.as_bytes.ensures.value ∙ digits) c.push_bytes.ensures)))
