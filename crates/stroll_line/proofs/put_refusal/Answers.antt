-- Five texts one after the other; a number of 32 bits has at most ten digits, one of 64 bits at most twenty. Assumes nothing.
use native.Mathlib.Omega.{arith}
use Rattle.std.proofs.Common.{rules}
use Rattle.decimal.proofs.Texts.{pushed_both, pushed_as, pushed_front}
use Rattle.decimal.proofs.Decimals.{decimal-length}
use Rattle.stroll_line.proofs.Shown.{refused-text}
use Rattle.stroll_line.proofs.put_refusal.Goals as goal

pub push_decimal-requires : goal.push_decimal-requires
push_decimal-requires c = omega (arith, decimal-length 9 c.number.result (omega (arith, c.number.type_inv)))

pub push_bytes-requires-2 : goal.push_bytes-requires-2
push_bytes-requires-2 c = let n = c.number in
    omega (arith, decimal-length 9 n.result (omega (arith, n.type_inv)))

pub push_decimal-requires-2 : goal.push_decimal-requires-2
push_decimal-requires-2 c = let n = c.number in
    let p = c.position in
    omega (arith, decimal-length 9 n.result (omega (arith, n.type_inv)), decimal-length 19 p.result (omega (arith, p.type_inv)))

pub push-requires : goal.push-requires
push-requires c = let n = c.number in
    let p = c.position in
    omega (arith, decimal-length 9 n.result (omega (arith, n.type_inv)), decimal-length 19 p.result (omega (arith, p.type_inv)))

pub returns : goal.returns
returns c =
    let text = pushed_both c.push_bytes.ensures
    (pushed_both c.push_decimal.ensures (pushed_both c.push_bytes-2.ensures (pushed_both c.push_decimal-2.ensures c.push.ensures))) in
    pushed_front c.new-text.ensures (pushed_as (refused-text _ c.number.ensures c.position.ensures) text) (search rules) (search rules)
