-- A count is read as a number of eight bytes and a word: its ten bytes are these (`number-count`). Assumes nothing.
use native.Mathlib.Omega.{arith}
use Rattle.count_capped.proofs.Digits.{number-count}
use Rattle.count_capped.proofs.Count.read.Goals as goal

pub returns : goal.returns
returns c = omega (arith, number-count c.args.s.now c.args.at)
