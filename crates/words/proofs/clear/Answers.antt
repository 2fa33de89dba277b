-- The loop's invariant: the first i bytes are zeros and the others are as they were. Assumes nothing.
use Prim.Native.Nat.{ℕ}
use mathlib.Core.Path.{◌≡◌, ap, ◌∙◌}
use native.Mathlib.Omega.{arith}
use borrow.Author.Fill.{fill_none, fill_more}
use Rattle.words.specs.Front.{cleared}
use Rattle.words.proofs.Front.{length-cleared}
use Rattle.words.proofs.clear.Goals as goal

pub loop-i-init : goal.loop-i-init
unfolding cleared
loop-i-init c = (c.requires, fill_none _ 0)

pub bounds-s-i : goal.bounds-s-i
bounds-s-i c = let v = c.loop-i.invariant in rw (v.1, length-cleared c.loop-i.i c.args.s.now (omega arith)) (omega arith)

pub loop-i-preserved : goal.loop-i-preserved
unfolding cleared
loop-i-preserved c = let v = c.loop-i.invariant in (v.0, rw v.1 (fill_more c.loop-i.i 0 c.args.s.now (omega arith)))

pub returns : goal.returns
returns c = let v = c.loop-i.invariant in let e : c.loop-i.i ≡ c.args.m = omega arith in v.1 ∙ ap (λ (k : ℕ). cleared k c.args.s.now) e
