-- Bytes are stored one after the other, and a label's behind the byte that opens its node. Assumes nothing.
use Prim.Native.Nat.{ℕ, ◌+◌, ◌≤◌}
use mathlib.Core.Path.{◌≡◌, ap, ◌∙◌}
use lib.ListN.{length, length-set}
use Rattle.words.proofs.Laws.{length-put}
use Rattle.record.specs.declared.Format.{Format}
use Rattle.forest.specs.Spelling.{in_bytes}
use Rattle.count_passes.specs.Says.{opening}
use Rattle.spread_step.specs.declared.Said.{Said}
use Rattle.spread_step.specs.Step.{said_in, said_bytes}
use Rattle.spread_stack.proofs.Stacks.{says_nothing, says-one, opening-fits, opening-said}
use native.Mathlib.Omega.{arith}
use Rattle.spread_stack.proofs.say.Goals as goal

-- what closes is one byte
one : (f : Format) (at m : ℕ) {x : Said} → x ≡ Said.Closing → at + length (said_bytes f x) ≤ m → at + 1 ≤ m
unfolding said_in in_bytes
one f at m e h = rw e at h

pub bounds-out-at : goal.bounds-out-at
bounds-out-at c = omega (arith, opening-fits _ _ _ c.in-Opening.is c.requires)

pub put_label-requires : goal.put_label-requires
put_label-requires c = simp length-set (opening-fits _ _ _ c.in-Opening.is c.requires)

pub bounds-out-at-in-Closing : goal.bounds-out-at-in-Closing
bounds-out-at-in-Closing c = omega (arith, one _ _ _ c.in-Closing.is c.requires)

pub returns-in-Nothing : goal.returns-in-Nothing
unfolding said_in in_bytes
returns-in-Nothing c = rw c.in-Nothing.is (omega arith, says_nothing _ c.args.at)

pub shape_of-out-in-Opening : goal.shape_of-out-in-Opening
shape_of-out-in-Opening c = let a = c.args in
    ap length c.put_label.ensures.1 ∙ length-put _ _ _ _ ∙ length-set a.out.now a.at opening

pub returns-in-Opening : goal.returns-in-Opening
returns-in-Opening c = opening-said _ _ _ c.in-Opening.is c.requires c.put_label.ensures

pub returns-in-Closing : goal.returns-in-Closing
unfolding said_in in_bytes
returns-in-Closing c = rw c.in-Closing.is (omega arith, says-one _ _ _ (one _ _ _ c.in-Closing.is c.requires))
