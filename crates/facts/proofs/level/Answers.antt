-- The loop's invariant: what is left to climb from x is what was left from a. Both a jump and a step keep it, and come closer to the
-- end of the way. Assumes nothing.
use Prim.Native.Nat.{ℕ, suc, ◌-◌, ◌<◌}
use mathlib.Core.Path.{◌≡◌, refl, sym, ap, ◌∙◌}
use native.Mathlib.Omega.{arith}
use Rattle.model.specs.Run.{along}
use Rattle.side.specs.Side.{side_of}
use Rattle.facts.specs.Facts.{facts_in}
use Rattle.facts.proofs.Climb.{Onward, jump-onward, step_falls, step-onward, still}
use Rattle.facts.proofs.level.Goals as goal

pub loop-side-init : goal.loop-side-init
loop-side-init c = (c.requires.1, refl)

pub depth_at-requires : goal.depth_at-requires
depth_at-requires c = c.loop-side.invariant.0

pub overflow_cast-depth_at : goal.overflow_cast-depth_at
overflow_cast-depth_at c = omega arith

pub jump_at-jump-requires : goal.jump_at-jump-requires
jump_at-jump-requires c = c.loop-side.invariant.0

pub depth_at-requires-in-loop-side : goal.depth_at-requires-in-loop-side
depth_at-requires-in-loop-side c = (jump-onward c.requires.0 _ _ c.loop-side.invariant.0 (omega (arith, c.depth_at.ensures)) _ c.jump_at-jump.ensures).inside

pub overflow_cast-depth_at-in-loop-side : goal.overflow_cast-depth_at-in-loop-side
overflow_cast-depth_at-in-loop-side c = omega arith

pub loop-side-smaller-then-h-depth_at : goal.loop-side-smaller-then-h-depth_at
loop-side-smaller-then-h-depth_at c = (jump-onward c.requires.0 _ _ c.loop-side.invariant.0 (omega (arith, c.depth_at.ensures)) _ c.jump_at-jump.ensures).fewer

pub loop-side-preserved-then-h-depth_at : goal.loop-side-preserved-then-h-depth_at
loop-side-preserved-then-h-depth_at c = let o = jump-onward c.requires.0 _ _ c.loop-side.invariant.0 (omega (arith, c.depth_at.ensures)) _ c.jump_at-jump.ensures in
    let low = c.depth_at-in-loop-side.ensures in
    (o.inside, c.loop-side.invariant.1 ∙ still _ _ _ _ _ o (omega arith))

pub toward_at-x-requires : goal.toward_at-x-requires
toward_at-x-requires c = c.loop-side.invariant.0

pub loop-side-smaller : goal.loop-side-smaller
loop-side-smaller c = (step-onward c.requires.0 _ _ c.loop-side.invariant.0 (omega (arith, c.depth_at.ensures)) _ c.toward_at-x.ensures).fewer

pub loop-side-preserved : goal.loop-side-preserved
loop-side-preserved c = let d = step_falls c.requires.0 (side_of c.args.side) _ c.loop-side.invariant.0 (omega (arith, c.depth_at.ensures)) _ c.toward_at-x.ensures in
    let above = c.depth_at.ensures in
    let o = step-onward c.requires.0 _ _ c.loop-side.invariant.0 (omega (arith, c.depth_at.ensures)) _ c.toward_at-x.ensures in
    (o.inside, c.loop-side.invariant.1 ∙ still _ _ _ _ _ o (omega arith))

pub returns : goal.returns
unfolding along
returns c = let e = c.depth_at.ensures in
    let none : (facts_in c.args.work.now).depth (side_of c.args.side) c.loop-side.x - c.args.h ≡ 0 = omega arith in
    (sym (c.loop-side.invariant.1 ∙ ap (λ (m : ℕ). along (facts_in c.args.work.now) (side_of c.args.side) m c.loop-side.x) none), c.loop-side.invariant.0)
