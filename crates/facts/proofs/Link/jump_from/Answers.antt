-- The test of the jumps' lengths is that of `jump_over`, on the words read. Assumes nothing.
use Prim.Native.Nat.{ℕ, ◌+◌}
use mathlib.Core.Path.{◌≡◌, sym, ◌∙◌}
use mathlib.Core.Bool.{cond, ◌&&◌}
use mathlib.Core.List.{List}
use lib.Dec.{eqb, ltb}
use Rattle.forest.specs.Place.{Side}
use Rattle.facts.specs.Facts.{facts_in, link_in, In}
use Rattle.side.specs.Side.{side_of}
use Rattle.facts.specs.Build.{jump_over, jump_from, Steps}
use Rattle.facts.proofs.Link.jump_from.Goals as goal

-- the jump, by what the rows hold
chosen : (t : List ℕ) (s : Side) (p first second high middle low : ℕ) → first ≡ (link_in t s p).jump → second ≡ (link_in t s first).jump
    → high ≡ (facts_in t).depth s p → middle ≡ (facts_in t).depth s first → low ≡ (facts_in t).depth s second
    → jump_from t s p ≡ cond (ltb middle high && eqb (middle + middle) (high + low)) second p
unfolding jump_from jump_over
chosen t s p first second high middle low e₁ e₂ e₃ e₄ e₅ = rw (e₅, e₄, e₃, e₂, e₁)

second-there : (t : List ℕ) (s : Side) (p first second : ℕ) → Steps t s p → first ≡ (link_in t s p).jump → second ≡ (link_in t s first).jump
    → In t second
second-there t s p first second h e₁ e₂ = rw (e₂, e₁) h.beyond

pub depth_at-low-requires : goal.depth_at-low-requires
depth_at-low-requires c = second-there c.args.work.now _ _ _ _ c.requires c.jump_at-first.ensures c.jump_at-second.ensures

pub returns-then-middle-high : goal.returns-then-middle-high
returns-then-middle-high c = let a = c.args in
    sym (chosen a.work.now (side_of a.side) a.p _ _ _ _ _ c.jump_at-first.ensures c.jump_at-second.ensures c.depth_at-high.ensures c.depth_at-middle.ensures c.depth_at-low.ensures
    ∙ rw c.if-middle-high.true)

pub returns : goal.returns
returns c = let a = c.args in
    sym (chosen a.work.now (side_of a.side) a.p _ _ _ _ _ c.jump_at-first.ensures c.jump_at-second.ensures c.depth_at-high.ensures c.depth_at-middle.ensures c.depth_at-low.ensures
    ∙ rw c.if-middle-high.false)
