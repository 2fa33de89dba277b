-- The four writes are those of `put_link`, one after the other. Assumes nothing.
use Prim.Native.Nat.{ℕ, ◌+◌}
use mathlib.Core.Path.{ap, ◌∙◌}
use mathlib.Core.List.{List}
use Rattle.work_rows.specs.Rows.{put_field}
use Rattle.facts.specs.Facts.{at_last, at_depth, at_jump, put_link_at, put_link}
use Rattle.facts.proofs.Link.write.Goals as goal

pub returns : goal.returns
unfolding put_link put_link_at
returns c = let a = c.args in
    c.put16-4.ensures
    ∙ ap (λ (l : List ℕ). put_field 2 l a.r (c.link_offset-at.result + at_jump) a.self.jump) (c.put16-3.ensures
    ∙ ap (λ (l : List ℕ). put_field 2 l a.r (c.link_offset-at.result + at_depth) a.self.depth) (c.put16-2.ensures
    ∙ ap (λ (l : List ℕ). put_field 2 l a.r (c.link_offset-at.result + at_last) a.self.last) c.put16.ensures))
    ∙ ap (λ (o : ℕ). put_link_at a.work.now o a.r a.self) c.link_offset-at.ensures.at
