-- The four writes are those of `put_row`, one after the other. Assumes nothing.
use Prim.Native.Nat.{ℕ, ◌+◌}
use mathlib.Core.Path.{ap, ◌∙◌}
use mathlib.Core.List.{List}
use Rattle.work_rows.specs.Rows.{put_field, put_row, at_label, at_one, at_two}
use Rattle.work_rows.proofs.Row.write.Goals as goal

pub returns : goal.returns
unfolding put_row
returns c = let a = c.args in
    c.put16-3.ensures
    ∙ ap (λ (l : List ℕ). put_field 2 l a.r (a.offset + at_two) a.self.two) (c.put16-2.ensures
    ∙ ap (λ (l : List ℕ). put_field 2 l a.r (a.offset + at_one) a.self.one) (c.put32.ensures
    ∙ ap (λ (l : List ℕ). put_field 4 l a.r (a.offset + at_label) a.self.label) c.put16.ensures))
