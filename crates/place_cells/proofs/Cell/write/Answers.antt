-- The four writes are those of `put_cell`, one after the other. Assumes nothing.
use Prim.Native.Nat.{ℕ, ◌+◌, ◌*◌}
use mathlib.Core.Path.{ap, ◌∙◌}
use mathlib.Core.List.{List}
use Rattle.words.specs.Put.{put}
use Rattle.record.specs.Record.{word_length}
use Rattle.forest.specs.Walk.{cell_length}
use Rattle.place_cells.specs.Cells.{put_cell}
use Rattle.place_cells.proofs.Cell.write.Goals as goal

pub returns : goal.returns
unfolding put_cell
returns c = let a = c.args in
    c.write_changed.ensures
    ∙ ap (λ (l : List ℕ). put word_length l (cell_length * a.i + 3 * word_length) a.self.three) (c.write16-3.ensures
    ∙ ap (λ (l : List ℕ). put word_length l (cell_length * a.i + 2 * word_length) a.self.two) (c.write16-2.ensures
    ∙ ap (λ (l : List ℕ). put word_length l (cell_length * a.i + word_length) a.self.one) c.write16.ensures))
