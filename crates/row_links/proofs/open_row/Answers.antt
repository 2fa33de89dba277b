-- The two links are written as `opens_row` has them. Assumes nothing.
use Prim.Native.Nat.{ℕ}
use mathlib.Core.Path.{ap, ◌∙◌}
use mathlib.Core.List.{List}
use Rattle.words.specs.Put.{put}
use Rattle.record.specs.Record.{word_length}
use Rattle.row_links.specs.Links.{link_at, opens_row}
use Rattle.row_links.proofs.open_row.Goals as goal

pub returns : goal.returns
unfolding opens_row
returns c = let a = c.args in
    let t = a.rows.now in
    c.write_link-2.ensures
    ∙ ap (λ (l : List ℕ). put word_length l (link_at t 0) a.i) c.write_link.ensures
    ∙ ap (λ (v : ℕ). put word_length (put word_length a.cursor.now (link_at t a.i) v) (link_at t 0) a.i) c.read_link-row.ensures.0
