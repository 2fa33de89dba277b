-- Where the word is there already, putting it changes nothing. Assumes nothing.
use mathlib.Core.Path.{◌≡◌, sym, ap, ◌∙◌}
use native.Mathlib.Omega.{arith}
use Rattle.words.specs.Number.{number}
use Rattle.words.specs.Put.{put}
use Rattle.words.proofs.Laws.{put-there}
use Rattle.record.specs.Record.{word_length}
use Rattle.place_cells.proofs.write_changed.Goals as goal

pub returns-else-read16-v : goal.returns-else-read16-v
returns-else-read16-v c = let a = c.args in
    let s = a.s.now in
    let there : a.v ≡ number word_length s a.at = omega arith in
    sym
    (ap (put word_length s a.at) there
    ∙ put-there word_length s a.at c.requires (λ i. omega (arith, c.slice_known-1.given i)))
