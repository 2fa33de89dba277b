-- Cell 0 is written, and then zeros past the cells: by `stored-whole` that is the stored cursor. Assumes nothing.
use mathlib.Core.Path.{ap, ◌∙◌}
use native.Mathlib.Omega.{arith}
use Rattle.place_store.specs.Past.{cleared_past}
use Rattle.place_store.proofs.Stores.{stored-whole}
use Rattle.place_store.proofs.store.Goals as goal

pub returns : goal.returns
returns c = let a = c.args in
    c.clear_past.ensures
    ∙ ap (cleared_past a.k a.n) c.write.ensures
    ∙ stored-whole a.cursor.now a.k a.n a.word (λ i. omega (arith, c.slice_known-1.given i)) c.requires.0 c.requires.1
