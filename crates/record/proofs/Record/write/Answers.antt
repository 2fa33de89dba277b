-- Words stored one after the other are the record's bytes, by the law `record-put`. Assumes nothing.
use Prim.Native.Nat.{ℕ, ◌+◌, ◌*◌}
use mathlib.Core.Path.{ap, ◌∙◌}
use mathlib.Core.List.{List}
use Rattle.words.specs.Put.{put}
use Rattle.record.specs.Format.{word_length, high_length}
use Rattle.record.proofs.Records.{record-put}
use Rattle.record.proofs.Record.write.Goals as goal

pub returns : goal.returns
returns c = let a = c.args in
    c.write_high.ensures
    ∙ ap (λ (l : List ℕ). put (high_length a.format) l (a.at + 4 * word_length) a.self.high)
    (c.write16-4.ensures
    ∙ ap (λ (l : List ℕ). put word_length l (a.at + 3 * word_length) a.self.three)
    (c.write16-3.ensures
    ∙ ap (λ (l : List ℕ). put word_length l (a.at + 2 * word_length) a.self.two)
    (c.write16-2.ensures
    ∙ ap (λ (l : List ℕ). put word_length l (a.at + word_length) a.self.one) c.write16.ensures)))
    ∙ record-put a.format a.self a.s.now a.at c.requires
