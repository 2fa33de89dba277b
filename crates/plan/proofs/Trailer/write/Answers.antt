-- The trailer's numbers and the mark are put, as the law `put-trailer` does. Assumes nothing.
use Prim.Native.Nat.{ℕ, ◌+◌, ◌*◌}
use mathlib.Core.Path.{ap, ◌∙◌}
use mathlib.Core.List.{List}
use native.Mathlib.Omega.{arith}
use lib.Seq.{sets}
use Rattle.words.specs.Put.{put}
use Rattle.record.specs.Format.{length_of_record}
use Rattle.record.proofs.Formats.{records-most}
use Rattle.plan.specs.Check.{at_start, at_distance, at_mark, magic}
use Rattle.plan.proofs.TrailerBytes.{put-trailer}
use Rattle.plan.proofs.Trailer.write.Goals as goal

pub overflow_cast-distance-2 : goal.overflow_cast-distance-2
overflow_cast-distance-2 c = let most = records-most c.args.format c.args.n in let p = c.requires in rw c.length.ensures (omega (arith, most, p))

pub returns : goal.returns
returns c = let a = c.args in
    let f = a.format in
    let e = c.length.ensures in
    let at = length_of_record f * a.n in
    (rw e at c.sign.ensures)
    ∙ ap (λ (l : List ℕ). sets l (at + at_mark) (magic f))
    ((rw e at c.write32.ensures)
    ∙ ap (λ (l : List ℕ). put 4 l (at + at_distance) (length_of_record f * a.n))
    ((rw e at c.write16-2.ensures)
    ∙ ap (λ (l : List ℕ). put 2 l (at + at_start) a.start) (rw e at c.write16.ensures)))
    ∙ put-trailer f a.out.now at a.n a.start (omega (arith, c.requires))
