-- Below l the letters are a and f. Assumes nothing.
use mathlib.Core.Path.{sym}
use native.Mathlib.Omega.{arith}
use Rattle.forest.specs.Letter.{letter_of}
use Rattle.letter.specs.Letter.{move_of}
use Rattle.letter.proofs.Bytes.{no-letter}
use Rattle.letter.proofs.low_letter.Goals as goal

pub returns-then-b-eq97 : goal.returns-then-b-eq97
unfolding move_of letter_of
returns-then-b-eq97 c = rw c.if-b-eq97.true

pub returns-then-b-eq102 : goal.returns-then-b-eq102
unfolding move_of letter_of
returns-then-b-eq102 c = rw c.if-b-eq102.true

pub returns : goal.returns
returns c = let b = c.args.b in
    let not-1 = c.if-b-eq97.false in
    let not-2 = c.if-b-eq102.false in
    sym (no-letter b not-1 (λ q. omega arith) not-2 (λ q. omega arith) (λ q. omega arith) (λ q. omega arith) (λ q. omega arith) (λ q. omega arith))
