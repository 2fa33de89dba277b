-- From l on and below p they are l and n. Assumes nothing.
use mathlib.Core.Path.{sym}
use native.Mathlib.Omega.{arith}
use Rattle.forest.specs.Letter.{letter_of}
use Rattle.letter.specs.Letter.{move_of}
use Rattle.letter.proofs.Bytes.{no-letter}
use Rattle.letter.proofs.middle_letter.Goals as goal

pub returns-then-b-eq108 : goal.returns-then-b-eq108
unfolding move_of letter_of
returns-then-b-eq108 c = rw c.if-b-eq108.true

pub returns-then-b-eq110 : goal.returns-then-b-eq110
unfolding move_of letter_of
returns-then-b-eq110 c = rw c.if-b-eq110.true

pub returns : goal.returns
returns c = let b = c.args.b in
    let not-1 = c.if-b-eq108.false in
    let not-2 = c.if-b-eq110.false in
    sym (no-letter b (λ q. omega arith) (λ q. omega arith) (λ q. omega arith) not-1 not-2 (λ q. omega arith) (λ q. omega arith) (λ q. omega arith))
