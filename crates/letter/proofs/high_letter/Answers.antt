-- From p on, but for s, they are p, u and z. Assumes nothing.
use mathlib.Core.Path.{sym}
use native.Mathlib.Omega.{arith}
use Rattle.forest.specs.Letter.{letter_of}
use Rattle.letter.specs.Letter.{move_of}
use Rattle.letter.proofs.Bytes.{no-letter}
use Rattle.letter.proofs.high_letter.Goals as goal

pub returns-then-b-eq112 : goal.returns-then-b-eq112
unfolding move_of letter_of
returns-then-b-eq112 c = rw c.if-b-eq112.true

pub returns-then-b-eq117 : goal.returns-then-b-eq117
unfolding move_of letter_of
returns-then-b-eq117 c = rw c.if-b-eq117.true

pub returns-then-b-eq122 : goal.returns-then-b-eq122
unfolding move_of letter_of
returns-then-b-eq122 c = rw c.if-b-eq122.true

pub returns : goal.returns
returns c = let b = c.args.b in
    let not-1 = c.if-b-eq112.false in
    let not-2 = c.if-b-eq117.false in
    let not-3 = c.if-b-eq122.false in
    sym (no-letter b (λ q. omega arith) not-3 (λ q. omega arith) (λ q. omega arith) (λ q. omega arith) not-1 not-2 c.requires.1)
