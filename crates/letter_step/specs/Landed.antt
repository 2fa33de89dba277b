-- What a letter came to, by the state of the walk.
use Rattle.std.specs.Prelude.{ℕ}
use Rattle.letter_arrival.specs.declared.Landing.{Landing}
use Rattle.letter_arrival.specs.declared.Standing.{Standing}

-- what a letter came to, by the state that it left and its answer
abbrev pub landed : Standing → ℕ → Landing
landed at answer = record { at = at; answer = answer }
