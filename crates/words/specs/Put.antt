-- A whole number written into a list of bytes, low byte first: what the code's writers leave. No operation's outcome speaks of it.
use Rattle.std.specs.Prelude.{ℕ, List}
use Rattle.std.proofs.lemmas.List.Edits.{sets}
use Rattle.words.specs.Number.{bytes}

-- s with the w bytes from offset at on those of v
unfoldable pub put : ℕ → List ℕ → ℕ → ℕ → List ℕ
put w s at v = sets s at (bytes w v)
