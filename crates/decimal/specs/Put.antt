-- What the writers of texts and numbers ensure.
use Rattle.std.specs.Prelude.{ℕ, ◌+◌, ◌≤◌, ◌≡◌, List, ◌++◌, length, drop}
use Rattle.std.proofs.lemmas.List.Edits.{sets}

-- a text stored from an offset on, where it has room, and the offset after it
pub record Put (text : List ℕ) (at : ℕ) (s t : List ℕ) (end : ℕ) : Type 0 where
  pub stored : t ≡ sets s at text
  pub ends : end ≡ at + length text
  pub room : at + length text ≤ length s

-- digits of a number of 64 bits, at most
abbrev pub most_digits : ℕ
most_digits = 20

-- the bytes printed next, of a text of which so many bytes were printed before
abbrev pub Next : List ℕ → ℕ → List ℕ → Type 0
Next text done bytes = drop done text ≡ bytes ++ drop (done + length bytes) text
