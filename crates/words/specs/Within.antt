-- What a change of a list of bytes leaves alone.
use Rattle.std.specs.Prelude.{ℕ, ◌≡◌, List, length, take, drop}

-- nothing but the bytes from a to e has changed
pub record Within (a e : ℕ) (s t : List ℕ) : Type 0 where
  pub same_length : length t ≡ length s
  pub same_before : take a t ≡ take a s
  pub same_after : drop e t ≡ drop e s
