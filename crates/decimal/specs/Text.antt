-- What the methods of a text require and ensure.
use Rattle.std.specs.Prelude.{ℕ, ◌+◌, ◌≤◌, ◌≡◌, List, length}
use Rattle.std.specs.Borrow.{MutBor}
use Rattle.decimal.specs.Put.{Put}
use Rattle.decimal.specs.declared.Text.{Text}

-- a text has room for so many bytes more
abbrev pub Room : Text → ℕ → Type 0
Room s n = s.len + n ≤ length s.out.now

-- an empty text in a lent slice, as it was
pub record Begun (out : MutBor (List ℕ)) (s : Text) : Type 0 where
  pub same_reference : s.out.ghost_name ≡ out.ghost_name
  pub same_length : length s.out.now ≡ length out.now
  pub as_lent : s.out.now ≡ out.now
  pub empty : s.len ≡ 0

-- bytes put behind a text, in the slice that it was lent
pub record Pushed (bytes : List ℕ) (s t : Text) : Type 0 where
  pub same_reference : t.out.ghost_name ≡ s.out.ghost_name
  pub same_length : length t.out.now ≡ length s.out.now
  pub put : Put bytes s.len s.out.now t.out.now t.len
