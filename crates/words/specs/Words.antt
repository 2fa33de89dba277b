-- 16-bit words one after another.
use Rattle.std.specs.Prelude.{ℕ, zero, suc, ◌+◌, List, [], ◌∷◌}
use Rattle.words.specs.Number.{number}

-- n words from an offset on
unfoldable pub words_at : List ℕ → ℕ → ℕ → List ℕ
words_at t at zero = []
words_at t at (suc n) = number 2 t at ∷ words_at t (at + 2) n
