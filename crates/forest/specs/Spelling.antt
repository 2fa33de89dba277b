-- Forests written as lists, whatever a node is opened and closed by: spread's text (document 01, "Spread") is one such spelling, and
-- the tokens that compare reads (document 02, Note 4) are another.
use Rattle.std.specs.Prelude.{ℕ, suc, List, [], ◌∷◌, ◌++◌}
use Rattle.words.specs.Number.{bytes}
use Rattle.record.specs.declared.Format.{Format}
use Rattle.record.specs.Format.{label_length}
use Rattle.forest.specs.Forest.{Forest}

-- what opens a node with a label, and what closes it
pub record Spelling : Type 0 where
  pub opens : ℕ → List ℕ
  pub closes : List ℕ

unfoldable pub spelled : Spelling → Forest ℕ → List ℕ
spelled x Forest.none = []
spelled x (Forest.tree a c g) = x.opens a ++ (spelled x c ++ (x.closes ++ spelled x g))

-- spread's bytes, "(" label children ")": a forest so spelled is its text (proofs/Spelled)
unfoldable pub in_bytes : Format → Spelling
in_bytes f = record { opens = λ a. 40 ∷ bytes (label_length f) a; closes = 41 ∷ [] }

-- a token for each: one more than the label, and 0
unfoldable pub in_tokens : Spelling
in_tokens = record { opens = λ a. suc a ∷ []; closes = 0 ∷ [] }
