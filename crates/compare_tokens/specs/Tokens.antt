-- Two forests compared token by token (document 02, Note 4). A node's level below the top is never written down: a token for where a node
-- opens, with its label, and one for where it closes say the same (proofs/Difference, `same-difference`).
use Rattle.std.specs.Prelude.{ℕ, suc, ◌+◌, true, false, cond, List, [], ◌∷◌, eqb}
use Rattle.forest.specs.Forest.{Forest}
use Rattle.forest.specs.Spelling.{spelled, in_tokens}
use Rattle.forest.specs.Compare.{Found, further}

-- the tokens of a forest: tokens (tree a c f) = suc a ∷ tokens c ++ 0 ∷ tokens f
abbrev pub tokens : Forest ℕ → List ℕ
tokens g = spelled in_tokens g

-- the token that closes a node
abbrev pub closing : ℕ
closing = 0

-- the first difference, or the end of one list, is the next node's; equal openings count one, equal closings nothing
unfoldable pub differs : List ℕ → List ℕ → Found
differs [] [] = (true, 0)
differs [] (y ∷ ys) = (false, 1)
differs (x ∷ xs) [] = (false, 1)
differs (x ∷ xs) (y ∷ ys) = cond (eqb x y) (cond (eqb x closing) (differs xs ys) (further (differs xs ys))) (false, 1)

-- the nodes that a list of tokens opens
unfoldable pub openings : List ℕ → ℕ
openings [] = 0
openings (x ∷ xs) = cond (eqb x closing) (openings xs) (suc (openings xs))

-- after k pairs that agree
abbrev pub ahead : ℕ → Found → Found
ahead k x = (x.0, k + x.1)
