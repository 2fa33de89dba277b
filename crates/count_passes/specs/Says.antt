-- The text of an expression, by recursion (document 01, "Spread"): whole, or of a holed expression what stands before its hole and
-- what stands after it. Proved in proofs/: this is the text of the forest that the expression is worth.
use Rattle.std.specs.Prelude.{ℕ, cond, List, [], ◌∷◌, ◌++◌, eqb}
use Rattle.words.specs.Number.{bytes}
use Rattle.record.specs.declared.Format.{Format}
use Rattle.record.specs.Format.{label_length}
use Rattle.forest.specs.Expression.{Expression}
use Rattle.forest.specs.Spelling.{Spelling, in_bytes}

-- which part of the text
abbrev pub whole : ℕ
whole = 0

abbrev pub before : ℕ
before = 1

abbrev pub after : ℕ
after = 2

-- "(" and ")"
abbrev pub opening : ℕ
opening = 40

abbrev pub closing : ℕ
closing = 41

-- "(" and a label: one byte or three, by the format
abbrev pub opened : Format → ℕ → List ℕ
opened f a = opening ∷ bytes (label_length f) a

-- the same in any spelling: what opens a node, and what closes it
unfoldable pub spoken : Spelling → Expression → ℕ → List ℕ
spoken x (Expression.empty r) p = []
spoken x (Expression.pair r b c) p = spoken x b whole ++ spoken x c whole
spoken x (Expression.node r a c) p = x.opens a ++ (spoken x c whole ++ x.closes)
spoken x (Expression.fill r b c) p = spoken x b before ++ (spoken x c whole ++ spoken x b after)
spoken x (Expression.part r a b c) p = cond (eqb p before) (x.opens a ++ spoken x b whole) (spoken x c whole ++ x.closes)
spoken x (Expression.join r b c) p = cond (eqb p before) (spoken x b before ++ spoken x c before) (spoken x c after ++ spoken x b after)

-- in bytes
abbrev pub says : Format → Expression → ℕ → List ℕ
says f e p = spoken (in_bytes f) e p
