-- Forests, their counts and their text (document 01, "Measure" and "Spread").
use Rattle.std.specs.Prelude.{ℕ, suc, ◌+◌, max, List, [], ◌∷◌, ◌++◌}
use Rattle.words.specs.Number.{bytes}
use Rattle.record.specs.declared.Format.{Format}
use Rattle.record.specs.Format.{label_length}
use Rattle.rule.specs.declared.Rule.{Rule}
use Rattle.forest.specs.Expression.{expression}
use Rattle.forest.specs.Algebra.{Hedge, value}

-- "a list of trees, a tree being a label and a list of trees": nothing, or the first tree's label, its children, and the
-- trees after it
pub data Forest (A : Type 0) : Type 0 where
  none : Forest A
  tree : A → Forest A → Forest A → Forest A

-- the trees of one forest, then those of another
unfoldable pub append : {A : Type 0} → Forest A → Forest A → Forest A
append none g = g
append (tree a c f) g = tree a c (append f g)

-- a hedge without a hole is a forest (a hole, which no closed value has, would be left out)
unfoldable pub trees : Hedge → Forest ℕ
trees Hedge.ε = none
trees (Hedge.hole f) = trees f
trees (Hedge.node a c f) = tree a (trees c) (trees f)

-- the forest of rule r
unfoldable pub forest : List Rule → ℕ → Forest ℕ
unfolding trees value expression
forest R r = trees (value (expression R r))

-- "trees": the number of trees
unfoldable pub count : {A : Type 0} → Forest A → ℕ
count none = 0
count (tree a c f) = suc (count f)

-- the sum over all nodes of a weight that the label gives; "entries (all nodes)" have weight 1
unfoldable pub weigh : {A : Type 0} → (A → ℕ) → Forest A → ℕ
weigh w none = 0
weigh w (tree a c f) = w a + weigh w c + weigh w f

abbrev pub one : {A : Type 0} → A → ℕ
one a = 1

-- "levels"
unfoldable pub levels : {A : Type 0} → Forest A → ℕ
levels none = 0
levels (tree a c f) = max (suc (levels c)) (levels f)

-- "It writes "(" label children ")" for each node in reading order"; Note 2: "a wide label as three bytes, low first"
unfoldable pub text : Format → Forest ℕ → List ℕ
text f none = []
text f (tree a c g) = 40 ∷ (bytes (label_length f) a ++ (text f c ++ (41 ∷ text f g)))
