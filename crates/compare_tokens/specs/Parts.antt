-- The subtree at a node as parts of expressions, one after another: what compare begins with (document 02, Note 4). A node is one whole
-- part; a part stands around what stands in its hole, which the crumbs of its spine say.
use Rattle.std.specs.Prelude.{ℕ, List, [], ◌∷◌, ◌++◌, map}
use Rattle.forest.specs.Expression.{Expression, rule_number}
use Rattle.forest.specs.Spelling.{Spelling}
use Rattle.forest.specs.Place.{Side}
use Rattle.forest.specs.Position.{Position}
use Rattle.count_passes.specs.Says.{whole, before, after, spoken}
use Rattle.spread_step.specs.Task.{task_word}

-- an expression, and which part of it: whole, before its hole, or after it
abbrev pub Part : Type 0
Part = Expression × ℕ

-- the first, some, and the last
abbrev pub around : {A : Type 0} → A → A → List A → List A
around x y zs = x ∷ (zs ++ (y ∷ []))

-- what stands in the hole of the part at z: a fill's C; at the left of a join, the join's C around what stands in the join's own hole
unfoldable pub in_hole : Position → List Part
in_hole (Position.start e) = []
in_hole (Position.node_row r a c z) = []
in_hole (Position.part_row s r a b c z) = []
in_hole (Position.pair_side s r b c z) = []
in_hole (Position.node_spine r a c z) = []
in_hole (Position.fill_spine r b c z) = (c, whole) ∷ []
in_hole (Position.join_side Side.left r b c z) = around (c, before) (c, after) (in_hole z)
in_hole (Position.join_side Side.right r b c z) = in_hole z

-- the parts of the subtree at the node e at z
unfoldable pub subtree_parts : Expression → Position → List Part
subtree_parts (Expression.empty r) z = []
subtree_parts (Expression.pair r b c) z = []
subtree_parts (Expression.node r a c) z = (Expression.node r a c, whole) ∷ []
subtree_parts (Expression.fill r b c) z = []
subtree_parts (Expression.part r a b c) z = around (Expression.part r a b c, before) (Expression.part r a b c, after) (in_hole z)
subtree_parts (Expression.join r b c) z = []

-- what parts say
unfoldable pub parts_spoken : Spelling → List Part → List ℕ
parts_spoken x [] = []
parts_spoken x (y ∷ ys) = spoken x y.0 y.1 ++ parts_spoken x ys

-- the task of a part
abbrev pub part_task : Part → ℕ
part_task y = task_word (rule_number y.0) y.1

abbrev pub part_tasks : List Part → List ℕ
part_tasks ys = map part_task ys
