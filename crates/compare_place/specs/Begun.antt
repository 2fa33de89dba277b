-- The tasks that compare begins with at a place (document 02, Note 4), from the place's cells by facts of rules alone; the top task first.
use Rattle.std.specs.Prelude.{ℕ, zero, suc, ◌-◌, cond, List, [], ◌∷◌, eqb}
use Rattle.rule.specs.declared.Rule.{Rule}
use Rattle.forest.specs.Place.{Cells, Side, cell_spine, cell_run}
use Rattle.model.specs.Facts.{Facts}
use Rattle.count_passes.specs.Says.{whole, before, after}
use Rattle.spread_step.specs.Task.{task_word}
use Rattle.compare_tokens.specs.Parts.{around}

-- the B of a join
unfoldable pub left_of : Rule → ℕ → ℕ
left_of Rule.Empty a = a
left_of (Rule.Pair b c) a = a
left_of (Rule.Node x c) a = a
left_of (Rule.Fill b c) a = a
left_of (Rule.Part x b c) a = a
left_of (Rule.Join b c) a = b

-- a left step from a join: its C stands around what stands in the join's hole
unfoldable pub step_around : Rule → List ℕ → List ℕ
step_around Rule.Empty vs = vs
step_around (Rule.Pair b c) vs = vs
step_around (Rule.Node x c) vs = vs
step_around (Rule.Fill b c) vs = vs
step_around (Rule.Part x b c) vs = vs
step_around (Rule.Join b c) vs = around (task_word c before) (task_word c after) vs

-- j left steps from rule a, each around those before it, and the rule after them
unfoldable pub left_steps : (ℕ → Rule) → ℕ → ℕ → List ℕ → List ℕ
left_steps X zero a vs = vs
left_steps X (suc j) a vs = left_steps X j (left_of (X a) a) (step_around (X a) vs)

unfoldable pub left_end : (ℕ → Rule) → ℕ → ℕ → ℕ
left_end X zero a = a
left_end X (suc j) a = left_end X j (left_of (X a) a)

-- the left steps of a run from rule a to rule b, k at most; or as many as the depths of the two rules differ by
unfoldable pub steps_until : (ℕ → Rule) → ℕ → ℕ → ℕ → List ℕ → List ℕ
steps_until X zero a b vs = vs
steps_until X (suc k) a b vs = cond (eqb a b) vs (steps_until X k (left_of (X a) a) b (step_around (X a) vs))

unfoldable pub steps_by_depth : Facts → ℕ → ℕ → List ℕ → List ℕ
steps_by_depth F a b vs = left_steps F.rule (F.depth Side.left a - F.depth Side.left b) a vs

-- the C of a fill fills its spine's last hole
unfoldable pub filled_by : Rule → List ℕ
filled_by Rule.Empty = []
filled_by (Rule.Pair b c) = []
filled_by (Rule.Node x c) = []
filled_by (Rule.Fill b c) = task_word c whole ∷ []
filled_by (Rule.Part x b c) = []
filled_by (Rule.Join b c) = []

-- what stands in the hole of the part at these cells: (2, A, 0, 0) opens the spine of fill A; (3, A, B, 0) is a run of left steps, which
-- `run` takes; a right run adds nothing
unfoldable pub hole_tasks : (ℕ → Rule) → (ℕ → ℕ → List ℕ → List ℕ) → Cells → List ℕ
hole_tasks X run [] = []
hole_tasks X run (c ∷ cs) =
    cond (eqb c.0 cell_spine) (filled_by (X c.1))
    (cond (eqb c.0 (cell_run Side.left)) (run c.1 c.2 (hole_tasks X run cs))
    (cond (eqb c.0 (cell_run Side.right)) (hole_tasks X run cs)
    []))

-- the tasks of the subtree at a node with rule p: a node is one task, a part stands around what stands in its hole
unfoldable pub begun_of : Rule → ℕ → List ℕ → List ℕ
begun_of Rule.Empty p vs = []
begun_of (Rule.Pair b c) p vs = []
begun_of (Rule.Node x c) p vs = task_word p whole ∷ []
begun_of (Rule.Fill b c) p vs = []
begun_of (Rule.Part x b c) p vs = around (task_word p before) (task_word p after) vs
begun_of (Rule.Join b c) p vs = []

unfoldable pub begun_tasks : (ℕ → Rule) → (ℕ → ℕ → List ℕ → List ℕ) → ℕ → Cells → List ℕ
begun_tasks X run p cs = begun_of (X p) p (hole_tasks X run cs)
