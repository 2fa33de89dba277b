-- A stack of tasks that grows at both ends, as compare begins with (document 02, Note 4): what stands around its tasks, runs of left
-- steps over them, and the room that they take.
use Rattle.std.specs.Prelude.{ℕ, ◌+◌, ◌*◌, ◌≤◌, ◌<◌, ◌≡◌, Bool, true, false, cond, ◌||◌, List, [], length, eqb}
use Rattle.record.specs.Record.{word_length}
use Rattle.rule.specs.declared.Rule.{Rule}
use Rattle.rule.specs.Sound.{rule, Sound}
use Rattle.forest.specs.Place.{Cell, Side, cell_row, cell_spine, cell_run}
use Rattle.forest.specs.Walk.{cell_at, cells_in}
use Rattle.work_rows.specs.Rows.{row_length, first_rules, Within}
use Rattle.spread_step.specs.Task.{task_limit}
use Rattle.spread_stack.specs.Stack.{tasks_in}
use Rattle.compare_place.specs.Begun.{steps_until, filled_by, hole_tasks}
use Rattle.place_cells.specs.Cells.{Lies}
use Rattle.compare_begin.specs.declared.Begun.{Begun}

-- the tasks of a stack, the top first
abbrev pub tasks_of : List ℕ → Begun → List ℕ
tasks_of t x = tasks_in t x.from x.tasks

-- the rules that n rows keep, and how a run of left steps is taken by them: until its end
abbrev pub kept_rule : List ℕ → ℕ → ℕ → Rule
kept_rule t n = rule (first_rules t n)

abbrev pub kept_run : List ℕ → ℕ → ℕ → ℕ → List ℕ → List ℕ
kept_run t n = steps_until (kept_rule t n) n

-- Room for a stack that has grown to m tasks, at both ends alike, behind the byte low: from + tasks stays as it is.
pub record Room (low m : ℕ) (x : Begun) (t : List ℕ) : Type 0 where
  pub below : low + m ≤ x.from + x.tasks
  pub above : x.from + x.tasks + m ≤ length t

-- the stack x has grown to y, which has the tasks vs; nothing but y's bytes has changed
pub record Grown (vs : List ℕ) (x y : Begun) (s t : List ℕ) : Type 0 where
  pub tasks : tasks_of t y ≡ vs
  pub alike : y.from + y.tasks ≡ x.from + x.tasks
  pub lower : y.from ≤ x.from
  pub within : Within y.from (y.from + word_length * y.tasks) s t

-- a stack with the tasks vs, laid down at byte at with one task or none and grown from there at both ends alike; nothing else has changed
pub record Laid (at : ℕ) (vs : List ℕ) (y : Begun) (s t : List ℕ) : Type 0 where
  pub tasks : tasks_of t y ≡ vs
  pub least : at ≤ y.from + y.tasks
  pub most : y.from + y.tasks ≤ at + 1
  pub lower : y.from ≤ at
  pub within : Within y.from (y.from + word_length * y.tasks) s t

-- the rows keep a sound plan's rules, whose tasks are words
pub record SoundRows (n : ℕ) (t : List ℕ) : Type 0 where
  pub rank : ℕ → ℕ
  pub sound : Sound (first_rules t n) rank
  pub few : n ≤ task_limit

-- a run of left steps from rule a to rule b can be taken over a stack
pub record LeftRun (n a b : ℕ) (x : Begun) (t : List ℕ) : Type 0 where
  pub rows : SoundRows n t
  pub inside : a < n
  pub room : Room (row_length * n) (length (kept_run t n a b (tasks_of t x))) x t

-- whether a cell of this kind is a run
unfoldable pub is_run : ℕ → Bool
unfolding cell_run
is_run k = eqb k (cell_run Side.left) || eqb k (cell_run Side.right)

-- what a run's cell makes of the tasks of the cells below it, and the tasks that cell i opens, if it is no run: as hole_tasks of compare_place
unfoldable pub over_run : (ℕ → ℕ → List ℕ → List ℕ) → Cell → List ℕ → List ℕ
over_run run c vs = cond (eqb c.0 (cell_run Side.left)) (run c.1 c.2 vs) vs

unfoldable pub opened_by : (ℕ → Rule) → List ℕ → ℕ → List ℕ
opened_by X s i = cond (eqb i 0) [] (cond (eqb (cell_at s i).0 cell_spine) (filled_by (X (cell_at s i).1)) [])

-- the cells above cell i, of k, are runs, and cell i is none
pub record RunsAbove (s : List ℕ) (i k : ℕ) : Type 0 where
  pub below : i ≤ k
  pub runs : (j : ℕ) → i < j → j ≤ k → is_run (cell_at s j).0 ≡ true
  pub ends : 0 < i → is_run (cell_at s i).0 ≡ false

-- the cells lie in the cursor, and the rules that they name first, those of rows aside, are below n
pub record RangedCells (n k : ℕ) (s : List ℕ) : Type 0 where
  pub lies : Lies s k
  pub inside : (j : ℕ) → 0 < j → j ≤ k → ((cell_at s j).0 ≡ cell_row → ⊥) → (cell_at s j).1 < n

-- what stands in the hole of the part at k cells
abbrev pub hole_in : List ℕ → ℕ → List ℕ → ℕ → List ℕ
hole_in t n s k = hole_tasks (kept_rule t n) (kept_run t n) (cells_in s k)

-- cell j can be taken over a stack
pub record CellRun (n j : ℕ) (s : List ℕ) (x : Begun) (t : List ℕ) : Type 0 where
  pub rows : SoundRows n t
  pub least : 0 < j
  pub cells : RangedCells n j s
  pub room : Room (row_length * n) (length (over_run (kept_run t n) (cell_at s j) (tasks_of t x))) x t

-- the runs above cell i can be taken over a stack
pub record CellRuns (n i k : ℕ) (s : List ℕ) (x : Begun) (t : List ℕ) : Type 0 where
  pub rows : SoundRows n t
  pub cells : RangedCells n k s
  pub above : RunsAbove s i k
  pub tasks : tasks_of t x ≡ hole_in t n s i
  pub room : Room (row_length * n) (length (hole_in t n s k)) x t

-- room at byte at for a stack of m tasks
pub record RoomAt (low m at : ℕ) (t : List ℕ) : Type 0 where
  pub below : low + m ≤ at
  pub above : at + 1 + m ≤ length t

-- what fills the hole of the spine that cell i opens can be laid down
pub record Openable (n i : ℕ) (s : List ℕ) (at : ℕ) (t : List ℕ) : Type 0 where
  pub rows : SoundRows n t
  pub cells : RangedCells n i s
  pub room : RoomAt (row_length * n) (length (opened_by (kept_rule t n) s i)) at t

-- what stands in the hole of the part at k cells can be laid down
pub record Holed (n k : ℕ) (s : List ℕ) (at : ℕ) (t : List ℕ) : Type 0 where
  pub rows : SoundRows n t
  pub cells : RangedCells n k s
  pub room : RoomAt (row_length * n) (length (hole_in t n s k)) at t
