-- The stack that compare begins with at a place (document 02, Note 4: "List all nodes of each subtree in reading order"): what is asked of
-- the rows, the cursor and the stack's region, and what lies there then.
use Rattle.std.specs.Prelude.{ℕ, ◌+◌, ◌-◌, ◌*◌, ◌≤◌, ◌<◌, ◌≡◌, List, length}
use Rattle.record.specs.Record.{word_length}
use Rattle.rule.specs.Sound.{Closed}
use Rattle.forest.specs.Expression.{expression}
use Rattle.forest.specs.Reference.{Path, label_at}
use Rattle.forest.specs.Position.{located_of}
use Rattle.forest.specs.Walk.{cells_in}
use Rattle.model.specs.Same.{Same}
use Rattle.work_rows.specs.Rows.{first_rules, Within}
use Rattle.work_rows.specs.Order.{order_end}
use Rattle.compare_place.specs.Begun.{begun_tasks}
use Rattle.place_cells.specs.Cells.{Lies}
use Rattle.compare_begin.specs.declared.Begun.{Begun}
use Rattle.compare_begin.specs.Stack.{SoundRows, kept_rule, kept_run, tasks_of}

-- the region of a stack that begins at byte from, of a plan of n rules: two words a rule under it, five on it
abbrev pub stack_low : ℕ → ℕ → ℕ
stack_low n from = from - 4 * n

abbrev pub stack_high : ℕ → ℕ → ℕ
stack_high n from = from + 10 * n

-- k cells of the cursor and the rule p are the place of a node of a closed rule's forest
pub record NodePlace (t : List ℕ) (n : ℕ) (s : List ℕ) (k p : ℕ) : Type 0 where
  pub walked : ℕ
  pub closed : Closed (first_rules t n) walked
  pub path : Path
  pub same : Same (expression (first_rules t n) walked) (label_at (located_of (expression (first_rules t n) walked)) path) (p, cells_in s k)
  pub least : 0 < k

-- its subtree's tasks can be put on a stack that begins at byte from, behind the order of the rules
pub record Beginnable (t s : List ℕ) (n from k p : ℕ) : Type 0 where
  pub rows : SoundRows n t
  pub place : NodePlace t n s k p
  pub lies : Lies s k
  pub behind : order_end n + 4 * n ≤ from
  pub room : stack_high n from ≤ length t

-- they are on the stack, which lies in its region; nothing else has changed
pub record BegunAt (n from k p : ℕ) (s : List ℕ) (x : Begun) (t t' : List ℕ) : Type 0 where
  pub tasks : tasks_of t' x ≡ begun_tasks (kept_rule t n) (kept_run t n) p (cells_in s k)
  pub low : stack_low n from ≤ x.from
  pub high : x.from ≤ from
  pub top : x.from + word_length * x.tasks ≤ stack_high n from
  pub within : Within (stack_low n from) (stack_high n from) t t'
