-- Spread's tasks: one 16-bit word says what is still to be written, a rule and which part of its text (document 01, "Spread").
use Rattle.std.specs.Prelude.{ℕ, suc, ◌+◌, ◌*◌, ◌/◌, ◌%◌, cond, List, [], eqb}
use Rattle.record.specs.declared.Format.{Format}
use Rattle.rule.specs.declared.Rule.{Rule}
use Rattle.forest.specs.Expression.{Expression}
use Rattle.forest.specs.Spelling.{Spelling, in_bytes}
use Rattle.forest.specs.Sizes.{height}
use Rattle.count_passes.specs.Says.{whole, spoken}

-- the word of a task is 4 × rule + part: whole, before or after (count_passes/specs/Says)
abbrev pub parts : ℕ
parts = 4

abbrev pub task_word : ℕ → ℕ → ℕ
task_word r p = parts * r + p

-- words of the fourth part are of no rule: one stands for the byte that closes a node, whichever it is, and one for no task, which is the
-- whole text of an empty rule
abbrev pub close_task : ℕ
close_task = 3

abbrev pub no_task : ℕ
no_task = 65535

-- the most rules whose tasks are 16-bit words
abbrev pub task_limit : ℕ
task_limit = 16384

-- what a task depends on: nothing to do, a closing byte, or a part of a rule's text
unfoldable pub task_by : {A : Type 0} → A → A → (ℕ → ℕ → A) → ℕ → A
task_by none closes part v = cond (eqb v no_task) none (cond (eqb v close_task) closes (part (v / parts) (v % parts)))

-- what a task says, in a spelling, and in bytes: its text
unfoldable pub task_spoken : Spelling → (ℕ → Expression) → ℕ → List ℕ
unfolding task_by
task_spoken x E v = task_by [] x.closes (λ r p. spoken x (E r) p) v

abbrev pub task_text : Format → (ℕ → Expression) → ℕ → List ℕ
task_text f E v = task_spoken (in_bytes f) E v

-- how many tasks it comes to, itself included: whatever the part, no more than turns_in
unfoldable pub turns_in : Expression → ℕ
turns_in (Expression.empty r) = 1
turns_in (Expression.pair r b c) = suc (turns_in b + turns_in c)
turns_in (Expression.node r a c) = suc (suc (turns_in c))
turns_in (Expression.fill r b c) = suc (turns_in b + turns_in c + turns_in b)
turns_in (Expression.part r a b c) = suc (suc (turns_in b + turns_in c))
turns_in (Expression.join r b c) = suc (turns_in b + turns_in c)

unfoldable pub task_turns : (ℕ → Expression) → ℕ → ℕ
unfolding task_by
task_turns E v = task_by 0 1 (λ r p. turns_in (E r)) v

-- how high the expression that it writes of
unfoldable pub task_height : (ℕ → Expression) → ℕ → ℕ
unfolding task_by
task_height E v = task_by 0 0 (λ r p. height (E r)) v

-- the task of a whole rule: none for an empty rule, and where one side of a pair is empty the other's, so that no pair is taken apart
-- that has an empty side
unfoldable pub task_of : (ℕ → ℕ) → ℕ → Rule → ℕ
task_of f r Rule.Empty = no_task
task_of f r (Rule.Pair b c) = cond (eqb (f b) no_task) (f c) (cond (eqb (f c) no_task) (f b) (task_word r whole))
task_of f r (Rule.Node a c) = task_word r whole
task_of f r (Rule.Fill b c) = task_word r whole
task_of f r (Rule.Part a b c) = task_word r whole
task_of f r (Rule.Join b c) = task_word r whole

unfoldable pub task_in : Expression → ℕ
task_in (Expression.empty r) = no_task
task_in (Expression.pair r b c) = cond (eqb (task_in b) no_task) (task_in c) (cond (eqb (task_in c) no_task) (task_in b) (task_word r whole))
task_in (Expression.node r a c) = task_word r whole
task_in (Expression.fill r b c) = task_word r whole
task_in (Expression.part r a b c) = task_word r whole
task_in (Expression.join r b c) = task_word r whole
