-- A turn keeps the answer, the stacks and the rows, and leaves fewer turns to come. Each kind of turn by itself: the same task skipped, one
-- or both tops replaced by what they come to, or a difference found. Assumes nothing.
use Prim.Native.Nat.{ℕ, ◌+◌, ◌-◌, ◌≤◌, ◌<◌, min}
use native.Mathlib.Omega.{arith}
use mathlib.Core.Path.{◌≡◌, sym, ap, ap₂, ◌∙◌}
use mathlib.Core.Bool.{Bool, false}
use mathlib.Core.List.{List, [], ◌∷◌}
use lib.Dec.{eqb}
use lib.ListN.{length}
use borrow.Author.Tests.{eqb-true, eqb-false}
use Rattle.forest.specs.declared.Compared.{Compared}
use Rattle.forest.specs.Compare.{Found, within}
use Rattle.forest.specs.Expression.{Expression}
use Rattle.forest.proofs.Cases.{by_bool}
use Rattle.count_capped.specs.Count.{count_limit, capped}
use Rattle.spread_step.specs.Task.{no_task}
use Rattle.spread_stack.specs.Stack.{tasks_spoken, tasks_turns, add_tasks, tasks_in}
use Rattle.spread_stack.specs.Run.{meant, Stacked, none, on}
use Rattle.spread_stack.proofs.Rows.{View, view}
use Rattle.spread_stack.proofs.Runs.{stacked-top}
use Rattle.compare_tokens.specs.Tokens.{differs, ahead}
use Rattle.compare_tokens.specs.Nodes.{task_nodes}
use Rattle.compare_tokens.specs.Stacks.{tasks_tokens}
use Rattle.compare_tokens.proofs.Skips.{differs-ends}
use Rattle.compare_tokens.proofs.Stacks.{skip-task}
use Rattle.compare_nodes.specs.Columns.{task_nodes_in}
use Rattle.compare_nodes.proofs.Kept.{task-nodes-kept}
use Rattle.compare_run.specs.declared.Token.{Token}
use Rattle.compare_run.specs.Turn.{top_in, top_step, top_token, token_nodes}
use Rattle.compare_run.specs.Run.{highest, Comparable}
use Rattle.compare_run.proofs.Tokens.{heard, heard-silent, heard-apart, heard-same, since, since-ahead, since-differs, capped-since}
use Rattle.compare_run.proofs.Tops.{top-list, top-ended, top-turned, top_below, rest-stacked, rest-turns, step-turns, top-tokens, top-silent, ended-none, none-ended}

-- the answer, from two stacks and how far it has come; and the turns to come
abbrev pub answer_from : (ℕ → Expression) → ℕ → Bool → ℕ → List ℕ → List ℕ → Compared
answer_from E budget b c vs ws = within budget (since b c (differs (tasks_tokens E vs) (tasks_tokens E ws)))

-- after a turn: vs and ws were the stacks, and the answer is kept; E are the expressions of the rules
pub record Turned (E : ℕ → Expression) (n budget : ℕ) (b : Bool) (c : ℕ) (vs ws : List ℕ) (b' : Bool) (c' : ℕ) (vs' ws' : List ℕ) : Type 0 where
  pub answer : answer_from E budget b' c' vs' ws' ≡ answer_from E budget b c vs ws
  pub one : Stacked E n (highest n) vs'
  pub two : Stacked E n (highest n) ws'
  pub turns : tasks_turns E vs' + tasks_turns E ws' < tasks_turns E vs + tasks_turns E ws
  pub counted : c' ≤ budget + 1

-- after nodes that agree
same_answer : (E : ℕ → Expression) (budget : ℕ) (b : Bool) (c m : ℕ) (vs ws vs' ws' : List ℕ)
    → differs (tasks_tokens E vs) (tasks_tokens E ws) ≡ ahead m (differs (tasks_tokens E vs') (tasks_tokens E ws'))
    → answer_from E budget b (c + m) vs' ws' ≡ answer_from E budget b c vs ws
same_answer E budget b c m vs ws vs' ws' q =
    ap (within budget) (sym (ap (since b c) q ∙ since-ahead b c m (differs (tasks_tokens E vs') (tasks_tokens E ws'))))

-- a token counts one node at most
token-small : (p : Token) → token_nodes p ≤ 1
unfolding token_nodes
token-small Token.Silent = omega arith
token-small Token.Ended = omega arith
token-small Token.Closes = omega arith
token-small (Token.Opens a) = omega arith

-- a stack has at most one task more than may lie under a task
pub stacked-length : {E : ℕ → Expression} {n H : ℕ} {vs : List ℕ} → Stacked E n H vs → length vs ≤ H + 1
stacked-length none = omega arith
stacked-length (on {v} {vs} some a s) = let l : length vs ≤ _ = (stacked-top (on some a s)).1 in omega arith

module _ {t : List ℕ} {n first j second k : ℕ} (a : Comparable t n first j second k) (budget : ℕ) (b : Bool) (c : ℕ) where
  rows : View (meant t n) n t
  rows = view t n a.rows_tasked

  -- the stacks
  abbrev vs : List ℕ
  vs = tasks_in t first j

  abbrev ws : List ℕ
  ws = tasks_in t second k

  -- the tasks on top, and what is under them
  abbrev v : ℕ
  v = top_in t first j

  abbrev w : ℕ
  w = top_in t second k

  -- what they come to, in their places
  abbrev vs' : List ℕ
  vs' = add_tasks (top_step t v) (tasks_in t first (j - 1))

  abbrev ws' : List ℕ
  ws' = add_tasks (top_step t w) (tasks_in t second (k - 1))

  abbrev Next : Bool → ℕ → List ℕ → List ℕ → Type 0
  Next = Turned (meant t n) n budget b c vs ws

  -- tasks that are left take turns
  turns-left : 0 < j + k → 0 < tasks_turns (meant t n) vs + tasks_turns (meant t n) ws
  turns-left some =
      by_bool (eqb v no_task)
      (λ u.
      let z : j ≡ 0 = top-ended t first j a.one (eqb-true v no_task u) in
      let l : tasks_turns (meant t n) (tasks_in t second (k - 1)) < tasks_turns (meant t n) ws = rest-turns rows second k a.two (λ q. let y : k ≡ 0 = top-ended t second k a.two q in omega arith) in
      omega arith)
      (λ u.
      let l : tasks_turns (meant t n) (tasks_in t first (j - 1)) < tasks_turns (meant t n) vs = rest-turns rows first j a.one (eqb-false v no_task u) in
      omega arith)

  -- the same task on both
  pub turned-skip : v ≡ w → 0 < j + k → c ≤ budget → budget < count_limit
      → Next b (min (c + task_nodes_in t v) (budget + 1)) (tasks_in t first (j - 1)) (tasks_in t second (k - 1))
  turned-skip q more low small =
      let one : v ≡ no_task → ⊥ = λ z.
      let x : j ≡ 0 = top-ended t first j a.one z in let y : k ≡ 0 = top-ended t second k a.two (sym q ∙ z) in omega arith in
      let two : w ≡ no_task → ⊥ = λ z. one (q ∙ z) in
      let e : task_nodes_in t v ≡ capped (task_nodes (meant t n) v) =
      task-nodes-kept a.nodes_kept v (λ some ruled. top_below rows first j a.one one ruled) in
      let d : differs (tasks_tokens (meant t n) vs) (tasks_tokens (meant t n) ws)
      ≡ ahead (task_nodes (meant t n) v) (differs (tasks_tokens (meant t n) (tasks_in t first (j - 1))) (tasks_tokens (meant t n) (tasks_in t second (k - 1)))) =
      ap₂ (λ (xs ys : List ℕ). differs (tasks_tokens (meant t n) xs) (tasks_tokens (meant t n) ys)) (top-list t first j one) (top-list t second k two ∙ ap (λ (x : ℕ). x ∷ tasks_in t second (k - 1)) (sym q))
      ∙ skip-task (meant t n) v (tasks_in t first (j - 1)) (tasks_in t second (k - 1)) in
      let l : tasks_turns (meant t n) (tasks_in t first (j - 1)) < tasks_turns (meant t n) vs = rest-turns rows first j a.one one in
      let m : tasks_turns (meant t n) (tasks_in t second (k - 1)) < tasks_turns (meant t n) ws = rest-turns rows second k a.two two in
      rw e
      (record {
        answer =
            capped-since budget count_limit b c (task_nodes (meant t n) v) (differs (tasks_tokens (meant t n) (tasks_in t first (j - 1))) (tasks_tokens (meant t n) (tasks_in t second (k - 1)))) small
            ∙ same_answer (meant t n) budget b c (task_nodes (meant t n) v) vs ws (tasks_in t first (j - 1)) (tasks_in t second (k - 1)) d;
        one = rest-stacked rows first j a.one one;
        two = rest-stacked rows second k a.two two;
        turns = omega arith;
        counted = omega arith;
      })

  -- one top replaced
  pub turned-first : top_token t v ≡ Token.Silent → c ≤ budget → Next b c vs' ws
  turned-first q low =
      let some : v ≡ no_task → ⊥ = top-silent rows first j a.one q in
      let l : tasks_turns (meant t n) vs' < tasks_turns (meant t n) vs = step-turns rows first j a.one some in
      record {
        answer = ap (λ (ts : List ℕ). within budget (since b c (differs ts (tasks_tokens (meant t n) ws)))) (sym (top-tokens rows first j a.one ∙ heard-silent (tasks_tokens (meant t n) vs') q));
        one = (top-turned rows first j a.one some).stacked;
        two = a.two;
        turns = omega arith;
        counted = omega arith;
      }

  pub turned-second : top_token t w ≡ Token.Silent → c ≤ budget → Next b c vs ws'
  turned-second q low =
      let some : w ≡ no_task → ⊥ = top-silent rows second k a.two q in
      let l : tasks_turns (meant t n) ws' < tasks_turns (meant t n) ws = step-turns rows second k a.two some in
      record {
        answer = ap (λ (ts : List ℕ). within budget (since b c (differs (tasks_tokens (meant t n) vs) ts))) (sym (top-tokens rows second k a.two ∙ heard-silent (tasks_tokens (meant t n) ws') q));
        one = a.one;
        two = (top-turned rows second k a.two some).stacked;
        turns = omega arith;
        counted = omega arith;
      }

  -- the tokens of both, by the next ones
  next-tokens : differs (tasks_tokens (meant t n) vs) (tasks_tokens (meant t n) ws)
      ≡ differs (heard (top_token t v) (tasks_tokens (meant t n) vs')) (heard (top_token t w) (tasks_tokens (meant t n) ws'))
  next-tokens = ap₂ differs (top-tokens rows first j a.one) (top-tokens rows second k a.two)

  -- a difference
  pub turned-parted : (top_token t v ≡ Token.Silent → ⊥) → (top_token t w ≡ Token.Silent → ⊥) → (top_token t v ≡ top_token t w → ⊥) → 0 < j + k → c ≤ budget
      → Next false (c + 1) [] []
  unfolding tasks_spoken tasks_turns
  turned-parted x y z more low =
      record {
        answer =
            ap (λ (d : Found). within budget (since false (c + 1) d)) differs-ends
            ∙ ap (within budget)
            (sym (ap (since b c) (next-tokens ∙ heard-apart (top_token t v) (top_token t w) (tasks_tokens (meant t n) vs') (tasks_tokens (meant t n) ws') x y z) ∙ since-differs b c));
        one = none;
        two = none;
        turns = omega (arith, turns-left more);
        counted = omega arith;
      }

  -- the same token
  pub turned-both : (v ≡ w → ⊥) → (top_token t v ≡ Token.Silent → ⊥) → top_token t v ≡ top_token t w → c ≤ budget → Next b (c + token_nodes (top_token t v)) vs' ws'
  turned-both x y z low =
      let end-one : top_token t v ≡ Token.Ended → ⊥ = λ e. x (ended-none t v e ∙ sym (ended-none t w (sym z ∙ e))) in
      let one : v ≡ no_task → ⊥ = λ e. end-one (none-ended t v e) in
      let two : w ≡ no_task → ⊥ = λ e. end-one (z ∙ none-ended t w e) in
      let l : tasks_turns (meant t n) vs' < tasks_turns (meant t n) vs = step-turns rows first j a.one one in
      let m : tasks_turns (meant t n) ws' < tasks_turns (meant t n) ws = step-turns rows second k a.two two in
      record {
        answer =
            same_answer (meant t n) budget b c (token_nodes (top_token t v)) vs ws vs' ws'
            (next-tokens
            ∙ ap (λ (p : Token). differs (heard (top_token t v) (tasks_tokens (meant t n) vs')) (heard p (tasks_tokens (meant t n) ws'))) (sym z)
            ∙ heard-same (top_token t v) (tasks_tokens (meant t n) vs') (tasks_tokens (meant t n) ws') y end-one);
        one = (top-turned rows first j a.one one).stacked;
        two = (top-turned rows second k a.two two).stacked;
        turns = omega arith;
        counted = omega (arith, token-small (top_token t v));
      }
