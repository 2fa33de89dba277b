-- The answer for one rule: its nodes are counted, three bytes of room for each decide, or five where labels are wide, and where they are
-- there the rows get their tasks and the rule's text is written. Assumes nothing.
use Rattle.std.specs.Prelude.{Ok, Err}
use Prim.Native.Nat.{ℕ, ◌*◌, ◌/◌, ◌^◌, ◌≤◌, ◌<◌}
use native.Mathlib.Omega.{arith}
use mathlib.Core.Path.{◌≡◌, refl, sym, ap, ◌∙◌}
use mathlib.Core.Bool.{Bool, true, false}
use mathlib.Core.List.{List}
use lib.ListN.{length}
use lib.Dec.{leb}
use borrow.Author.Tests.{leb-true, leb-false, le-leb, lt-leb}
use Rattle.record.specs.declared.Format.{Format}
use Rattle.record.specs.Format.{high_length}
use Rattle.refusal.specs.declared.Refusal.{Refusal}
use Rattle.rule.specs.declared.Rule.{Rule}
use Rattle.plan.specs.Written.{output_after}
use Rattle.forest.specs.Forest.{Forest, forest, weigh, one, text}
use Rattle.forest.specs.Outcome.{node_length, text_roomed}
use Rattle.forest.specs.Good.{Sort, Good}
use Rattle.forest.proofs.Unfold.{unfolding-equation, closed-row}
use Rattle.forest.proofs.Counts.{text_length}
use Rattle.work_rows.specs.Rows.{first_rules}
use Rattle.work_rows.specs.Order.{order_in}
use Rattle.work_rows.proofs.Rows.{within_both, within_wider}
use Rattle.count_passes.specs.Says.{whole, says}
use Rattle.count_passes.specs.Tally.{Unfolds}
use Rattle.count_passes.proofs.Meaning.{told}
use Rattle.count_passes.proofs.Column.{besides-rule}
use Rattle.count_passes.proofs.Ordered.{order-besides, rules-besides}
use Rattle.count_all.specs.declared.Counts.{Counts}
use Rattle.count_all.specs.Counts.{forest_counts}
use Rattle.count_all.specs.Kept.{Keeps, is_above}
use Rattle.count_all.specs.Rows.{Countable, Counted}
use Rattle.count_all.proofs.Meaning.{forest-above, forest-exact, row_counts}
use Rattle.spread_step.specs.Task.{task_in}
use Rattle.spread_stack.specs.Run.{meant, work_end, Taskable, Tasked, RowsTasked, Ran, Spreadable}
use Rattle.spread.specs.Answer.{Fitting, Answerable, Answered}
use Rattle.spread_step.proofs.Tasks.{by-test}
use Rattle.spread_stack.proofs.Rows.{task-recurs}
use Rattle.work_rows.proofs.Kept.{first-length, first-rule}

-- two tests that say the same
same_test : (a b c d : ℕ) → (a ≤ b → c ≤ d) → (c ≤ d → a ≤ b) → leb a b ≡ leb c d
same_test a b c d f g =
    by-test (leb a b)
    (λ u. u ∙ sym (le-leb c d (f (leb-true a b u))))
    (λ u.
    by-test (leb c d)
    (λ w. let l : b < a = leb-false a b u in let m : a ≤ b = g (leb-true c d w) in absurd (omega arith))
    (λ w. u ∙ sym w))

-- a node takes a byte at least
at_least : (f : Format) (m : ℕ) → m ≤ node_length f * m
at_least f m = omega arith

-- room for three bytes a node, or five: no output is as long as nodes are too many
pub fits-above : (f : Format) {c : Counts} (room : ℕ) → is_above c ≡ true → room < 2 ^ 64 → Fitting f c room false
fits-above f room h small g k = sym (lt-leb (node_length f * weigh one g) room (omega (arith, at_least f (weigh one g), forest-above g k h)))

nodes-exact : {c : Counts} → is_above c ≡ false → (g : Forest ℕ) → Keeps c (forest_counts g) → c.nodes ≡ weigh one g
nodes-exact h g k = ap (λ (m : Counts). m.nodes) (forest-exact g k h).0

-- so many times the nodes are at most the room where the nodes are at most that part of it
shared : (f : Format) (m room : ℕ) → leb m (room / node_length f) ≡ leb (node_length f * m) room
unfolding high_length
shared Format.Narrow m room = same_test m (room / 3) (3 * m) room (λ l. omega arith) (λ l. omega arith)
shared Format.Wide m room = same_test m (room / 5) (5 * m) room (λ l. omega arith) (λ l. omega arith)

pub fits-shared : {e : Format} (f : Format) (c : Counts) (room : ℕ) → e ≡ f → is_above c ≡ false → Fitting e c room (leb c.nodes (room / node_length f))
fits-shared f c room q h g k = rw (q, nodes-exact h g k) (shared f (weigh one g) room)

-- from the rows
module _ {t : List ℕ} {n r : ℕ} (a : Answerable t n r) where
  in_rows : r < n
  in_rows = let l : r < length (first_rules t n) = a.closed.below in omega (arith, first-length t n)

  rows-unfold : Unfolds t n (meant t n)
  rows-unfold =
      record { unfolds = λ k below. rw (← (first-rule t n k below)) (unfolding-equation a.sound k (omega (arith, first-length t n))) }

  closed-good : Good Sort.row (meant t n r)
  closed-good = closed-row a.sound a.closed

  pub countable : Countable t n r
  countable =
      record {
        passable =
            record {
              ready =
                  record {
                    room = omega (arith, a.room);
                    ranged = a.sound.in_range;
                    order = a.order;
                  };
              room = a.room;
            };
        below = in_rows;
      }

  taskable : Taskable t n
  taskable =
      record {
        ready = countable.passable.ready;
        few = a.few;
      }

  -- the rule's text
  rule-text : (f : Format) → says f (meant t n r) whole ≡ text f (forest (first_rules t n) r)
  unfolding forest
  rule-text f = told f closed-good

-- the rows keep their rules, and the order
answerable-kept : {n r : ℕ} {s t : List ℕ} → first_rules t n ≡ first_rules s n → order_in t n ≡ order_in s n → length t ≡ length s → Answerable s n r
    → Answerable t n r
answerable-kept rules same-order long a =
    record {
      rank = a.rank;
      sound = rw rules a.sound;
      order = rw (rules, same-order) a.order;
      closed = rw rules a.closed;
      few = a.few;
      room = omega (arith, a.room);
    }

-- the counts of the rule
module _ {s t : List ℕ} {n r : ℕ} {c : Counts} (a : Answerable s n r) (p : Counted n r c s t) where
  forest-kept : Keeps c (forest_counts (forest (first_rules s n) r))
  unfolding forest
  forest-kept = row_counts p (meant s n) (rows-unfold a) (closed-good a)

  counted : Answerable t n r
  counted = answerable-kept p.kept.rules p.kept.order p.kept.within.same_length a

  pub tasks-next : Taskable t n
  tasks-next = taskable counted

  pub refused : (f : Format) (out : List ℕ) {x : Bool} → Fitting f c (length out) x → x ≡ false → Answered f n r (Err Refusal.Room) s t out out
  unfolding text_roomed output_after
  refused f out h e =
      record {
        answer = rw (sym (h (forest (first_rules s n) r) forest-kept) ∙ e);
        writes = refl;
        within = p.kept.within;
      }

  module _ (f : Format) (out : List ℕ) {x : Bool} (h : Fitting f c (length out) x) (e : x ≡ true) where
    enough : node_length f * weigh one (forest (first_rules s n) r) ≤ length out
    enough =
        leb-true (node_length f * weigh one (forest (first_rules s n) r)) (length out) (sym (h (forest (first_rules s n) r) forest-kept) ∙ e)

    module _ {u : List ℕ} (q : Tasked n t u) where
      tasked : Answerable u n r
      tasked =
          answerable-kept (rules-besides q.besides (omega arith)) (order-besides q.besides) q.besides.beyond.same_length counted

      all_same : first_rules u n ≡ first_rules s n
      all_same = rules-besides q.besides (omega arith) ∙ p.kept.rules

      rows_tasked : RowsTasked u n
      rows_tasked =
          record {
            rank = tasked.rank;
            sound = tasked.sound;
            few = tasked.few;
            least = let b : r < n = in_rows tasked in omega arith;
            room = tasked.room;
            tasks =
                q.column (λ k. task_in (meant u n k))
                (task-recurs t n tasked.sound (first-length u n)
                (λ k below. sym (besides-rule q.besides (omega arith) k) ∙ sym (first-rule u n k below)));
          }

      same_text : says f (meant u n r) whole ≡ text f (forest (first_rules s n) r)
      same_text = rule-text tasked f ∙ ap (λ (R : List Rule). text f (forest R r)) all_same

      pub spreadable : Spreadable f u out n r
      spreadable =
          record {
            rows_tasked = rows_tasked;
            below = in_rows tasked;
            fits = rw same_text (omega (arith, text_length f (forest (first_rules s n) r), enough));
          }

      pub spread-out : {x : ℕ} {w out' : List ℕ} → Ran n (says f (meant u n r) whole) x u w out out' → Answered f n r (Ok x) s w out out'
      unfolding text_roomed output_after
      spread-out g =
          let h = rw same_text at g in
          record {
            answer = rw (le-leb (node_length f * weigh one (forest (first_rules s n) r)) (length out) enough) (ap Ok h.long);
            writes = h.writes;
            within =
                within_both p.kept.within
                (within_both (within_wider 0 (work_end n) (omega arith) (omega arith) q.besides.beyond)
                (within_wider 0 (work_end n) (omega arith) (omega arith) h.within));
          }
