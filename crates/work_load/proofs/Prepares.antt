-- An accepted plan's rules in the rows and an order of them behind these, by number or by a search; and what loading answers and leaves, by
-- the ways through its code: refused before, refused for the work, or loaded.
-- Assumes nothing.
use Rattle.std.specs.Prelude.{Result, Ok, Err}
use Prim.Native.Nat.{ℕ, ◌+◌, ◌-◌, ◌*◌, ◌≤◌}
use native.Mathlib.Omega.{arith}
use mathlib.Core.Path.{◌≡◌, subst, ◌∙◌}
use mathlib.Core.Bool.{Bool, true, false}
use mathlib.Core.List.{List, ◌++◌}
use lib.ListN.{length, take, drop}
use Rattle.refusal.specs.declared.Refusal.{Refusal}
use Rattle.words.proofs.Parts.{part_length, within-part, words-part}
use Rattle.record.specs.Record.{word_length, length_of_record}
use Rattle.record.specs.Records.{records_from}
use Rattle.rule.specs.Rule.{rules_in}
use Rattle.plan.specs.declared.Checked.{Checked}
use Rattle.plan.specs.Check.{checked, rules_of, format_of, most_rules, trailer_length}
use Rattle.plan.proofs.Sound.{Plan, checked-plan, plan-long, plan-first, plan-decodes}
use Rattle.forest.specs.Outcome.{enough_work, work_judged, work_after}
use Rattle.reach.specs.Order.{numbers_from, lower_below}
use Rattle.reach.proofs.Orders.{lower-orders, lower-test}
use Rattle.reach_order.specs.Room.{rules_at, Ready}
use Rattle.reach_order.specs.Search.{Answered}
use Rattle.reach_order.proofs.Runs.{answered-acyclic}
use Rattle.work_rows.specs.Rows.{work_length, row_length, Holds, Within, Formed, Loaded}
use Rattle.work_rows.specs.Order.{order_at, order_end, order_in}
use Rattle.work_rows.proofs.Rows.{within_both, within_wider, within-rule}
use Rattle.work_rows.proofs.Work.{work-refused, work-lent, rules-first, beyond-work}
use Rattle.work_load.specs.Prepared.{Arrangeable, Ordered, Arranged, Loads, Judged, Prepared}

-- ---- the order by a search, in the work behind the rows
module _ {s : List ℕ} {n : ℕ} {work : List ℕ} (A : Arrangeable s n work) where
  plan : Plan most_rules s n A.start
  plan = checked-plan s n A.start A.accepted

  pub first-rules : rules_at (format_of s) s (length s - trailer_length - length_of_record (format_of s) * n) n ≡ rules_of s
  first-rules = rules-first s n A.start plan

  pub first-lower : {x : Bool} → x ≡ lower_below (rules_at (format_of s) s (length s - trailer_length - length_of_record (format_of s) * n) n) n → x ≡ lower_below (rules_of s) n
  first-lower e = rw first-rules at e

  pub loadable : (length_of_record (format_of s) * n + trailer_length ≤ length s) × (row_length * n ≤ length work)
  loadable = let room = A.room in (plan-long most_rules s n A.start plan, omega arith)

  pub formed : Formed (format_of s) s (length s - trailer_length - length_of_record (format_of s) * n) n
  formed i below = rw (first-rules, ← (plan-first most_rules s n A.start plan)) (plan-decodes most_rules s n A.start plan i below)

  pub searchable : Ready (format_of s) s (length s - trailer_length - length_of_record (format_of s) * n) n (take (length work - row_length * n) (drop (row_length * n) work))
  searchable =
      let room = A.room in
      let long = plan-long most_rules s n A.start plan in
      let left : length (take (length work - row_length * n) (drop (row_length * n) work)) ≡ length work - row_length * n = part_length (row_length * n) work in
      record { lies = omega arith; few = omega (arith, plan.greatest); ranged = rw first-rules plan.ranged; fits = omega arith }

  -- the search can't fail, since no rule of an accepted plan reaches itself
  pub search-orders : {x : Bool} {v : List ℕ} → Answered (rules_at (format_of s) s (length s - trailer_length - length_of_record (format_of s) * n) n) n x (take (length work - row_length * n) (drop (row_length * n) work)) v
      → Ordered (rules_of s) n work (take (row_length * n) work ++ (v ++ drop (length work - row_length * n) (drop (row_length * n) work)))
  unfolding order_in
  search-orders {x} {v} h =
      let a : Answered (rules_of s) n x (take (length work - row_length * n) (drop (row_length * n) work)) v = rw first-rules at h in
      record {
        order = rw (words-part (row_length * n) (word_length * n) n work v loadable.1) (a.sorted (answered-acyclic plan.acyclic a));
        within = within_wider (row_length * n) (order_end n) (omega arith) (omega arith) (within-part (row_length * n) (4 * n) loadable.1 a.within);
      }

  pub number-orders : {u : List ℕ} → lower_below (rules_of s) n ≡ true → (order_in u n ≡ numbers_from 0 n) × Within (order_at n) (order_end n) work u → Ordered (rules_of s) n work u
  number-orders e (o, w) = record {
    order = rw (o, ← plan.rules) (lower-orders (rules_of s) (lower-test (rules_of s) (rw plan.rules e)));
    within = within_wider (row_length * n) (order_end n) (omega arith) (omega arith) w;
  }

  -- the rules in the rows, and then their order behind the rows
  module _ {t : List ℕ} (l : Loaded (rules_in (format_of s) (records_from (format_of s) s (length s - trailer_length - length_of_record (format_of s) * n) n)) n work t) where
    pub still-arrangeable : Arrangeable s n t
    still-arrangeable = let e = l.beyond.same_length in record { start = A.start; accepted = A.accepted; room = rw e A.room }

    pub arranged : {u : List ℕ} → Ordered (rules_of s) n t u → Arranged (rules_of s) n work u
    unfolding Holds
    arranged o =
        let loads : Loaded (rules_of s) n work t = rw first-rules at l in
        record {
          rows = λ k below. within-rule o.within k (λ h. absurd (omega arith)) ∙ loads.holds k below;
          order = o.order;
          within = within_both (beyond-work n l.beyond) (within_wider 0 (work_length * n) (omega arith) (omega arith) o.within);
        }

-- what holds of an answer, by its case
unfoldable ByAnswer : List ℕ → List ℕ → List ℕ → Result Checked Refusal → Result Checked Refusal → Type 0
ByAnswer s work t j (Ok x) = (j ≡ Ok x) × Loads s work t x.n x.start
ByAnswer s work t j (Err r) = t ≡ work_after (λ m. enough_work m work) j work

module _ (s work t : List ℕ) (j : Result Checked Refusal) where
  prepared : (x : Result Checked Refusal) → x ≡ work_judged work j → ByAnswer s work t j x → Prepared s work t j x
  unfolding ByAnswer
  prepared x e l =
      record {
        answer = e;
        judged = λ n start q. (subst (λ (y : Result Checked Refusal). ByAnswer s work t j y) q l).0;
        loaded = λ n start q. (subst (λ (y : Result Checked Refusal). ByAnswer s work t j y) q l).1;
        refused = λ r q. subst (λ (y : Result Checked Refusal). ByAnswer s work t j y) q l;
      }

module _ (s work : List ℕ) (j : Result Checked Refusal) where
  pub refused : (r : Refusal) → j ≡ Err r → Prepared s work work j (Err r)
  unfolding work_judged ByAnswer
  refused r q = prepared s work work j (Err r) (rw q) (work-refused (λ m. enough_work m work) j work r q)

  module _ (n start : ℕ) (q : j ≡ Ok (record { n = n; start = start })) where
    pub lent : enough_work n work ≡ false → Prepared s work work j (Err Refusal.Lent)
    unfolding work_judged ByAnswer
    lent e = prepared s work work j (Err Refusal.Lent) (rw (q, e)) (work-lent (λ m. enough_work m work) j work n start q e)

    pub loaded : {t : List ℕ} → Judged s j → enough_work n work ≡ true → Arranged (rules_of s) n work t → Prepared s work t j (Ok (record { n = n; start = start }))
    unfolding work_judged ByAnswer
    loaded {t} a e l = prepared s work t j (Ok (record { n = n; start = start })) (rw (q, e)) (q, record { accepted = a.accepts n start q; enough = e; arranged = l })

pub itself : (s : List ℕ) → Judged s (checked s)
itself s = record { accepts = λ n start e. e }
