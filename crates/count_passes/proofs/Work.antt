-- An accepted plan's rules in the rows: what the passes ask of them. Assumes nothing.
use Rattle.std.specs.Prelude.{Result, Ok}
use Rattle.refusal.specs.declared.Refusal.{Refusal}
use Prim.Native.Nat.{ℕ, ◌*◌, ◌≤◌, ◌<◌}
use native.Mathlib.Omega.{arith}
use mathlib.Core.Path.{◌≡◌}
use mathlib.Core.List.{List}
use lib.ListN.{length}
use Rattle.plan.specs.declared.Checked.{Checked}
use Rattle.plan.specs.Check.{rules_of, most_rules}
use Rattle.rule.specs.Sound.{rule}
use Rattle.plan.proofs.Sound.{Plan, checked-plan}
use Rattle.record.specs.Format.{word_length}
use Rattle.forest.specs.Outcome.{work_words}
use Rattle.forest.specs.Expression.{expression}
use Rattle.forest.proofs.Unfold.{unfolding-equation, closed-row}
use Rattle.forest.specs.Good.{Sort, Good}
use Rattle.work_rows.specs.Rows.{work_length, rule_in, first_rules, Holds}
use Rattle.work_rows.proofs.Kept.{holds-first}
use Rattle.work_rows.proofs.Work.{enough-room, enough-words}
use Rattle.work_load.specs.Prepared.{Loads, Prepared}
use Rattle.count_passes.specs.Tally.{Ready, Unfolds}

-- an accepted plan's rules in the rows: they can be passed over, their expressions unfold, and the start rule is closed
pub record Held (s : List ℕ) (n start : ℕ) (t : List ℕ) : Type 0 where
  pub ready : Ready t n
  pub unfolds : Unfolds t n (expression (rules_of s))
  pub below : start < n
  pub closed : Good Sort.row (expression (rules_of s) start)
  pub accepted : Plan most_rules s n start
  pub rules : first_rules t n ≡ rules_of s
  pub room : work_length * n ≤ length t
  pub words : word_length * work_words n ≤ length t

pub held : {s u t : List ℕ} {j x : Result Checked Refusal} {n start : ℕ} → Prepared s u t j x → x ≡ Ok (record { n = n; start = start }) → Held s n start t
unfolding Holds
held {s} {u} {t} {n = n} {start = start} b e =
    let loads : Loads s u t n start = b.loaded n start e in
    let p : Plan most_rules s n start = checked-plan s n start loads.accepted in
    let enough : work_length * n ≤ length u = enough-room n u loads.enough in
    let words : word_length * work_words n ≤ length u = enough-words n u loads.enough in
    let long : length (rules_of s) ≡ n = p.rules in
    let same-long : length t ≡ length u = loads.arranged.within.same_length in
    let same : (k : ℕ) → k < n → rule_in t k ≡ rule (rules_of s) k = loads.arranged.rows in
    let all : first_rules t n ≡ rules_of s = holds-first (rules_of s) t n long loads.arranged.rows in
    let small : start < length (rules_of s) = p.ends.below in
    record {
      ready =
          record {
            room = omega arith;
            ranged = rw all p.sound.in_range;
            order = rw all loads.arranged.order;
          };
      unfolds = record { unfolds = λ r below. rw (same r below) (unfolding-equation p.sound r (omega arith)) };
      below = omega arith;
      closed = closed-row p.sound p.ends;
      accepted = p;
      rules = all;
      room = omega arith;
      words = omega arith;
    }
