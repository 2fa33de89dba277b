-- The table of an accepted plan's rules: its rows hold them, and are known as their facts. Assumes nothing.
use Prim.Native.Nat.{ℕ, ◌+◌, ◌*◌, ◌≤◌}
use native.Mathlib.Omega.{arith}
use mathlib.Core.Path.{◌≡◌, sym, ap, ◌∙◌}
use mathlib.Core.List.{List}
use mathlib.Core.Logic.{inl}
use lib.ListN.{length, take}
use lib.Seq.{length-take-le}
use Rattle.rule.specs.declared.Rule.{Rule}
use Rattle.plan.specs.Check.{rules_of, most_rules}
use Rattle.rule.specs.Sound.{Sound, Closed}
use Rattle.reach.specs.Order.{Orders}
use Rattle.plan.proofs.Sound.{Plan, checked-plan}
use Rattle.model.specs.Facts.{Facts, facts_of}
use Rattle.work_rows.specs.Rows.{work_length, row_length, Holds, Within, first_rules}
use Rattle.work_rows.specs.Order.{order_end, order_in}
use Rattle.facts.specs.Facts.{row_count, facts_in, Built}
use Rattle.facts_build.specs.Buildable.{Buildable}
use Rattle.work_rows.proofs.Rows.{within_both}
use Rattle.facts.proofs.Words.{facts_in-rule}
use Rattle.work_rows.proofs.Kept.{holds-first}
use Rattle.work_rows.proofs.Order.{order-kept}
use Rattle.facts_build.proofs.Known.{built-walkable}
use Rattle.work_rows.proofs.Work.{beyond-work}
use Rattle.work_load.specs.Prepared.{Arrangeable, Arranged}
use Rattle.letter_moves.specs.Standing.{rules_kept, WalkedRows}
use Rattle.facts_load.specs.Filled.{Filled}

-- rows that are known as the facts of rules keep these
walkable-rules : (R : List Rule) (n : ℕ) (t : List ℕ) → length R ≡ n → length t ≡ row_length * n → facts_in t ≡ facts_of R → rules_kept t ≡ R
unfolding Holds facts_of
walkable-rules R n t count long e =
    let all : row_count t ≡ n = omega arith in
    ap (first_rules t) all ∙ holds-first R t n count (λ k below. sym (facts_in-rule t k (omega arith)) ∙ ap (λ (F : Facts). F.rule k) e)

-- rows of sound rules with an order of them behind can be built
buildable : {R : List Rule} {rank : ℕ → ℕ} {n : ℕ} {t : List ℕ} → order_end n ≤ length t → first_rules t n ≡ R → Sound R rank → Orders R (order_in t n) → Buildable n t
buildable {rank = rank} room rules S O = record { room = room; rank = rank; sound = rw rules S; orders = rw rules O }

-- the rules of an accepted plan, arranged in the work
module _ {s : List ℕ} {n : ℕ} {u : List ℕ} (A : Arrangeable s n u) {v : List ℕ} (a : Arranged (rules_of s) n u v) where
  plan : Plan most_rules s n A.start
  plan = checked-plan s n A.start A.accepted

  rules-kept : first_rules v n ≡ rules_of s
  rules-kept = holds-first (rules_of s) v n plan.rules a.rows

  pub builds : Buildable n v
  builds = let same = a.within.same_length in let room = A.room in buildable (omega arith) rules-kept plan.sound a.order

  pub filled : {w : List ℕ} → Built (first_rules v n) n v w → Filled (rules_of s) (take (row_length * n) w) × (first_rules w n ≡ rules_of s) × Orders (rules_of s) (order_in w n) × Within 0 (work_length * n) u w
  filled {w} b =
      let B : Built (rules_of s) n v w = rw rules-kept at b in
      let room = A.room in
      let first = a.within.same_length in
      let second = B.beyond.same_length in
      let long : length (take (row_length * n) w) ≡ row_length * n = length-take-le (row_length * n) w (omega arith) in
      let k = built-walkable plan.sound plan.rules B (omega arith) in (
        record { rules = walkable-rules (rules_of s) n (take (row_length * n) w) plan.rules long k.facts_are; facts_are = k.facts_are; climbs = k.climbs },
        holds-first (rules_of s) w n plan.rules B.holds,
        rw (order-kept B.beyond n (inl (omega arith))) a.order,
        within_both a.within (beyond-work n B.beyond),
      )

-- the rows of sound rules, of which the closed rule r is walked
pub walked-rows : {R : List Rule} {rank : ℕ → ℕ} {r : ℕ} {t : List ℕ} → Sound R rank → Closed R r → Filled R t → WalkedRows r t
walked-rows {rank = rank} S C f =
    record {
      rank = rank;
      sound = rw f.rules S;
      closed = rw f.rules C;
      facts_are = f.facts_are ∙ ap facts_of (sym f.rules);
      climbs = f.climbs;
    }
