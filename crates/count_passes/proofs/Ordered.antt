-- The rows in the order that is kept behind them: where each place has its row, the rules that a rule names stand at earlier places, and
-- what is written into the rows past their rules leaves rules and order as they were. Assumes nothing.
use Prim.Native.Nat.{ℕ, ◌≤◌, ◌<◌}
use native.Mathlib.Omega.{arith}
use mathlib.Core.Path.{◌≡◌}
use mathlib.Core.List.{List}
use mathlib.Core.Logic.{inl}
use lib.Dec.{ltb, ltb→lt}
use lib.ListN.{length, get_or}
use Rattle.rule.specs.Names.{Names}
use Rattle.rule.proofs.Names.{every-named}
use Rattle.reach.proofs.Places.{AtFirst, first-named, first-all}
use Rattle.work_rows.specs.Rows.{own_end, rule_in, first_rules}
use Rattle.work_rows.specs.Order.{order_in}
use Rattle.work_rows.proofs.Kept.{first-length, first-rule, first-same}
use Rattle.work_rows.proofs.Order.{order-kept}
use Rattle.count_passes.specs.Tally.{Ready, Readable, Besides}
use Rattle.count_passes.proofs.Column.{besides-rule}

-- the rule at a place
abbrev pub at_place : List ℕ → ℕ → ℕ → ℕ
at_place t n i = get_or (order_in t n) i 0

module _ {t : List ℕ} {n : ℕ} (a : Ready t n) where
  -- it is one of the rules, and so are those that a rule names
  pub place-below : (i : ℕ) → i < n → at_place t n i < n
  place-below i below =
      let long : length (first_rules t n) ≡ n = first-length t n in
      let l : at_place t n i < length (first_rules t n) = a.order.inside i (omega arith) in omega arith

  pub named-below : (r k : ℕ) → r < n → Names (rule_in t r) k → k < n
  named-below r k below m =
      let long : length (first_rules t n) ≡ n = first-length t n in
      let l : k < length (first_rules t n) = ltb→lt k (length (first_rules t n)) (every-named (λ x. ltb x (length (first_rules t n))) (rw (first-rule t n r below) m) (a.ranged r (omega arith))) in
      omega arith

  -- so its row can be read, with theirs
  pub place-readable : (i : ℕ) → i < n → Readable t (at_place t n i)
  place-readable i below =
      let r : ℕ = at_place t n i in
      let inside : r < n = place-below i below in
      record {
        room = omega (arith, a.room);
        rows = record { named = λ k m. let l : k < n = named-below r k inside m in omega (arith, a.room) };
      }

  -- what holds at the first i places holds of the rules that the next one names, and at all places of all rules
  pub before-named : (P : ℕ → Type 0) (i : ℕ) → i < n → AtFirst (order_in t n) i P → (k : ℕ) → Names (rule_in t (at_place t n i)) k → P k
  before-named P i below h k m =
      first-named a.order P i a.ranged (omega (arith, first-length t n)) h k (rw (first-rule t n (at_place t n i) (place-below i below)) m)

  pub at_all : (P : ℕ → Type 0) → AtFirst (order_in t n) n P → (k : ℕ) → k < n → P k
  at_all P h k below = first-all a.order P (rw (first-length t n) h) k (omega (arith, first-length t n))

-- writes past the rules
module _ {o w n : ℕ} {s t : List ℕ} (b : Besides o w n s t) where
  pub order-besides : order_in t n ≡ order_in s n
  order-besides = order-kept b.beyond n (inl (omega arith))

  pub rules-besides : own_end ≤ o → first_rules t n ≡ first_rules s n
  rules-besides past = first-same s t n (λ k below. besides-rule b past k)

  pub ready-besides : own_end ≤ o → Ready s n → Ready t n
  ready-besides past a =
      record {
        room = let l : length t ≡ length s = b.beyond.same_length in omega (arith, a.room);
        ranged = rw (rules-besides past) a.ranged;
        order = rw (rules-besides past, order-besides) a.order;
      }
