-- The rules that a listed plan can have after rule 0: each has a number below 48. Its label is 0 and the rules named are below 2, so there
-- are nineteen, and each is compared with its number's bytes. Assumes nothing.
use Prim.Native.Nat.{ℕ, zero, suc, ◌<◌}
use native.Mathlib.Omega.{arith}
use mathlib.Core.Path.{◌≡◌, refl}
use mathlib.Core.Bool.{Bool, true, false, not, ◌&&◌, ◌||◌, and-eq-true_iff}
use lib.Dec.{T, ltb, leb→le, ltb→lt, lt→ltb}
use borrow.Author.Tests.{lt-ltb, ltb-true}
use Rattle.words.specs.Number.{bytes}
use Rattle.record.specs.declared.Format.{Format}
use Rattle.record.specs.Format.{high_length}
use Rattle.record.specs.Record.{record_bytes}
use Rattle.rule.specs.declared.Rule.{Rule}
use Rattle.rule.specs.Rule.{encode, every, labelled_to}
use Rattle.rule.proofs.Names.{T-left, T-right}
use Rattle.plan_list.specs.Listed.{rule_bytes, plain, wordless}

-- a rule's number, which says its record's bytes; its label is 0, and it has no words where it names rule 0 alone
pub record Coded (x : Rule) : Type 0 where
  pub number : ℕ
  pub few : number < 48
  pub same : record_bytes Format.Narrow (encode x) ≡ rule_bytes number
  pub no_label : plain number ≡ true
  pub no_words : T (every (λ k. ltb k 1) x) → wordless number ≡ true

implied : (a b : Bool) → (not a || b) ≡ true → T a → b ≡ true
implied true b e t = e
implied false b e t = absurd t

coded_by : {x : Rule} (k : ℕ) → record_bytes Format.Narrow (encode x) ≡ rule_bytes k
    → (ltb k 48 && (plain k && (not (every (λ j. ltb j 1) x) || wordless k))) ≡ true → Coded x
coded_by {x} k e t =
    let small = (and-eq-true_iff (ltb k 48) (plain k && (not (every (λ j. ltb j 1) x) || wordless k))).0 t in
    let rest = (and-eq-true_iff (plain k) (not (every (λ j. ltb j 1) x) || wordless k)).0 small.1 in
    record {
      number = k;
      few = ltb-true k 48 small.0;
      same = e;
      no_label = rest.0;
      no_words = implied (every (λ j. ltb j 1) x) (wordless k) rest.1;
    }

-- what holds of 0 and 1 holds below 2
below_two : (P : ℕ → Type 0) → P 0 → P 1 → (k : ℕ) → T (ltb k 2) → P k
below_two P p q zero t = p
below_two P p q (suc zero) t = q
below_two P p q (suc (suc k)) t = absurd (let h = ltb→lt (suc (suc k)) 2 t in omega arith)

both_below : (P : ℕ → ℕ → Type 0) → P 0 0 → P 0 1 → P 1 0 → P 1 1 → (b c : ℕ) → T (ltb b 2 && ltb c 2) → P b c
both_below P p q r s b c t =
    below_two (λ (k : ℕ). P k c)
    (below_two (λ (k : ℕ). P 0 k) p q c (T-right (ltb b 2) (ltb c 2) t))
    (below_two (λ (k : ℕ). P 1 k) r s c (T-right (ltb b 2) (ltb c 2) t))
    b (T-left (ltb b 2) (ltb c 2) t)

-- a rule whose label is 0 and that names rules below 2
pub coded : (x : Rule) → T (labelled_to 0 x) → T (every (λ k. ltb k 2) x) → Coded x
unfolding encode every labelled_to record_bytes bytes high_length rule_bytes plain wordless
coded Rule.Empty l t = coded_by 0 refl refl
coded (Rule.Pair b c) l t =
    both_below (λ (b c : ℕ). Coded (Rule.Pair b c)) (coded_by 8 refl refl) (coded_by 10 refl refl) (coded_by 12 refl refl) (coded_by 14 refl refl) b c t
coded (Rule.Node zero c) l t = below_two (λ (c : ℕ). Coded (Rule.Node 0 c)) (coded_by 16 refl refl) (coded_by 18 refl refl) c t
coded (Rule.Node (suc a) c) l t = absurd (let h = leb→le (suc a) 0 l in omega arith)
coded (Rule.Fill b c) l t =
    both_below (λ (b c : ℕ). Coded (Rule.Fill b c)) (coded_by 24 refl refl) (coded_by 26 refl refl) (coded_by 28 refl refl) (coded_by 30 refl refl) b c t
coded (Rule.Part zero b c) l t =
    both_below (λ (b c : ℕ). Coded (Rule.Part 0 b c)) (coded_by 32 refl refl) (coded_by 33 refl refl) (coded_by 34 refl refl) (coded_by 35 refl refl) b c t
coded (Rule.Part (suc a) b c) l t = absurd (let h = leb→le (suc a) 0 l in omega arith)
coded (Rule.Join b c) l t =
    both_below (λ (b c : ℕ). Coded (Rule.Join b c)) (coded_by 40 refl refl) (coded_by 42 refl refl) (coded_by 44 refl refl) (coded_by 46 refl refl) b c t

-- a rule that names rule 0 alone names rules below 2
below_more : (k : ℕ) → T (ltb k 1) → T (ltb k 2)
below_more k t = let h = ltb→lt k 1 t in lt→ltb k 2 (omega arith)

both-more : (b c : ℕ) → T (ltb b 1 && ltb c 1) → T (ltb b 2 && ltb c 2)
both-more b c t =
    let p = ltb→lt b 1 (T-left (ltb b 1) (ltb c 1) t) in
    let q : c < 2 = omega (arith, ltb→lt c 1 (T-right (ltb b 1) (ltb c 1) t)) in
    rw (lt-ltb b 2 (omega arith)) (lt→ltb c 2 q)

pub one_more : (x : Rule) → T (every (λ k. ltb k 1) x) → T (every (λ k. ltb k 2) x)
unfolding every
one_more Rule.Empty t = tt
one_more (Rule.Pair b c) t = both-more b c t
one_more (Rule.Node a c) t = below_more c t
one_more (Rule.Fill b c) t = both-more b c t
one_more (Rule.Part a b c) t = both-more b c t
one_more (Rule.Join b c) t = both-more b c t

-- rule 0 names no rule
none_below : (k : ℕ) → T (ltb k 0) → ⊥
none_below k t = let h = ltb→lt k 0 t in omega arith

pub no_lower : (x : Rule) → T (every (λ k. ltb k 0) x) → x ≡ Rule.Empty
unfolding every
no_lower Rule.Empty t = refl
no_lower (Rule.Pair b c) t = absurd (none_below b (T-left (ltb b 0) (ltb c 0) t))
no_lower (Rule.Node a c) t = absurd (none_below c t)
no_lower (Rule.Fill b c) t = absurd (none_below b (T-left (ltb b 0) (ltb c 0) t))
no_lower (Rule.Part a b c) t = absurd (none_below b (T-left (ltb b 0) (ltb c 0) t))
no_lower (Rule.Join b c) t = absurd (none_below b (T-left (ltb b 0) (ltb c 0) t))
