-- How the way of a side goes on from a rule, by its right-hand side: it copies the way of a one-sided pair's other side, steps to a rule,
-- or stays. The facts of a sound plan's rules follow it, by the unfolding equation; a representative has the facts of what it stands
-- for. So a step is one deeper, no way is longer than the rank, and it keeps to rules that are named. Assumes nothing.
use Prim.Native.Nat.{ℕ, suc, ◌≤◌, ◌<◌}
use native.Mathlib.Omega.{arith}
use mathlib.Core.Path.{◌≡◌, refl, sym, ap, ◌∙◌}
use mathlib.Core.Bool.{true, false, cond}
use mathlib.Core.List.{List}
use lib.ListN.{length}
use Rattle.rule.specs.declared.Rule.{Rule}
use Rattle.rule.specs.Sound.{rule, Sound}
use Rattle.forest.specs.Expression.{Expression, rhs, expression, rule_number}
use Rattle.forest.specs.Place.{Side, is_empty, representative}
use Rattle.forest.specs.Sides.{pick}
use Rattle.forest.proofs.Sides.{picked}
use Rattle.forest.proofs.Unfold.{named-below, named-falls, by_rank, unfolding-equation, rule_number-expression}
use Rattle.rule.specs.Names.{Names}
use Rattle.model.specs.Facts.{Facts, toward, last, depth, facts_of}
use Rattle.forest.proofs.Cases.{by_bool}
use Rattle.model.proofs.Fit.{pick-map}

pub data Way : Type 0 where
  copy : ℕ → Way
  step : ℕ → Way
  stay : Way

unfoldable pub way_of : Facts → Side → Rule → Way
way_of F s Rule.Empty = stay
way_of F s (Rule.Pair b c) = cond (F.is_empty b) (copy c) (cond (F.is_empty c) (copy b) (step (F.representative (pick s b c))))
way_of F s (Rule.Node a c) = stay
way_of F s (Rule.Fill b c) = stay
way_of F s (Rule.Part a b c) = stay
way_of F s (Rule.Join b c) = step (pick s b c)

-- rule r has the facts of rule k; steps to rule p; stays where it is
pub record Copies (F : Facts) (s : Side) (r k : ℕ) : Type 0 where
  pub toward : F.toward s r ≡ F.toward s k
  pub last : F.last s r ≡ F.last s k
  pub depth : F.depth s r ≡ F.depth s k

pub record StepsTo (F : Facts) (s : Side) (r p : ℕ) : Type 0 where
  pub toward : F.toward s r ≡ p
  pub last : F.last s r ≡ F.last s p
  pub depth : F.depth s r ≡ suc (F.depth s p)

pub record Stays (F : Facts) (s : Side) (r : ℕ) : Type 0 where
  pub toward : F.toward s r ≡ r
  pub last : F.last s r ≡ r
  pub depth : F.depth s r ≡ 0

abbrev pub Follows : Facts → Side → ℕ → Way → Type 0
Follows F s r (copy k) = Copies F s r k
Follows F s r (step p) = StepsTo F s r p
Follows F s r stay = Stays F s r

-- every rule of a way
abbrev pub Every : (ℕ → Type 0) → Way → Type 0
Every P (copy k) = P k
Every P (step p) = P p
Every P stay = Unit {0}

copies-same : (F : Facts) (s : Side) (r : ℕ) → Copies F s r r
copies-same F s r = record { toward = refl; last = refl; depth = refl }

copies-both : {F : Facts} {s : Side} {a b c : ℕ} → Copies F s a b → Copies F s b c → Copies F s a c
copies-both p q = record { toward = p.toward ∙ q.toward; last = p.last ∙ q.last; depth = p.depth ∙ q.depth }

copies-back : {F : Facts} {s : Side} {a b : ℕ} → Copies F s a b → Copies F s b a
copies-back p = record { toward = sym p.toward; last = sym p.last; depth = sym p.depth }

-- what the facts of a rule are, by its right-hand side
module _ (R : List Rule) (r : ℕ) where
  abbrev E : ℕ → Expression
  E = expression R

  abbrev F : Facts
  F = facts_of R

  pair-copies-second : (s : Side) (b c : ℕ) → E r ≡ Expression.pair r (E b) (E c) → F.is_empty b ≡ true → Copies F s r c
  unfolding facts_of toward last depth
  pair-copies-second s b c q u = record { toward = rw (q, u); last = rw (q, u); depth = rw (q, u) }

  pair-copies-first : (s : Side) (b c : ℕ) → E r ≡ Expression.pair r (E b) (E c) → F.is_empty b ≡ false → F.is_empty c ≡ true → Copies F s r b
  unfolding facts_of toward last depth
  pair-copies-first s b c q u v = record { toward = rw (q, u, v); last = rw (q, u, v); depth = rw (q, u, v) }

  pair-steps : (s : Side) (b c : ℕ) → E r ≡ Expression.pair r (E b) (E c) → F.is_empty b ≡ false → F.is_empty c ≡ false
      → Copies F s (F.representative (pick s b c)) (pick s b c) → StepsTo F s r (F.representative (pick s b c))
  unfolding facts_of toward last depth
  pair-steps s b c q u v h =
      record {
        toward = rw (q, u, v) (ap representative (pick-map E s b c));
        last = rw (q, u, v) (pick-map (λ (k : ℕ). last s (E k)) s b c ∙ sym h.last);
        depth = rw (q, u, v) (ap suc (pick-map (λ (k : ℕ). depth s (E k)) s b c ∙ sym h.depth));
      }

  join-steps : (s : Side) (b c : ℕ) → E r ≡ Expression.join r (E b) (E c) → StepsTo F s r (pick s b c)
  unfolding facts_of toward last depth
  join-steps s b c q =
      record {
        toward = rw q (ap rule_number (pick-map E s b c) ∙ rule_number-expression R (pick s b c));
        last = rw q (pick-map (λ (k : ℕ). last s (E k)) s b c);
        depth = rw q (ap suc (pick-map (λ (k : ℕ). depth s (E k)) s b c));
      }

  -- the representative has the facts of its rule: of a one-sided pair it is that of the other side, else the rule itself
  represents : (x : Rule) → E r ≡ rhs r x E → ((k : ℕ) → Names x k → (s : Side) → Copies F s (F.representative k) k) → (s : Side) → Copies F s (F.representative r) r
  unfolding facts_of rhs representative
  represents Rule.Empty q h s = rw (ap representative q) (copies-same F s r)
  represents (Rule.Pair b c) q h s =
      by_bool (is_empty (E b))
      (λ u. let e : representative (E r) ≡ representative (E c) = rw (q, u) in
      rw e (copies-both (h c Names.pair_two s) (copies-back (pair-copies-second s b c q u))))
      (λ u. by_bool (is_empty (E c))
      (λ v. let e : representative (E r) ≡ representative (E b) = rw (q, u, v) in
      rw e (copies-both (h b Names.pair_one s) (copies-back (pair-copies-first s b c q u v))))
      (λ v. let e : representative (E r) ≡ r = rw (q, u, v) in rw e (copies-same F s r)))
  represents (Rule.Node a c) q h s = rw (ap representative q) (copies-same F s r)
  represents (Rule.Fill b c) q h s = rw (ap representative q) (copies-same F s r)
  represents (Rule.Part a b c) q h s = rw (ap representative q) (copies-same F s r)
  represents (Rule.Join b c) q h s = rw (ap representative q) (copies-same F s r)

  -- the facts follow the way
  follows_by : (x : Rule) → E r ≡ rhs r x E → ((k : ℕ) → Names x k → (s : Side) → Copies F s (F.representative k) k) → (s : Side) → Follows F s r (way_of F s x)
  unfolding facts_of rhs way_of toward last depth
  follows_by Rule.Empty q h s = record { toward = rw q; last = rw q; depth = rw q }
  follows_by (Rule.Pair b c) q h s =
      by_bool (is_empty (E b)) (λ u. rw u (pair-copies-second s b c q u))
      (λ u. by_bool (is_empty (E c)) (λ v. rw (u, v) (pair-copies-first s b c q u v))
      (λ v. rw (u, v) (pair-steps s b c q u v (picked-names s b c h))))
    where
      picked-names : (s : Side) (b c : ℕ) → ((k : ℕ) → Names (Rule.Pair b c) k → (s : Side) → Copies F s (F.representative k) k) → Copies F s (F.representative (pick s b c)) (pick s b c)
      picked-names s b c h = picked (λ (k : ℕ). Copies F s (F.representative k) k) s b c (h b Names.pair_one s) (h c Names.pair_two s)
  follows_by (Rule.Node a c) q h s = record { toward = rw q; last = rw q; depth = rw q }
  follows_by (Rule.Fill b c) q h s = record { toward = rw q; last = rw q; depth = rw q }
  follows_by (Rule.Part a b c) q h s = record { toward = rw q; last = rw q; depth = rw q }
  follows_by (Rule.Join b c) q h s = join-steps s b c q

-- what holds of every rule named, and of its representative, holds of every rule of the way
every_way : (F : Facts) (P : ℕ → Type 0) (s : Side) (x : Rule) → ((k : ℕ) → Names x k → P k) → ((k : ℕ) → Names x k → P (F.representative k)) → Every P (way_of F s x)
unfolding way_of
every_way F P s Rule.Empty h g = tt
every_way F P s (Rule.Pair b c) h g =
    by_bool (F.is_empty b) (λ u. rw u (h c Names.pair_two))
    (λ u. by_bool (F.is_empty c) (λ v. rw (u, v) (h b Names.pair_one))
    (λ v. rw (u, v) (picked (λ (k : ℕ). P (F.representative k)) s b c (g b Names.pair_one) (g c Names.pair_two))))
every_way F P s (Rule.Node a c) h g = tt
every_way F P s (Rule.Fill b c) h g = tt
every_way F P s (Rule.Part a b c) h g = tt
every_way F P s (Rule.Join b c) h g = picked P s b c (h b Names.join_one) (h c Names.join_two)

-- the representative is the rule itself, or that of a rule named
represents-in : (R : List Rule) (P : ℕ → Type 0) (r : ℕ) (x : Rule) → expression R r ≡ rhs r x (expression R) → P r
    → ((k : ℕ) → Names x k → P ((facts_of R).representative k)) → P ((facts_of R).representative r)
unfolding facts_of rhs representative
represents-in R P r Rule.Empty q own h = rw (ap representative q) own
represents-in R P r (Rule.Pair b c) q own h =
    by_bool (is_empty (expression R b))
    (λ u. let e : representative (expression R r) ≡ representative (expression R c) = rw (q, u) in rw e (h c Names.pair_two))
    (λ u. by_bool (is_empty (expression R c))
    (λ v. let e : representative (expression R r) ≡ representative (expression R b) = rw (q, u, v) in rw e (h b Names.pair_one))
    (λ v. let e : representative (expression R r) ≡ r = rw (q, u, v) in rw e own))
represents-in R P r (Rule.Node a c) q own h = rw (ap representative q) own
represents-in R P r (Rule.Fill b c) q own h = rw (ap representative q) own
represents-in R P r (Rule.Part a b c) q own h = rw (ap representative q) own
represents-in R P r (Rule.Join b c) q own h = rw (ap representative q) own

module _ {R : List Rule} {rank : ℕ → ℕ} (S : Sound R rank) where
  -- a representative has the facts of its rule
  pub representative-copies : (r : ℕ) → r < length R → (s : Side) → Copies (facts_of R) s ((facts_of R).representative r) r
  representative-copies =
      by_rank S (λ r. (s : Side) → Copies (facts_of R) s ((facts_of R).representative r) r)
      (λ r h f. represents R r (rule R r) (unfolding-equation S r h) f)

  pub follows : (r : ℕ) → r < length R → (s : Side) → Follows (facts_of R) s r (way_of (facts_of R) s (rule R r))
  follows r h = follows_by R r (rule R r) (unfolding-equation S r h) (λ k n. representative-copies k (named-below S r k h n))

  -- rules that are done, with every rule that one of them names
  module _ (Done : ℕ → Type 0) (in_range : (r : ℕ) → Done r → r < length R) (closed : (r k : ℕ) → Done r → Names (rule R r) k → Done k) where
    pub representative-done : (r : ℕ) → Done r → Done ((facts_of R).representative r)
    representative-done r d =
        by_rank S (λ r. Done r → Done ((facts_of R).representative r))
        (λ r h f d. represents-in R Done r (rule R r) (unfolding-equation S r h) d (λ k n. f k n (closed r k d n)))
        r (in_range r d) d

    pub way-done : (s : Side) (r : ℕ) → r < length R → ((k : ℕ) → Names (rule R r) k → Done k) → Every Done (way_of (facts_of R) s (rule R r))
    way-done s r h named = every_way (facts_of R) Done s (rule R r) named (λ k n. representative-done k (named k n))

    pub toward-done : (s : Side) (r : ℕ) → Done r → Done ((facts_of R).toward s r)
    toward-done s r d =
        by_rank S (λ r. Done r → Done ((facts_of R).toward s r)) at-rule r (in_range r d) d
      where
        F : Facts
        F = facts_of R

        Both : ℕ → Type 0
        Both k = Done k × Done (F.toward s k)

        by_way : (r : ℕ) (w : Way) → Done r → Follows F s r w → Every Both w → Done (F.toward s r)
        by_way r (copy k) d e b = rw e.toward b.1
        by_way r (step p) d e b = rw e.toward b.0
        by_way r stay d e b = rw e.toward d

        at-rule : (r : ℕ) → r < length R → ((k : ℕ) → Names (rule R r) k → Done k → Done (F.toward s k)) → Done r → Done (F.toward s r)
        at-rule r h f d =
            by_way r (way_of F s (rule R r)) d (follows r h s)
            (every_way F Both s (rule R r) (λ k n. (closed r k d n, f k n (closed r k d n)))
            (λ k n. (representative-done k (closed r k d n), rw (representative-copies k (named-below S r k h n) s).toward (f k n (closed r k d n)))))

  -- no way is longer than the rank
  pub depth-rank : (s : Side) (r : ℕ) → r < length R → (facts_of R).depth s r ≤ rank r
  depth-rank s = by_rank S (λ r. (facts_of R).depth s r ≤ rank r) at-rule
    where
      F : Facts
      F = facts_of R

      by_way : (r : ℕ) (w : Way) → Follows F s r w → Every (λ k. F.depth s k < rank r) w → F.depth s r ≤ rank r
      by_way r (copy k) e b = let d = e.depth in omega arith
      by_way r (step p) e b = let d = e.depth in omega arith
      by_way r stay e b = let d = e.depth in omega arith

      at-rule : (r : ℕ) → r < length R → ((k : ℕ) → Names (rule R r) k → F.depth s k ≤ rank k) → F.depth s r ≤ rank r
      at-rule r h f =
          by_way r (way_of F s (rule R r)) (follows r h s)
          (every_way F (λ k. F.depth s k < rank r) s (rule R r)
          (λ k n. let a : F.depth s k ≤ rank k = f k n in let b : rank k < rank r = named-falls S r k h n in omega arith)
          (λ k n. let a : F.depth s k ≤ rank k = f k n in let b : rank k < rank r = named-falls S r k h n in
          let e : F.depth s (F.representative k) ≡ F.depth s k = (representative-copies k (named-below S r k h n) s).depth in omega arith))

  -- a step is one deeper
  pub depth_falls : (s : Side) (r : ℕ) → r < length R → 0 < (facts_of R).depth s r → (facts_of R).depth s r ≡ suc ((facts_of R).depth s ((facts_of R).toward s r))
  depth_falls s = by_rank S Falls at-rule
    where
      F : Facts
      F = facts_of R

      Falls : ℕ → Type 0
      Falls r = 0 < F.depth s r → F.depth s r ≡ suc (F.depth s (F.toward s r))

      by_way : (r : ℕ) (w : Way) → Follows F s r w → Every Falls w → Falls r
      by_way r (copy k) e b z = e.depth ∙ b (let d = e.depth in omega arith) ∙ ap (λ (k : ℕ). suc (F.depth s k)) (sym e.toward)
      by_way r (step p) e b z = e.depth ∙ ap (λ (k : ℕ). suc (F.depth s k)) (sym e.toward)
      by_way r stay e b z = let d = e.depth in absurd (omega arith)

      at-rule : (r : ℕ) → r < length R → ((k : ℕ) → Names (rule R r) k → Falls k) → Falls r
      at-rule r h f =
          by_way r (way_of F s (rule R r)) (follows r h s)
          (every_way F Falls s (rule R r) f
          (λ k n z. let e = representative-copies k (named-below S r k h n) s in
          e.depth ∙ f k n (let d = e.depth in omega arith) ∙ ap (λ (k : ℕ). suc (F.depth s k)) (sym e.toward)))
