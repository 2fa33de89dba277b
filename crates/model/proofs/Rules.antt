-- The facts of a plan's rules are true of every expression inside a rule's expression; so are any facts that agree with
-- them on the rules of the plan, since a sound rule names only such rules.
-- Assumes nothing.
use Prim.Native.Nat.{ℕ, ◌<◌}
use mathlib.Core.Path.{◌≡◌, refl, sym, ap, ◌∙◌}
use mathlib.Core.Bool.{Bool, true, false, ◌&&◌}
use mathlib.Core.List.{List}
use lib.ListN.{length}
use lib.Dec.{T, ltb, ltb→lt}
use Rattle.rule.specs.declared.Rule.{Rule}
use Rattle.rule.specs.Rule.{every}
use Rattle.rule.specs.Sound.{rule, Sound}
use Rattle.forest.specs.Expression.{Expression, expression, rule_number, rhs}
use Rattle.forest.specs.Place.{Side, is_empty, representative}
use Rattle.forest.specs.Good.{Sort, Good, Known}
use Rattle.model.specs.Facts.{Facts, toward, last, depth, facts_of}
use Rattle.model.proofs.Fit.{Fit, Tells, shape}
use Rattle.model.proofs.Ranged.{Every}

-- two names below n
two-lower : (n b c : ℕ) → T (ltb b n && ltb c n) → (b < n) × (c < n)
two-lower n b c t = go (ltb b n) refl t
  where
    go : (p : Bool) → ltb b n ≡ p → T (p && ltb c n) → (b < n) × (c < n)
    go true u t = (ltb→lt b n (rw u tt), ltb→lt c n t)
    go false u t = absurd t

-- the facts are true of rule e's expression, and it names only rules below n
pub record Told (F : Facts) (n : ℕ) (e : Expression) : Type 0 where
  pub tells : Tells F e
  pub names : T (every (λ x. ltb x n) (shape e))

-- a well-sorted expression that is what E gives for its number fits facts that are true of the rules below n
module _ (F : Facts) (E : ℕ → Expression) (n : ℕ) (told : (e : Expression) → E (rule_number e) ≡ e → rule_number e < n → Told F n e) where
  lower : (b c : ℕ) (e : Expression) → Told F n e → every (λ x. ltb x n) (shape e) ≡ ltb b n && ltb c n → (b < n) × (c < n)
  lower b c e t q = two-lower n b c (rw q at t.names)

  pub fits : (k : Sort) (e : Expression) → Good k e → Known E e → rule_number e < n → Fit F k e
  unfolding rule_number shape every
  fits k e Good.empty (Known.empty {r} q) l = Fit.empty (told (Expression.empty r) q l).tells
  fits k e (Good.grown g) x l = Fit.grown (fits Sort.tree e g x l)
  fits k e (Good.node gc) (Known.node {r} {a} {c} q kc) l =
      let t : Told F n (Expression.node r a c) = told (Expression.node r a c) q l in
      Fit.node t.tells (fits Sort.row c gc kc (ltb→lt (rule_number c) n t.names))
  fits k e (Good.pair gb gc) (Known.pair {r} {b} {c} q kb kc) l =
      let t : Told F n (Expression.pair r b c) = told (Expression.pair r b c) q l in
      let x : (rule_number b < n) × (rule_number c < n) = lower (rule_number b) (rule_number c) (Expression.pair r b c) t refl in
      Fit.pair t.tells (fits Sort.row b gb kb x.0) (fits Sort.row c gc kc x.1)
  fits k e (Good.fill gb gc) (Known.fill {r} {b} {c} q kb kc) l =
      let t : Told F n (Expression.fill r b c) = told (Expression.fill r b c) q l in
      let x : (rule_number b < n) × (rule_number c < n) = lower (rule_number b) (rule_number c) (Expression.fill r b c) t refl in
      Fit.fill t.tells (fits Sort.spine b gb kb x.0) (fits Sort.tree c gc kc x.1)
  fits k e (Good.part gb gc) (Known.part {r} {a} {b} {c} q kb kc) l =
      let t : Told F n (Expression.part r a b c) = told (Expression.part r a b c) q l in
      let x : (rule_number b < n) × (rule_number c < n) = lower (rule_number b) (rule_number c) (Expression.part r a b c) t refl in
      Fit.part t.tells (fits Sort.row b gb kb x.0) (fits Sort.row c gc kc x.1)
  fits k e (Good.join gb gc) (Known.join {r} {b} {c} q kb kc) l =
      let t : Told F n (Expression.join r b c) = told (Expression.join r b c) q l in
      let x : (rule_number b < n) × (rule_number c < n) = lower (rule_number b) (rule_number c) (Expression.join r b c) t refl in
      Fit.join t.tells (fits Sort.spine b gb kb x.0) (fits Sort.spine c gc kc x.1)

  -- and every rule inside it is below n
  pub inside : (e : Expression) → Known E e → rule_number e < n → Every (λ r. r < n) e
  unfolding rule_number shape every
  inside e (Known.empty q) l = Every.empty l
  inside e (Known.node {r} {a} {c} q kc) l = Every.node l (inside c kc (ltb→lt (rule_number c) n (told (Expression.node r a c) q l).names))
  inside e (Known.pair {r} {b} {c} q kb kc) l =
      let x : (rule_number b < n) × (rule_number c < n) = lower (rule_number b) (rule_number c) (Expression.pair r b c) (told (Expression.pair r b c) q l) refl in
      Every.pair l (inside b kb x.0) (inside c kc x.1)
  inside e (Known.fill {r} {b} {c} q kb kc) l =
      let x : (rule_number b < n) × (rule_number c < n) = lower (rule_number b) (rule_number c) (Expression.fill r b c) (told (Expression.fill r b c) q l) refl in
      Every.fill l (inside b kb x.0) (inside c kc x.1)
  inside e (Known.part {r} {a} {b} {c} q kb kc) l =
      let x : (rule_number b < n) × (rule_number c < n) = lower (rule_number b) (rule_number c) (Expression.part r a b c) (told (Expression.part r a b c) q l) refl in
      Every.part l (inside b kb x.0) (inside c kc x.1)
  inside e (Known.join {r} {b} {c} q kb kc) l =
      let x : (rule_number b < n) × (rule_number c < n) = lower (rule_number b) (rule_number c) (Expression.join r b c) (told (Expression.join r b c) q l) refl in
      Every.join l (inside b kb x.0) (inside c kc x.1)

-- the facts agree with those of the plan's rules at rule r
pub record Agrees (F : Facts) (R : List Rule) (r : ℕ) : Type 0 where
  pub rules : F.rule r ≡ rule R r
  pub empties : F.is_empty r ≡ is_empty (expression R r)
  pub represents : F.representative r ≡ representative (expression R r)
  pub steps : (s : Side) → F.toward s r ≡ toward s (expression R r)
  pub ends : (s : Side) → F.last s r ≡ last s (expression R r)
  pub deep : (s : Side) → F.depth s r ≡ depth s (expression R r)

pub facts-agree : (R : List Rule) (r : ℕ) → Agrees (facts_of R) R r
unfolding facts_of
facts-agree R r = record { rules = refl; empties = refl; represents = refl; steps = λ s. refl; ends = λ s. refl; deep = λ s. refl }

-- the shape of a right-hand side is the rule
shape-rhs : (r : ℕ) (q : Rule) (E : ℕ → Expression) → ((x : ℕ) → rule_number (E x) ≡ x) → shape (rhs r q E) ≡ q
unfolding shape rhs
shape-rhs r Rule.Empty E h = refl
shape-rhs r (Rule.Pair b c) E h = rw (h b, h c)
shape-rhs r (Rule.Node a c) E h = rw (h c)
shape-rhs r (Rule.Fill b c) E h = rw (h b, h c)
shape-rhs r (Rule.Part a b c) E h = rw (h b, h c)
shape-rhs r (Rule.Join b c) E h = rw (h b, h c)

-- Facts that agree with a sound plan's rules are true of every expression inside a rule's. The unfolding equation and the
-- number of a rule's expression are laws of expressions.
module _ (R : List Rule) (rank : ℕ → ℕ) (sound : Sound R rank)
    (numbers : (r : ℕ) → rule_number (expression R r) ≡ r)
    (unfolds : (r : ℕ) → r < length R → expression R r ≡ rhs r (rule R r) (expression R))
    (F : Facts) (agrees : (r : ℕ) → r < length R → Agrees F R r) where
  rule-shape : (r : ℕ) → r < length R → shape (expression R r) ≡ rule R r
  rule-shape r l = ap shape (unfolds r l) ∙ shape-rhs r (rule R r) (expression R) numbers

  tells-of : (e : Expression) → expression R (rule_number e) ≡ e → rule_number e < length R → Tells F e
  tells-of e q l =
      let a : Agrees F R (rule_number e) = agrees (rule_number e) l in
      record {
        rule = a.rules ∙ sym (rule-shape (rule_number e) l) ∙ ap shape q;
        empties = a.empties ∙ ap is_empty q;
        represents = a.represents ∙ ap representative q;
        steps = λ s. a.steps s ∙ ap (toward s) q;
        ends = λ s. a.ends s ∙ ap (last s) q;
        deep = λ s. a.deep s ∙ ap (depth s) q;
      }

  told_of : (e : Expression) → expression R (rule_number e) ≡ e → rule_number e < length R → Told F (length R) e
  told_of e q l =
      record {
        tells = tells-of e q l;
        names = rw (let p : shape e ≡ rule R (rule_number e) = sym (ap shape q) ∙ rule-shape (rule_number e) l in p) (sound.in_range (rule_number e) l);
      }

  pub rules-fit : (k : Sort) (r : ℕ) → r < length R → Good k (expression R r) → Known (expression R) (expression R r) → Fit F k (expression R r)
  rules-fit k r l g h = fits F (expression R) (length R) told_of k (expression R r) g h (rw (numbers r) l)

  pub rules-inside : (r : ℕ) → r < length R → Known (expression R) (expression R r) → Every (λ x. x < length R) (expression R r)
  rules-inside r l h = inside F (expression R) (length R) told_of (expression R r) h (rw (numbers r) l)
