-- Facts that tell the truth about every expression inside a well-sorted one. A one-sided pair has the facts of its non-empty
-- side, so the facts of an expression are those of its representative, and one step down a two-sided pair or a join is a
-- step of the numbers.
-- Assumes nothing.
use Prim.Native.Nat.{ℕ, suc}
use native.Mathlib.Omega.{arith}
use mathlib.Core.Path.{◌≡◌, refl, sym, ap, ◌∙◌}
use mathlib.Core.Bool.{false}
use Rattle.rule.specs.declared.Rule.{Rule}
use Rattle.rule.specs.Sound.{rule}
use Rattle.forest.specs.Expression.{Expression, rule_number}
use Rattle.forest.specs.Place.{Side, is_empty, representative}
use Rattle.forest.specs.Sides.{pick}
use Rattle.forest.specs.Good.{Sort}
use Rattle.model.specs.Facts.{Facts, toward, last, depth}
use Rattle.model.specs.Model.{outer, outer_of}
use Rattle.model.proofs.Cells.{Steps}
use Rattle.forest.proofs.Cases.{by_bool}

-- the right-hand side of an expression's rule
unfoldable pub shape : Expression → Rule
unfolding rule_number
shape (Expression.empty r) = Rule.Empty
shape (Expression.pair r b c) = Rule.Pair (rule_number b) (rule_number c)
shape (Expression.node r a c) = Rule.Node a (rule_number c)
shape (Expression.fill r b c) = Rule.Fill (rule_number b) (rule_number c)
shape (Expression.part r a b c) = Rule.Part a (rule_number b) (rule_number c)
shape (Expression.join r b c) = Rule.Join (rule_number b) (rule_number c)

-- the facts tell the truth about e's rule
pub record Tells (F : Facts) (e : Expression) : Type 0 where
  pub rule : F.rule (rule_number e) ≡ shape e
  pub empties : F.is_empty (rule_number e) ≡ is_empty e
  pub represents : F.representative (rule_number e) ≡ representative e
  pub steps : (s : Side) → F.toward s (rule_number e) ≡ toward s e
  pub ends : (s : Side) → F.last s (rule_number e) ≡ last s e
  pub deep : (s : Side) → F.depth s (rule_number e) ≡ depth s e

-- e is of that sort, and the facts tell the truth about it and every expression inside it
pub data Fit (F : Facts) : Sort → Expression → Type 0 where
  empty : {r : ℕ} → Tells F (Expression.empty r) → Fit F Sort.row (Expression.empty r)
  pair : {r : ℕ} {b c : Expression} → Tells F (Expression.pair r b c) → Fit F Sort.row b → Fit F Sort.row c → Fit F Sort.row (Expression.pair r b c)
  grown : {e : Expression} → Fit F Sort.tree e → Fit F Sort.row e
  node : {r a : ℕ} {c : Expression} → Tells F (Expression.node r a c) → Fit F Sort.row c → Fit F Sort.tree (Expression.node r a c)
  fill : {r : ℕ} {b c : Expression} → Tells F (Expression.fill r b c) → Fit F Sort.spine b → Fit F Sort.tree c → Fit F Sort.tree (Expression.fill r b c)
  part : {r a : ℕ} {b c : Expression} → Tells F (Expression.part r a b c) → Fit F Sort.row b → Fit F Sort.row c → Fit F Sort.spine (Expression.part r a b c)
  join : {r : ℕ} {b c : Expression} → Tells F (Expression.join r b c) → Fit F Sort.spine b → Fit F Sort.spine c → Fit F Sort.spine (Expression.join r b c)

pub tells : (F : Facts) (k : Sort) (e : Expression) → Fit F k e → Tells F e
tells F k e (empty t) = t
tells F k e (pair t b c) = t
tells F k e (grown g) = tells F Sort.tree e g
tells F k e (node t c) = t
tells F k e (fill t b c) = t
tells F k e (part t b c) = t
tells F k e (join t b c) = t

-- the rule v has the run facts of e
pub record Stands (F : Facts) (e : Expression) (v : ℕ) : Type 0 where
  pub steps : (s : Side) → F.toward s v ≡ toward s e
  pub ends : (s : Side) → F.last s v ≡ last s e
  pub deep : (s : Side) → F.depth s v ≡ depth s e

tells-stands : (F : Facts) (e : Expression) → Tells F e → Stands F e (rule_number e)
tells-stands F e t = record { steps = t.steps; ends = t.ends; deep = t.deep }

pair-stands : (F : Facts) (r : ℕ) (b c : Expression) → Tells F (Expression.pair r b c) → Stands F b (representative b) → Stands F c (representative c) → Stands F (Expression.pair r b c) (representative (Expression.pair r b c))
unfolding representative toward last depth rule_number
pair-stands F r b c t hb hc =
    by_bool (is_empty b)
    (λ u. record { steps = λ s. rw u (hc.steps s); ends = λ s. rw u (hc.ends s); deep = λ s. rw u (hc.deep s) })
    (λ u. by_bool (is_empty c)
    (λ v. record { steps = λ s. rw (u, v) (hb.steps s); ends = λ s. rw (u, v) (hb.ends s); deep = λ s. rw (u, v) (hb.deep s) })
    (λ v. record {
      steps = λ s. rw (u, v) (rw (u, v) at (t.steps s));
      ends = λ s. rw (u, v) (rw (u, v) at (t.ends s));
      deep = λ s. rw (u, v) (rw (u, v) at (t.deep s));
    }))

-- the representative of an expression has its run facts
pub represents : (F : Facts) (k : Sort) (e : Expression) → Fit F k e → Stands F e (representative e)
unfolding representative rule_number
represents F k e (empty {r} t) = tells-stands F (Expression.empty r) t
represents F k e (pair {r} {b} {c} t gb gc) = pair-stands F r b c t (represents F Sort.row b gb) (represents F Sort.row c gc)
represents F k e (grown g) = represents F Sort.tree e g
represents F k e (node {r} {a} {c} t gc) = tells-stands F (Expression.node r a c) t
represents F k e (fill {r} {b} {c} t gb gc) = tells-stands F (Expression.fill r b c) t
represents F k e (part {r} {a} {b} {c} t gb gc) = tells-stands F (Expression.part r a b c) t
represents F k e (join {r} {b} {c} t gb gc) = tells-stands F (Expression.join r b c) t

-- what stands in a spine represents itself
pub spine-itself : (F : Facts) (e : Expression) → Fit F Sort.spine e → representative e ≡ rule_number e
unfolding representative rule_number
spine-itself F e (part t b c) = refl
spine-itself F e (join t b c) = refl

-- a run of no steps ends where it begins
pair-leaf : (s : Side) (r : ℕ) (b c : Expression) → (depth s b ≡ 0 → last s b ≡ representative b) → (depth s c ≡ 0 → last s c ≡ representative c) → depth s (Expression.pair r b c) ≡ 0 → last s (Expression.pair r b c) ≡ representative (Expression.pair r b c)
unfolding depth last representative
pair-leaf s r b c hb hc =
    by_bool (is_empty b) (λ u. rw u hc)
    (λ u. by_bool (is_empty c) (λ v. rw (u, v) hb) (λ v. rw (u, v) (λ z. absurd (let k : ⊥ = omega arith in k))))

leaf : (s : Side) (e : Expression) → depth s e ≡ 0 → last s e ≡ representative e
unfolding depth last representative
leaf s (Expression.empty r) z = refl
leaf s (Expression.pair r b c) z = pair-leaf s r b c (leaf s b) (leaf s c) z
leaf s (Expression.node r a c) z = refl
leaf s (Expression.fill r b c) z = refl
leaf s (Expression.part r a b c) z = refl
leaf s (Expression.join r b c) z = absurd (let k : ⊥ = omega arith in k)

-- a side's part of a pair of results
pub pick-map : {A B : Type 0} (f : A → B) (s : Side) (b c : A) → pick s (f b) (f c) ≡ f (pick s b c)
unfolding pick
pick-map f Side.left b c = refl
pick-map f Side.right b c = refl

-- one step down a two-sided pair, and down a join
steps-to : (F : Facts) (s : Side) (a v : ℕ) (x e : Expression) → Stands F x a → Stands F e v → representative e ≡ v → toward s x ≡ v → depth s x ≡ suc (depth s e) → last s x ≡ last s e → Steps F s a v
steps-to F s a v x e hx he q p d l =
    record {
      leads = hx.steps s ∙ p;
      deep = hx.deep s ∙ d ∙ ap suc (sym (he.deep s));
      ends = hx.ends s ∙ l ∙ sym (he.ends s);
      leaf = λ z. he.ends s ∙ leaf s e (sym (he.deep s) ∙ z) ∙ q;
    }

pub picked : (P : Expression → Type 0) (s : Side) (b c : Expression) → P b → P c → P (pick s b c)
unfolding pick
picked P Side.left b c x y = x
picked P Side.right b c x y = y

pub pair-steps : (F : Facts) (s : Side) (r : ℕ) (b c : Expression) → Fit F Sort.row (Expression.pair r b c) → is_empty b ≡ false → is_empty c ≡ false → Steps F s r (representative (pick s b c))
unfolding toward depth last rule_number
pair-steps F s r b c (pair t gb gc) u v =
    steps-to F s r (representative (pick s b c)) (Expression.pair r b c) (pick s b c) (tells-stands F (Expression.pair r b c) t)
    (represents F Sort.row (pick s b c) (picked (Fit F Sort.row) s b c gb gc)) refl
    (rw (u, v)) (rw (u, v) (ap suc (pick-map (depth s) s b c))) (rw (u, v) (pick-map (last s) s b c))
pair-steps F s r b c (grown x) u v = elim x [ ]

pub join-steps : (F : Facts) (s : Side) (r : ℕ) (b c : Expression) → Fit F Sort.spine (Expression.join r b c) → Steps F s r (rule_number (pick s b c))
unfolding toward depth last rule_number
join-steps F s r b c (join t gb gc) =
    let g : Fit F Sort.spine (pick s b c) = picked (Fit F Sort.spine) s b c gb gc in
    steps-to F s r (rule_number (pick s b c)) (Expression.join r b c) (pick s b c) (tells-stands F (Expression.join r b c) t)
    (tells-stands F (pick s b c) (tells F Sort.spine (pick s b c) g)) (spine-itself F (pick s b c) g)
    refl (ap suc (pick-map (depth s) s b c)) (pick-map (last s) s b c)

-- what a tree's spine begins with
pub node-outer : (F : Facts) (r a : ℕ) (c : Expression) → Tells F (Expression.node r a c) → outer F r ≡ r
unfolding outer rule_number shape
node-outer F r a c t = ap (λ x. outer_of x r) t.rule

pub fill-outer : (F : Facts) (r : ℕ) (b c : Expression) → Tells F (Expression.fill r b c) → outer F r ≡ rule_number b
unfolding outer rule_number shape
fill-outer F r b c t = ap (λ x. outer_of x r) t.rule
