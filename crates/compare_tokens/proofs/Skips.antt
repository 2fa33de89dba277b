-- What comparing tokens does at each pair of tokens, and past a list that both begin with. Assumes nothing.
use Prim.Native.Nat.{ℕ, suc, ◌+◌}
use native.Mathlib.Nat.{zero-add}
use native.Mathlib.Omega.{arith}
use mathlib.Core.Path.{◌≡◌, refl, ◌∙◌, ap}
use mathlib.Core.Bool.{true, false}
use mathlib.Core.List.{List, [], ◌∷◌, ◌++◌}
use lib.Dec.{eqb}
use borrow.Author.Tests.{eq-eqb, ne_eqb}
use Rattle.forest.specs.Forest.{Forest, weigh, one}
use Rattle.forest.specs.Spelling.{spelled, in_tokens}
use Rattle.forest.specs.Compare.{Found, further}
use Rattle.forest.proofs.Cases.{by_bool}
use Rattle.compare_tokens.specs.Tokens.{tokens, closing, differs, openings, ahead}

-- both ended; one ended; two tokens that differ
pub differs-ends : differs [] [] ≡ (true, 0)
unfolding differs
differs-ends = refl

pub differs-left-ends : (y : ℕ) (ys : List ℕ) → differs [] (y ∷ ys) ≡ (false, 1)
unfolding differs
differs-left-ends y ys = refl

pub differs-right-ends : (x : ℕ) (xs : List ℕ) → differs (x ∷ xs) [] ≡ (false, 1)
unfolding differs
differs-right-ends x xs = refl

pub differs-here : (x y : ℕ) (xs ys : List ℕ) → (x ≡ y → ⊥) → differs (x ∷ xs) (y ∷ ys) ≡ (false, 1)
unfolding differs
differs-here x y xs ys n = rw (ne_eqb x y n)

-- the same token: a closing counts nothing, an opening one
pub differs-closing : (xs ys : List ℕ) → differs (closing ∷ xs) (closing ∷ ys) ≡ differs xs ys
unfolding differs
differs-closing xs ys = refl

pub differs-opening : (a : ℕ) (xs ys : List ℕ) → differs (suc a ∷ xs) (suc a ∷ ys) ≡ ahead 1 (differs xs ys)
unfolding differs
differs-opening a xs ys =
    rw (eq-eqb (suc a) (suc a) refl, ne_eqb (suc a) closing (λ q. omega arith))
    (ap (λ (k : ℕ). ((differs xs ys).0, k)) (omega arith))

pub ahead_none : (x : Found) → ahead 0 x ≡ x
ahead_none x = ap (λ (k : ℕ). (x.0, k)) (zero-add x.1)

pub ahead-ahead : (m n : ℕ) (x : Found) → ahead m (ahead n x) ≡ ahead (m + n) x
ahead-ahead m n x = let e : m + (n + x.1) ≡ m + n + x.1 = omega arith in ap (λ (k : ℕ). (x.0, k)) e

further-ahead : (k : ℕ) (x : Found) → further (ahead k x) ≡ ahead (suc k) x
further-ahead k x = let e : suc (k + x.1) ≡ suc k + x.1 = omega arith in ap (λ (n : ℕ). (x.0, n)) e

-- what both begin with is skipped, and counts the nodes that it opens
pub differs-skip : (xs ys zs : List ℕ) → differs (xs ++ ys) (xs ++ zs) ≡ ahead (openings xs) (differs ys zs)
unfolding differs openings
differs-skip [] ys zs = rw (zero-add (differs ys zs).1)
differs-skip (x ∷ xs) ys zs =
    rw (eq-eqb x x refl)
    (by_bool (eqb x closing)
    (λ u. rw u (differs-skip xs ys zs))
    (λ u. rw u (ap further (differs-skip xs ys zs) ∙ further-ahead (openings xs) (differs ys zs))))

-- the nodes of two lists, and of a forest
pub openings-append : (xs ys : List ℕ) → openings (xs ++ ys) ≡ openings xs + openings ys
unfolding openings
openings-append [] ys = omega arith
openings-append (x ∷ xs) ys =
    let h : openings (xs ++ ys) ≡ openings xs + openings ys = openings-append xs ys in
    by_bool (eqb x closing) (λ u. rw u h) (λ u. rw u (omega arith))

pub openings-tokens : (g : Forest ℕ) → openings (tokens g) ≡ weigh one g
unfolding spelled in_tokens openings weigh
openings-tokens Forest.none = refl
openings-tokens (Forest.tree a c f) =
    rw (ne_eqb (suc a) closing (λ q. omega arith), openings-append (tokens c) (closing ∷ tokens f))
    (omega (arith, openings-tokens c, openings-tokens f))
