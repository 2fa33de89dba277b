-- What the kinds of right-hand sides say of each other, and the cases of `filling`. Assumes nothing.
use Prim.Native.Nat.{ℕ}
use mathlib.Core.Bool.{Bool, true, false, false≢true}
use mathlib.Core.Path.{◌≡◌, refl, sym}
use lib.Dec.{T}
use Rattle.rule.specs.declared.Rule.{Rule}
use Rattle.rule.specs.Rule.{encode, closed, holed, tree}
use Rattle.forest.proofs.Cases.{by_bool}
use Rattle.copy_variants.specs.declared.Variants.{Variants}
use Rattle.copy_variants.specs.Variants.{filling, kind_of}

pub holds : {b : Bool} → b ≡ true → T b
holds e = rw e tt

-- whether a rule is a pair
unfoldable pub is_pair : Rule → Bool
is_pair Rule.Empty = false
is_pair (Rule.Pair b c) = true
is_pair (Rule.Node a c) = false
is_pair (Rule.Fill b c) = false
is_pair (Rule.Part a b c) = false
is_pair (Rule.Join b c) = false

-- a rule is closed or holed
pub not-holed : (x : Rule) → holed (kind_of x) ≡ false → T (closed (kind_of x))
unfolding holed closed encode
not-holed Rule.Empty e = tt
not-holed (Rule.Pair b c) e = tt
not-holed (Rule.Node a c) e = tt
not-holed (Rule.Fill b c) e = tt
not-holed (Rule.Part a b c) e = absurd (false≢true (sym e))
not-holed (Rule.Join b c) e = absurd (false≢true (sym e))

pub not-closed : (x : Rule) → T (closed (kind_of x)) → holed (kind_of x) ≡ false
unfolding holed closed encode
not-closed Rule.Empty t = refl
not-closed (Rule.Pair b c) t = refl
not-closed (Rule.Node a c) t = refl
not-closed (Rule.Fill b c) t = refl
not-closed (Rule.Part a b c) t = absurd t
not-closed (Rule.Join b c) t = absurd t

-- a tree is closed; trees and holed rules are no pairs
pub tree-closed : (x : Rule) → T (tree (kind_of x)) → T (closed (kind_of x))
unfolding tree closed encode
tree-closed Rule.Empty t = tt
tree-closed (Rule.Pair b c) t = tt
tree-closed (Rule.Node a c) t = tt
tree-closed (Rule.Fill b c) t = tt
tree-closed (Rule.Part a b c) t = absurd t
tree-closed (Rule.Join b c) t = absurd t

pub tree-single : (x : Rule) → T (tree (kind_of x)) → is_pair x ≡ false
unfolding tree is_pair encode
tree-single Rule.Empty t = refl
tree-single (Rule.Pair b c) t = absurd t
tree-single (Rule.Node a c) t = refl
tree-single (Rule.Fill b c) t = refl
tree-single (Rule.Part a b c) t = refl
tree-single (Rule.Join b c) t = refl

pub holed-single : (x : Rule) → T (holed (kind_of x)) → is_pair x ≡ false
unfolding holed is_pair encode
holed-single Rule.Empty t = refl
holed-single (Rule.Pair b c) t = absurd t
holed-single (Rule.Node a c) t = refl
holed-single (Rule.Fill b c) t = refl
holed-single (Rule.Part a b c) t = refl
holed-single (Rule.Join b c) t = refl

-- what is neither holed nor a tree nor a pair is empty
pub nothing-else : (x : Rule) → holed (kind_of x) ≡ false → tree (kind_of x) ≡ false → is_pair x ≡ false → x ≡ Rule.Empty
unfolding holed tree is_pair encode
nothing-else Rule.Empty e f g = refl
nothing-else (Rule.Pair b c) e f g = absurd (false≢true (sym g))
nothing-else (Rule.Node a c) e f g = absurd (false≢true (sym f))
nothing-else (Rule.Fill b c) e f g = absurd (false≢true (sym f))
nothing-else (Rule.Part a b c) e f g = absurd (false≢true (sym e))
nothing-else (Rule.Join b c) e f g = absurd (false≢true (sym e))

-- the cases of a filling, each with its tests
pub filling-cases : (P : Rule → Type 0) (w : Variants) (b : ℕ) (z : Rule) (c : ℕ)
    → (holed (kind_of w.whole) ≡ false → P w.whole)
    → (holed (kind_of w.whole) ≡ true → holed (kind_of z) ≡ true → P (Rule.Join b c))
    → (holed (kind_of w.whole) ≡ true → holed (kind_of z) ≡ false → tree (kind_of z) ≡ true → P (Rule.Fill b c))
    → (holed (kind_of z) ≡ false → tree (kind_of z) ≡ false → P w.shut)
    → P (filling w b z c)
unfolding filling
filling-cases P w b z c cut join fill shut =
    by_bool (holed (kind_of w.whole))
    (λ e. by_bool (holed (kind_of z)) (λ f. rw (e, f) (join e f)) (λ f. by_bool (tree (kind_of z)) (λ g. rw (e, f, g) (fill e f g)) (λ g. rw (e, f, g) (shut f g))))
    (λ e. rw e (cut e))
