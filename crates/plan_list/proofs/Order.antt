-- No plan of a list in order is there again: it would be before itself. Assumes nothing.
use Prim.Native.Nat.{ℕ}
use native.Mathlib.Omega.{arith}
use mathlib.Core.Path.{◌≡◌, refl, sym, subst}
use mathlib.Core.Bool.{true, and-eq-true_iff, false≢true}
use mathlib.Core.List.{List, [], ◌∷◌, Memᴰ}
use borrow.Author.Tests.{le-ltb, eq-eqb}
use Rattle.plan_list.specs.Listed.{listed}
use Rattle.plan_list.specs.Order.{key, before, before_all, ascending, Once}
use Rattle.plan_list.proofs.Counted.{counted}

not-before : (k : List ℕ) → before k k ≡ true → ⊥
unfolding before
not-before [] e = false≢true e
not-before (x ∷ xs) e = not-before xs (rw (le-ltb x x (omega arith), eq-eqb x x refl) at e)

before-each : (k : List ℕ) (l : List (List ℕ)) → before_all k l ≡ true → (s : List ℕ) → Memᴰ s l → before k (key s) ≡ true
unfolding before_all
before-each k [] e s m = elim m [ ]
before-each k (x ∷ xs) e s (Memᴰ.head q) =
    subst (λ (y : List ℕ). before k (key y) ≡ true) (sym q) ((and-eq-true_iff (before k (key x)) (before_all k xs)).0 e).0
before-each k (x ∷ xs) e s (Memᴰ.tail m) = before-each k xs ((and-eq-true_iff (before k (key x)) (before_all k xs)).0 e).1 s m

once : (l : List (List ℕ)) → ascending l ≡ true → Once l
unfolding ascending Once
once [] e = tt
once (s ∷ ss) e =
    let both = (and-eq-true_iff (before_all (key s) ss) (ascending ss)).0 e in
    (λ m. not-before (key s) (before-each (key s) ss both.0 s m), once ss both.1)

-- "each once"
pub listed-once : Once listed
listed-once = once listed counted.in_order
