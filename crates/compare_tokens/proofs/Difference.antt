-- Two forests differ at the same node whether their nodes are compared with levels or their tokens: where one closes a node and the other
-- opens one, the next nodes' levels differ, or one list has ended. By recursion over the first forest, whatever follows both.
-- Assumes nothing.
use Prim.Native.Nat.{ℕ, suc}
use native.Mathlib.Omega.{arith}
use mathlib.Core.Path.{◌≡◌, refl, sym, ◌∙◌, ap}
use mathlib.Core.Bool.{Bool, true, false, ◌&&◌}
use mathlib.Core.List.{List, [], ◌∷◌, ◌++◌, append_assoc, append-nil}
use lib.Dec.{eqb}
use borrow.Author.Tests.{eqb-true, eqb-false, eq-eqb, ne_eqb}
use Rattle.forest.specs.Forest.{Forest}
use Rattle.forest.specs.Spelling.{spelled, in_tokens}
use Rattle.forest.specs.Compare.{listed, same_node, further, found}
use Rattle.forest.proofs.Cases.{by_bool}
use Rattle.forest.proofs.Listed.{Above, above_listed}
use Rattle.compare_tokens.specs.Tokens.{tokens, closing, differs}

-- tokens that open nothing more at this level
data Shut : List ℕ → Type 0 where
  ended : Shut []
  closes : {ts : List ℕ} → Shut (closing ∷ ts)

-- what is shut differs from an opening
shut-left : {ts : List ℕ} (b : ℕ) (us : List ℕ) → Shut ts → differs ts (suc b ∷ us) ≡ (false, 1)
unfolding differs
shut-left b us ended = refl
shut-left b us closes = rw (ne_eqb closing (suc b) (λ q. omega arith))

shut-right : {ts : List ℕ} (b : ℕ) (us : List ℕ) → Shut ts → differs (suc b ∷ us) ts ≡ (false, 1)
unfolding differs
shut-right b us ended = refl
shut-right b us closes = rw (ne_eqb (suc b) closing (λ q. omega arith))

other-level : (a b d e : ℕ) → (d ≡ e → ⊥) → same_node (a, d) (b, e) ≡ false
unfolding same_node
other-level a b d e n = rw (ne_eqb d e n) (and-false (eqb a b))
  where
    and-false : (t : Bool) → t && false ≡ false
    and-false true = refl
    and-false false = refl

above-left : {d : ℕ} {ns : List (ℕ × ℕ)} (b : ℕ) (ms : List (ℕ × ℕ)) → Above d ns → found ns ((b, d) ∷ ms) ≡ (false, 1)
unfolding found
above-left b ms Above.ended = refl
above-left {d} b ms (Above.higher {a} {e} l) = rw (other-level a b e d (λ q. omega arith))

above-right : {d : ℕ} {ns : List (ℕ × ℕ)} (b : ℕ) (ms : List (ℕ × ℕ)) → Above d ns → found ((b, d) ∷ ms) ns ≡ (false, 1)
unfolding found
above-right b ms Above.ended = refl
above-right {d} b ms (Above.higher {a} {e} l) = rw (other-level b a d e (λ q. omega arith))

-- two lists of tokens, and two of nodes, with the same first difference
abbrev Agree : List ℕ → List ℕ → List (ℕ × ℕ) → List (ℕ × ℕ) → Type 0
Agree ts us ns ms = differs ts us ≡ found ns ms

-- a closing each
agree-close : (ts us : List ℕ) (ns ms : List (ℕ × ℕ)) → Agree ts us ns ms → Agree (closing ∷ ts) (closing ∷ us) ns ms
unfolding differs
agree-close ts us ns ms h = h

-- an opening each
agree-open : (a b d : ℕ) (ts us : List ℕ) (ns ms : List (ℕ × ℕ)) → Agree ts us ns ms → Agree (suc a ∷ ts) (suc b ∷ us) ((a, d) ∷ ns) ((b, d) ∷ ms)
unfolding differs found same_node
agree-open a b d ts us ns ms h =
    by_bool (eqb a b)
    (λ u.
    rw (eq-eqb (suc a) (suc b) (ap suc (eqb-true a b u)), u, eq-eqb d d refl, ne_eqb (suc a) closing (λ q. omega arith)) (ap further h))
    (λ u. rw (ne_eqb (suc a) (suc b) (λ q. eqb-false a b u (omega arith)), u))

-- whatever follows both: tokens that are shut, nodes above the level, and a first difference that is the same
agree : (f g : Forest ℕ) (d : ℕ) (ts us : List ℕ) (ns ms : List (ℕ × ℕ)) → Shut ts → Shut us → Above d ns → Above d ms → Agree ts us ns ms
    → Agree (tokens f ++ ts) (tokens g ++ us) (listed d f ++ ns) (listed d g ++ ms)
unfolding spelled in_tokens listed
agree Forest.none Forest.none d ts us ns ms s t n m h = h
agree Forest.none (Forest.tree b c g) d ts us ns ms s t n m h =
    shut-left b ((tokens c ++ (closing ∷ tokens g)) ++ us) s ∙ sym (above-left b ((listed (suc d) c ++ listed d g) ++ ms) n)
agree (Forest.tree a c f) Forest.none d ts us ns ms s t n m h =
    shut-right a ((tokens c ++ (closing ∷ tokens f)) ++ ts) t ∙ sym (above-right a ((listed (suc d) c ++ listed d f) ++ ns) m)
agree (Forest.tree a c f) (Forest.tree b k g) d ts us ns ms s t n m h =
    agree-open a b d ((tokens c ++ (closing ∷ tokens f)) ++ ts) ((tokens k ++ (closing ∷ tokens g)) ++ us) ((listed (suc d) c ++ listed d f) ++ ns) ((listed (suc d) k ++ listed d g) ++ ms)
    (rw (
      append_assoc (tokens c) (closing ∷ tokens f) ts,
      append_assoc (tokens k) (closing ∷ tokens g) us,
      append_assoc (listed (suc d) c) (listed d f) ns,
      append_assoc (listed (suc d) k) (listed d g) ms,
    )
    (agree c k (suc d) (closing ∷ (tokens f ++ ts)) (closing ∷ (tokens g ++ us)) (listed d f ++ ns) (listed d g ++ ms) closes closes (above_listed d f ns n) (above_listed d g ms m)
    (agree-close (tokens f ++ ts) (tokens g ++ us) (listed d f ++ ns) (listed d g ++ ms) (agree f g d ts us ns ms s t n m h))))

-- the tokens of two forests differ where their nodes do
pub same-difference : (f g : Forest ℕ) → differs (tokens f) (tokens g) ≡ found (listed 0 f) (listed 0 g)
unfolding differs found
same-difference f g =
    rw (append-nil (tokens f), append-nil (tokens g), append-nil (listed 0 f), append-nil (listed 0 g)) at
    (agree f g 0 [] [] [] [] Shut.ended Shut.ended Above.ended Above.ended refl)
