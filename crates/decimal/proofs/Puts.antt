-- Texts put one after the other are their text put at once, since each store goes to the next place. Assumes nothing.
use Prim.Native.Nat.{ℕ, suc, ◌+◌, ◌≤◌}
use native.Mathlib.Omega.{arith}
use mathlib.Core.Path.{◌≡◌, refl, sym, ap, ◌∙◌, subst}
use mathlib.Core.List.{List, [], ◌∷◌, ◌++◌}
use lib.ListN.{length, set, length-append}
use lib.Seq.{sets, length-sets}
use Rattle.decimal.specs.Put.{Put}

sets-append : (a b s : List ℕ) (at end : ℕ) → end ≡ at + length a → sets (sets s at a) end b ≡ sets s at (a ++ b)
sets-append [] b s at end e = ap (λ (i : ℕ). sets s i b) (omega arith)
sets-append (x ∷ a) b s at end e = sets-append a b (set s at x) (suc at) end (omega arith)

put_then : {a s t : List ℕ} {at end : ℕ} (b : List ℕ) → Put a at s t end → sets t end b ≡ sets s at (a ++ b)
put_then {a} {s} {at = at} {end} b P = ap (λ (l : List ℕ). sets l end b) P.stored ∙ sets-append a b s at end P.ends

pub put-length : {a s t : List ℕ} {at end : ℕ} → Put a at s t end → length t ≡ length s
put-length {a} {s} {at = at} P = ap length P.stored ∙ length-sets s at a

-- one text and then another
pub put_both : {a b s t u : List ℕ} {at end last : ℕ} → Put a at s t end → Put b end t u last → Put (a ++ b) at s u last
put_both {a} {b} P Q =
    let l = length-append a b in
    let m = put-length P in
    record { stored = Q.stored ∙ put_then b P; ends = omega arith; room = omega arith }

-- what is left of a text once its first part is put
pub put_rest : {a b s t u : List ℕ} {at end last : ℕ} → Put a at s t end → Put (a ++ b) at s u last → Put b end t u last
put_rest {a} {b} P Q =
    let l = length-append a b in
    let m = put-length P in
    record { stored = Q.stored ∙ sym (put_then b P); ends = omega arith; room = omega arith }

-- the same text
pub put_as : {a b s t : List ℕ} {at end : ℕ} → a ≡ b → Put a at s t end → Put b at s t end
put_as {s = s} {t} {at} {end} e P = subst (λ (l : List ℕ). Put l at s t end) e P

-- a whole text, none of it put yet, and all of it put
pub put-start : (a s : List ℕ) (at : ℕ) → at + length a ≤ length s → Put a at s (sets s at a) (at + length a)
put-start a s at h = record { stored = refl; ends = refl; room = h }

pub put-end : {a b s t : List ℕ} {at end : ℕ} → a ≡ [] → Put a end t (sets s at b) (at + length b) → Put b at s t end
put-end {b = b} {s} {t} {at} {end} e P =
    let Q = put_as e P in
    let same : length t ≡ length s = ap length (sym Q.stored) ∙ length-sets s at b in
    record { stored = sym Q.stored; ends = omega arith; room = omega arith }
