-- A plan of document 02's Note 14 told by a test that computes. Each part of the test is one field of Small; what is asked of every rule
-- is tested rule by rule, and what is asked of every byte byte by byte. Assumes nothing.
use Rattle.std.specs.Prelude.{Result, Ok, Err}
use Rattle.refusal.specs.declared.Refusal.{Refusal}
use Prim.Native.Nat.{ℕ, zero, suc, ◌+◌, ◌*◌, ◌<◌}
use native.Mathlib.Omega.{arith}
use native.Mathlib.Nat.{zero-add}
use mathlib.Core.Path.{◌≡◌, refl, sym, subst}
use mathlib.Core.Bool.{Bool, true, false, ◌&&◌}
use mathlib.Core.List.{List, [], ◌∷◌, Memᴰ}
use lib.ListN.{length, get_or}
use lib.Dec.{T, leb, ltb, eqb, leb→le, ltb→lt, eqb→eq}
use Rattle.words.specs.Number.{base}
use Rattle.record.specs.declared.Format.{Format}
use Rattle.record.specs.Format.{length_of_record}
use Rattle.rule.specs.declared.Rule.{Rule}
use Rattle.rule.specs.Rule.{labelled_to, every}
use Rattle.rule.specs.Sound.{rule}
use Rattle.rule.proofs.Names.{T-left, T-right}
use Rattle.plan.specs.declared.Checked.{Checked}
use Rattle.plan.specs.Check.{trailer_length, format_of, rules_of, checked}
use Rattle.plan_list.specs.Small.{most_listed, Small}

unfoldable pub is_narrow : Format → Bool
is_narrow Format.Narrow = true
is_narrow Format.Wide = false

unfoldable pub all_bytes : List ℕ → Bool
all_bytes [] = true
all_bytes (b ∷ bs) = ltb b base && all_bytes bs

-- rules from number i on: labels 0, and lower rules named alone
unfoldable pub rules_from : ℕ → List Rule → Bool
rules_from i [] = true
rules_from i (x ∷ xs) = (labelled_to 0 x && every (λ k. ltb k i) x) && rules_from (suc i) xs

unfoldable pub small_as : List ℕ → Result Checked Refusal → Bool
small_as s (Ok x) =
    (leb x.n most_listed && is_narrow (format_of s))
    && ((eqb (length s) (length_of_record (format_of s) * x.n + trailer_length) && all_bytes s) && rules_from 0 (rules_of s))
small_as s (Err r) = false

abbrev pub is_small : List ℕ → Bool
is_small s = small_as s (checked s)

unfoldable pub all_small : List (List ℕ) → Bool
all_small [] = true
all_small (s ∷ ss) = is_small s && all_small ss

narrow : (f : Format) → T (is_narrow f) → f ≡ Format.Narrow
unfolding is_narrow
narrow Format.Narrow t = refl
narrow Format.Wide t = absurd t

each-byte : (s : List ℕ) → T (all_bytes s) → (i : ℕ) → get_or s i 0 < base
unfolding all_bytes
each-byte [] t i = omega arith
each-byte (b ∷ bs) t zero = ltb→lt b base (T-left (ltb b base) (all_bytes bs) t)
each-byte (b ∷ bs) t (suc i) = each-byte bs (T-right (ltb b base) (all_bytes bs) t) i

each-rule : (i : ℕ) (R : List Rule) → T (rules_from i R) → (r : ℕ) → r < length R
    → T (labelled_to 0 (rule R r)) × T (every (λ k. ltb k (i + r)) (rule R r))
unfolding rules_from rule
each-rule i [] t r h = absurd (omega arith)
each-rule i (x ∷ xs) t zero h =
    let both = T-left (labelled_to 0 x && every (λ k. ltb k i) x) (rules_from (suc i) xs) t in
    let e : i + 0 ≡ i = omega arith in
    (T-left (labelled_to 0 x) (every (λ k. ltb k i) x) both, rw e (T-right (labelled_to 0 x) (every (λ k. ltb k i) x) both))
each-rule i (x ∷ xs) t (suc r) h =
    let e : i + suc r ≡ suc i + r = omega arith in
    rw e (each-rule (suc i) xs (T-right (labelled_to 0 x && every (λ k. ltb k i) x) (rules_from (suc i) xs) t) r (omega arith))

small-as : (s : List ℕ) (x : Result Checked Refusal) → checked s ≡ x → T (small_as s x) → Small s
unfolding small_as
small-as s (Err r) e t = absurd t
small-as s (Ok x) e t =
    let kind = T-left (leb x.n most_listed && is_narrow (format_of s)) _ t in
    let rest = T-right (leb x.n most_listed && is_narrow (format_of s)) _ t in
    let long = eqb (length s) (length_of_record (format_of s) * x.n + trailer_length) in
    let bytes = T-left (long && all_bytes s) (rules_from 0 (rules_of s)) rest in
    let rules = T-right (long && all_bytes s) (rules_from 0 (rules_of s)) rest in
    record {
      n = x.n;
      start = x.start;
      bytes = each-byte s (T-right long (all_bytes s) bytes);
      accepted = e;
      few = leb→le x.n most_listed (T-left (leb x.n most_listed) (is_narrow (format_of s)) kind);
      byte_label = narrow (format_of s) (T-right (leb x.n most_listed) (is_narrow (format_of s)) kind);
      no_prefix = eqb→eq _ _ (T-left long (all_bytes s) bytes);
      zero_labels = λ r h. (each-rule 0 (rules_of s) rules r h).0;
      lower = λ r h. rw (zero-add r) at (each-rule 0 (rules_of s) rules r h).1;
    }

-- each of plans that pass the test is one of the note's
pub each-small : (l : List (List ℕ)) → T (all_small l) → (s : List ℕ) → Memᴰ s l → Small s
unfolding all_small
each-small [] t s m = elim m [ ]
each-small (x ∷ xs) t s (Memᴰ.head e) =
    let same : T (is_small s) = subst (λ (y : List ℕ). T (is_small y)) (sym e) (T-left (is_small x) (all_small xs) t) in
    small-as s (checked s) refl same
each-small (x ∷ xs) t s (Memᴰ.tail m) = each-small xs (T-right (is_small x) (all_small xs) t) s m
