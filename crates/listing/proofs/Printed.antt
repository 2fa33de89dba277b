-- What is left to print, candidate by candidate. The lines left before a candidate are its own, if it is listed, and those left after it.
-- A line has two digits for each byte, so none is longer than 69 bytes. Assumes nothing.
use Rattle.std.specs.Prelude.{Result, Ok, Err, is_ok}
use Rattle.refusal.specs.declared.Refusal.{Refusal}
use Rattle.plan.specs.declared.Checked.{Checked}
use Rattle.plan_list.specs.Listed.{is_accepted}
use Prim.Native.Nat.{ℕ, zero, suc, ◌+◌, ◌-◌, ◌*◌, ◌/◌, ◌%◌, ◌≤◌, ◌<◌}
use native.Mathlib.Omega.{arith}
use native.Mathlib.Numerals.{add-one}
use mathlib.Core.Path.{◌≡◌, refl, sym, ap, ◌∙◌}
use mathlib.Core.Bool.{Bool, true, false, cond, ◌&&◌}
use mathlib.Core.List.{List, [], ◌∷◌, ◌++◌}
use lib.ListN.{length, get_or, take, drop, length-append, length-drop}
use lib.Dec.{eqb}
use lib.Seq.{sets-eq, take_all}
use Rattle.std.proofs.Common.{inl, inr}
use Rattle.std.proofs.lemmas.Bool.{and_parts, cases_lt, eqb-true}
use Rattle.std.specs.Prelude.{slice_index}
use Rattle.hex.specs.Hex.{lower_digits, encode_with, encode_lower}
use Rattle.decimal.specs.Put.{Put, Next}
use Rattle.decimal.proofs.Next.{next-by, next-left}
use Rattle.decimal.proofs.Puts.{put_both}
use Rattle.plan.specs.Check.{checked}
use Rattle.plan_list.specs.Listed.{rule_bytes, three_rules, plan_of, candidates, rules_at, place_of, candidate, plain, wordless, is_accepted, is_listed, kept, listed}
use Rattle.plan_list.specs.Lines.{hex_digit, hexes, hex_line, lines_of, list_output}
use Rattle.listing.specs.Left.{Left, Candidate}

-- ---- a line
hexes-long : (s : List ℕ) → length (hexes s) ≡ 2 * length s
unfolding hexes
hexes-long [] = refl
hexes-long (b ∷ bs) = omega (arith, hexes-long bs)

pub line-long : (s : List ℕ) → length (hex_line s) ≡ 2 * length s + 1
unfolding hex_line
line-long s = omega (arith, length-append (hexes s) (10 ∷ []), hexes-long s)

-- the digits are those of the crate hex, one by one
abbrev same_digit : ℕ → Bool
same_digit v = eqb (slice_index lower_digits v) (hex_digit v)

abbrev same_digits : ℕ → Bool
same_digits zero = true
same_digits (suc n) = same_digit n && same_digits n

digit-of : (n v : ℕ) → same_digits n ≡ true → v < n → same_digit v ≡ true
digit-of zero v h lt = absurd (omega arith)
digit-of (suc n) v h lt =
    let parts = and_parts (same_digit n) (same_digits n) h in
    elim (cases_lt v n) [
      | inl below ↦ digit-of n v parts.1 below
      | inr top ↦
          let e : v ≡ n = omega arith in
          rw e parts.0
    ]

digits-same : same_digits 16 ≡ true
unfolding hex_digit
digits-same = refl

digit-at : (v : ℕ) → v < 16 → slice_index lower_digits v ≡ hex_digit v
digit-at v h = eqb-true _ _ (digit-of 16 v digits-same h)

pub hexes-encoded : (s : List ℕ) → ((k : ℕ) → get_or s k 0 < 256) → hexes s ≡ encode_lower s
unfolding hexes encode_with
hexes-encoded [] h = refl
hexes-encoded (b ∷ bs) h =
    let first = h 0 in
    let high = digit-at (b / 16) (omega arith) in
    let low = digit-at (b % 16) (omega arith) in
    let rest = hexes-encoded bs (λ k. h (suc k)) in
    cc

-- a text at the front of the output
put-first : {text new out : List ℕ} {n : ℕ} → new ≡ text → n ≡ length text → n ≤ length out → Put text 0 out (new ++ drop n out) n
put-first {text} {out = out} {n} e q h =
    let room : 0 + length text ≤ length out = omega arith in
    let ends : n ≡ 0 + length text = omega arith in
    record { stored = rw (e, ends) (sym (sets-eq text out 0 room)); ends = ends; room = room }

-- a line is those digits, and then its end
pub put-line : (plan : List ℕ) {digits out t : List ℕ} {n end : ℕ} → ((k : ℕ) → get_or plan k 0 < 256) → digits ≡ encode_lower plan → n ≡ 2 * length plan
    → n ≤ length out → Put (10 ∷ []) n (digits ++ drop n out) t end → Put (hex_line plan) 0 out t end
unfolding hex_line
put-line plan bytes e q h P = put_both (put-first (e ∙ sym (hexes-encoded plan bytes)) (q ∙ sym (hexes-long plan)) h) P

-- ---- what is left
module _ (i : ℕ) (h : i < candidates) where
  kept_step : kept (candidates - i) i ≡ cond (is_listed i) (candidate i ∷ kept (candidates - (i + 1)) (i + 1)) (kept (candidates - (i + 1)) (i + 1))
  unfolding kept
  kept_step = let e : candidates - i ≡ suc (candidates - suc i) = omega arith in rw (add-one i, e)

  left-without : {done : ℕ} → Left i done → is_listed i ≡ false → Left (i + 1) done
  left-without L e = record { rest = L.rest ∙ ap lines_of (rw (kept_step, e)); few = omega (arith, L.few) }

-- what the tests of a candidate's labels say
module _ (i : ℕ) {j : ℕ} {w p : Bool} (q : j ≡ place_of i) (e : w ≡ wordless (j / 3 / 48)) (f : p ≡ plain (j / 3 % 48)) where
  labels-are : (wordless (place_of i / 3 / 48) && plain (place_of i / 3 % 48)) ≡ (w && p)
  labels-are = rw (e, f, q)

  -- a candidate with another label is passed over
  pub label-without : {done : ℕ} → i < candidates → Left i done → (w && p) ≡ false → Left (i + 1) done
  unfolding is_listed
  label-without h L none = left-without i h L (rw (labels-are, none))

  -- the bytes of one without
  pub made : {n : ℕ} {three : List ℕ} → i < candidates → (w && p) ≡ true → n ≡ rules_at i → n ≤ 3 → three ≡ three_rules n (j % 3) (j / 3 / 48) (j / 3 % 48)
      → Candidate i (take (34 - (24 - 8 * n)) (drop (24 - 8 * n) three))
  unfolding candidate plan_of three_rules rule_bytes
  made {n} {three} h all m few t =
      let long : length three ≡ 34 = ap length t in
      let most : length (drop (24 - 8 * n) three) ≤ 34 - (24 - 8 * n) = omega (arith, length-drop (24 - 8 * n) three) in
      let cut = take_all (34 - (24 - 8 * n)) (drop (24 - 8 * n) three) most in
      record {
        within = h;
        same = cut ∙ rw (t, m, q);
        labels = labels-are ∙ all;
        long = omega (arith, ap length cut, length-drop (24 - 8 * n) three);
      }

-- nothing is printed yet, and all is
pub left-begins : Left 0 0
unfolding list_output listed
left-begins = record { rest = refl; few = omega arith }

pub left-ends : {i done : ℕ} → Left i done → candidates ≤ i → drop done list_output ≡ []
unfolding kept lines_of
left-ends {i} L h = let e : candidates - i ≡ 0 = omega arith in L.rest ∙ rw e

module _ {i done : ℕ} {plan : List ℕ} (L : Left i done) (C : Candidate i plan) where
  same_test : is_accepted (checked plan) ≡ is_listed i
  unfolding is_listed
  same_test = rw C.labels (ap (λ (s : List ℕ). is_accepted (checked s)) C.same)

  -- a plan that check refuses is passed over
  pub plan-without : is_accepted (checked plan) ≡ false → Left (i + 1) done
  plan-without e = left-without i C.within L (sym same_test ∙ e)

  -- of one that it accepts the line comes next
  module _ (e : is_accepted (checked plan) ≡ true) {bytes : List ℕ} (b : bytes ≡ hex_line plan) where
    line-next : drop done list_output ≡ bytes ++ lines_of (kept (candidates - (i + 1)) (i + 1))
    unfolding lines_of
    line-next =
        let here : is_listed i ≡ true = sym same_test ∙ e in
        let first : kept (candidates - i) i ≡ candidate i ∷ kept (candidates - (i + 1)) (i + 1) = rw (kept_step i C.within, here) in
        L.rest ∙ ap lines_of first ∙ ap (λ (l : List ℕ). l ++ lines_of (kept (candidates - (i + 1)) (i + 1))) (ap hex_line (sym C.same) ∙ sym b)

    short : length bytes ≤ 69
    short = omega (arith, ap length b, line-long plan, C.long)

    pub plan-next : Next list_output done bytes × (done + length bytes ≤ 1000000)
    plan-next = (next-by list_output done bytes _ line-next, omega (arith, short, L.few, C.within))

    pub plan-with : {r : ℕ} → r ≡ done + length bytes → Left (i + 1) r
    plan-with q = record { rest = ap (λ (k : ℕ). drop k list_output) q ∙ next-left list_output done bytes _ line-next; few = omega (arith, short, L.few) }

-- an answer that is not turned down
pub ok-accepted : (r : Result Checked Refusal) → is_ok r ≡ is_accepted r
unfolding is_accepted
ok-accepted (Ok c) = refl
ok-accepted (Err why) = refl
