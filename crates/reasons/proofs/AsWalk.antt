-- "All that is lent, work too, is refused as in walk" (document 02, Note 11): reason turns down what a walk of that one letter turns down, with
-- the same number and position. Both judge in the same order, and the walk's answers have room for the one answer. Assumes nothing.
use Prim.Native.Nat.{ℕ}
use mathlib.Core.Path.{◌≡◌, refl, sym, ap, ◌∙◌}
use mathlib.Core.Logic.{◌↔◌}
use mathlib.Core.Bool.{Bool, true, false, cond, ◌&&◌}
use mathlib.Core.List.{List, [], ◌∷◌}
use Rattle.std.specs.Prelude.{Option, None, Some, Result, Ok, Err}
use Rattle.reasons.specs.declared.Reason.{Reason}
use Rattle.rule.specs.declared.Rule.{Rule}
use Rattle.refusal.specs.declared.Refusal.{Refusal}
use Rattle.plan.specs.declared.Checked.{Checked}
use Rattle.plan.specs.Check.{checked, rules_of}
use Rattle.forest.specs.Letter.{Letter, letter_of}
use Rattle.forest.specs.Outcome.{enough_work}
use Rattle.forest.specs.Walk.{enough_cursor, enough_answers, enough_lent, enough_place, lent_judged, other_at, first_other, Begun, place_judged, letters_judged, begun_from, begun, walked}
use Rattle.reasons.specs.Outcome.{enough_asked, asked_judged, reasoned_at, reasoned_by, reasoned_from, reasoned, as_walked}

-- one letter is judged before the place
place-as : (R : List Rule) (c : Letter) (b : Begun) → as_walked (reasoned_at R c b) ≡ walked b
unfolding as_walked reasoned_at walked
place-as R c (Begun.refused x) = refl
place-as R c (Begun.at n r p) = refl

letter-as : (R : List Rule) (x : Option Letter) (b : Begun) → as_walked (reasoned_by R x b) ≡ walked (letters_judged (other_at x 0 None) b)
unfolding as_walked reasoned_by other_at letters_judged walked
letter-as R None (Begun.refused x) = refl
letter-as R None (Begun.at n r p) = refl
letter-as R (Some c) b = place-as R c b

module _ (s work cursor : List ℕ) (letter : ℕ) (given : List ℕ) (room : enough_answers (letter ∷ []) given ≡ true) where
  and-room : (t : Bool) → t && enough_answers (letter ∷ []) given ≡ t
  and-room true = room
  and-room false = refl

  lent-as : (n : ℕ) → enough_lent work cursor (letter ∷ []) given n ≡ enough_asked work cursor n
  unfolding enough_lent enough_place
  lent-as n = ap (λ (t : Bool). enough_work n work && t) (and-room (enough_cursor n cursor))

  -- 9, then 10
  abbrev judged : Option Letter → ℕ → ℕ → Begun
  judged x n start = letters_judged (other_at x 0 None) (place_judged (rules_of s) n start cursor)

  judged-as : (n start : ℕ) (t : Bool)
      → as_walked (reasoned_from (rules_of s) cursor letter (cond t (Ok (record { n = n; start = start })) (Err Refusal.Lent)))
      ≡ walked (cond t (judged (letter_of letter) n start) (Begun.refused Refusal.Lent))
  unfolding reasoned_from as_walked walked
  judged-as n start true = letter-as (rules_of s) (letter_of letter) (place_judged (rules_of s) n start cursor)
  judged-as n start false = refl

  checked-as : (x : Result Checked Refusal)
      → as_walked (reasoned_from (rules_of s) cursor letter (asked_judged work cursor x)) ≡ walked (begun_from s work cursor (letter ∷ []) given x)
  unfolding lent_judged reasoned_from as_walked begun_from first_other walked
  checked-as (Ok x) =
      judged-as x.n x.start (enough_asked work cursor x.n)
      ∙ ap (λ (t : Bool). walked (cond t (judged (letter_of letter) x.n x.start) (Begun.refused Refusal.Lent))) (sym (lent-as x.n))
  checked-as (Err x) = refl

  -- refused as a walk of that one letter is
  pub refused-as-walk : as_walked (reasoned s work cursor letter) ≡ walked (begun s work cursor (letter ∷ []) given)
  unfolding reasoned begun
  refused-as-walk = checked-as (checked s)

  refused-back : (x : Result Reason Refusal) (why : Refusal) → as_walked x ≡ Err why → x ≡ Err why
  unfolding as_walked
  refused-back (Ok w) why e = cc
  refused-back (Err x) why e = ap Err cc

  -- with the same number and position, and nowhere else
  pub refused-exactly : (why : Refusal)
      → (reasoned s work cursor letter ≡ Err why) ↔ (walked (begun s work cursor (letter ∷ []) given) ≡ Err why)
  unfolding as_walked
  refused-exactly why = (λ e. sym refused-as-walk ∙ ap as_walked e, λ e. refused-back (reasoned s work cursor letter) why (refused-as-walk ∙ e))
