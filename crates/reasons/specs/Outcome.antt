-- What reason answers and leaves, from what is lent (document 02, Note 11).
use Rattle.std.specs.Prelude.{ℕ, ◌≡◌, Bool, true, List, Result, Ok, Err}
use Rattle.std.specs.Prelude.{Option, None, Some}
use Rattle.rule.specs.declared.Rule.{Rule}
use Rattle.refusal.specs.declared.Refusal.{Refusal}
use Rattle.plan.specs.declared.Checked.{Checked}
use Rattle.plan.specs.Check.{checked, rules_of}
use Rattle.forest.specs.Forest.{forest}
use Rattle.forest.specs.Letter.{Letter, letter_of}
use Rattle.forest.specs.Reference.{Path}
use Rattle.forest.specs.Outcome.{work_after}
use Rattle.forest.specs.Walk.{Begun, refused, at, enough_place, lent_judged, place_judged}
use Rattle.reasons.specs.declared.Reason.{Reason}
use Rattle.reasons.specs.Reason.{reason_of}
use Rattle.reasons.specs.Says.{Says}

-- "All that is lent, work too, is refused as in walk": 8: work or cursor is too short
abbrev pub enough_asked : List ℕ → List ℕ → ℕ → Bool
enough_asked work cursor n = enough_place work cursor n

-- n and start, or the refusal
abbrev pub asked_judged : List ℕ → List ℕ → Result Checked Refusal → Result Checked Refusal
asked_judged work cursor x = lent_judged work cursor x

-- "For a plan, a cursor and one letter, say which holds", of the walked rule's forest; .. 10
unfoldable pub reasoned_at : List Rule → Letter → Begun → Result Reason Refusal
reasoned_at R c (refused x) = Err x
reasoned_at R c (at n r p) = Ok (reason_of (forest R r) c p)

-- .. 9, at 0: "the byte's place counted from 0 for 9", before 10
unfoldable pub reasoned_by : List Rule → Option Letter → Begun → Result Reason Refusal
reasoned_by R None b = Err (Refusal.Letter 0)
reasoned_by R (Some c) b = reasoned_at R c b

-- on what was judged before
unfoldable pub reasoned_from : List Rule → List ℕ → ℕ → Result Checked Refusal → Result Reason Refusal
reasoned_from R cursor letter (Ok x) = reasoned_by R (letter_of letter) (place_judged R x.n x.start cursor)
reasoned_from R cursor letter (Err x) = Err x

-- as check, 8, 9, 10
unfoldable pub reasoned : List ℕ → List ℕ → List ℕ → ℕ → Result Reason Refusal
reasoned s work cursor letter = reasoned_from (rules_of s) cursor letter (asked_judged work cursor (checked s))

-- "Past 8 .. the first 32 × n words of work end as zeros" (document 01)
unfoldable pub reasoned_work : List ℕ → List ℕ → List ℕ → List ℕ
reasoned_work s work cursor = work_after (enough_asked work cursor) (checked s) work

-- "say which holds": nothing is turned down, and w's sentence holds of the walked rule's forest and the path of the stored place
pub record Explained (s work cursor : List ℕ) (letter : ℕ) (w : Reason) : Type 0 where
  pub n : ℕ
  pub start : ℕ
  pub walked : ℕ
  pub path : Path
  pub pressed : Letter
  pub accepted : checked s ≡ Ok (record { n = n; start = start })
  pub lent : enough_asked work cursor n ≡ true
  pub reads : letter_of letter ≡ Some pressed
  pub place : place_judged (rules_of s) n start cursor ≡ at n walked path
  pub says : Says (forest (rules_of s) walked) pressed path w

-- what a walk answers that is refused where reason is
unfoldable pub as_walked : Result Reason Refusal → Result Unit Refusal
as_walked (Ok w) = Ok tt
as_walked (Err x) = Err x
