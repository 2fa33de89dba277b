-- What each call of a list answers: refused with 8 or with 9 at its first byte that is no letter, or accepted. A call from a cursor at a
-- node begins as 8 and 9 say and else at that node, and leaves the cursor at a node; so, over the list, the answers follow from n, the
-- slices' lengths and the letters. Assumes nothing.
use Prim.Native.Nat.{ℕ}
use mathlib.Core.Path.{◌≡◌, refl, ap, ap₂, ◌∙◌}
use mathlib.Core.Bool.{Bool, true, false, cond}
use mathlib.Core.List.{List, [], ◌∷◌, map}
use Rattle.std.specs.Prelude.{Option, None, Some, Result, Ok, Err}
use Rattle.rule.specs.Sound.{Closed}
use Rattle.refusal.specs.declared.Refusal.{Refusal}
use Rattle.plan.specs.Check.{checked, rules_of}
use Rattle.forest.specs.Forest.{Forest, forest}
use Rattle.forest.specs.Place.{Placed, placed_forest}
use Rattle.forest.specs.Reference.{Path}
use Rattle.forest.specs.Walk.{enough_lent, first_other, walked_rule, Begun, letters_judged, walked}
use Rattle.demand.specs.Calls.{Left, Call, lent, walk_of, lefts}
use Rattle.demand.specs.Demand.{Above}
use Rattle.demand.proofs.Walkable.{Stands}
use Rattle.demand.proofs.OneCall.{Came, begins, one-call}
use Rattle.demand.proofs.Lists.{above-stands}

-- 9 at the first byte that is no letter, or accepted
unfoldable pub letters_reply : Option ℕ → Result Unit Refusal
letters_reply None = Ok tt
letters_reply (Some i) = Err (Refusal.Letter i)

-- 8, else 9, else accepted
unfoldable pub reply : ℕ → List ℕ → Call → Result Unit Refusal
reply n cursor c =
    cond (enough_lent c.work cursor c.letters c.answers n) (letters_reply (first_other c.letters 0)) (Err Refusal.Lent)

-- a call that begins as 8 and 9 say, and else anywhere: t is 8, x where 9 finds a byte
begun-reply : (t : Bool) (x : Option ℕ) (n r : ℕ) (p : Path)
    → walked (cond t (letters_judged x (Begun.at n r p)) (Begun.refused Refusal.Lent))
    ≡ cond t (letters_reply x) (Err Refusal.Lent)
unfolding walked letters_judged letters_reply
begun-reply true None n r p = refl
begun-reply true (Some i) n r p = refl
begun-reply false x n r p = refl

module _ (s : List ℕ) (n start : ℕ) (first : List ℕ) (accepted : checked s ≡ Ok (record { n = n; start = start })) (r : ℕ)
    (names : walked_rule start first ≡ r) (C : Closed (rules_of s) r) where
  abbrev G : Forest Placed
  G = placed_forest (rules_of s) r

  one-reply : (cursor : List ℕ) (p : Path) → Stands G first cursor p → (c : Call) → (walk_of (lent s cursor c)).answer ≡ reply n first c
  unfolding walk_of lent reply
  one-reply cursor p S c =
      ap walked (begins s n start first accepted r names C cursor p S c)
      ∙ begun-reply (enough_lent c.work first c.letters c.answers n) (first_other c.letters 0) n r p

  -- whatever a call comes to, the cursor stands at a node, or above the forest
  stands_after : {cursor : List ℕ} {p : Path} {c : Call} {l : Left} → Stands G first cursor p
      → Came s n (forest (rules_of s) r) G first cursor p c l → (q : Path) × Stands G first l.cursor q
  stands_after {p = p} S (Came.turned d f k) = (p, rw k S)
  stands_after S (Came.went d f T k w x) = (_, T)

  all-replies : (calls : List Call) (cursor : List ℕ) (p : Path) → Stands G first cursor p
      → map (λ (l : Left). l.answer) (lefts walk_of s cursor calls) ≡ map (reply n first) calls
  unfolding lefts
  all-replies [] cursor p S = refl
  all-replies (c ∷ cs) cursor p S =
      let q = stands_after S (one-call s n start first accepted r names C cursor p S c) in
      ap₂ ◌∷◌ (one-reply cursor p S c) (all-replies cs _ q.0 q.1)

-- of a list of calls on an accepted plan, the first cursor above the forest
pub replies : (s : List ℕ) (n start : ℕ) (cursor : List ℕ) (calls : List Call) → checked s ≡ Ok (record { n = n; start = start }) → Above (rules_of s) start cursor
    → map (λ (l : Left). l.answer) (lefts walk_of s cursor calls) ≡ map (reply n cursor) calls
replies s n start cursor calls e a =
    let C = a.in_order.names in
    all-replies s n start cursor e (walked_rule start cursor) refl C calls cursor [] (above-stands s n start cursor e (walked_rule start cursor) refl C a)
