-- "Plan, work and both cursors are refused as in walk" (document 02, Note 4): compare judges what it is lent as two walks of no letters
-- would, from the first cursor and from the second, 8 of either before 10 of the other. By cases of what check says and of whether work and
-- each cursor are long enough. Assumes nothing.
use Prim.Native.Nat.{ℕ}
use native.Mathlib.Omega.{arith}
use mathlib.Core.Logic.{◌≢◌}
use mathlib.Core.Path.{◌≡◌, refl, sym, ◌∙◌, ap}
use mathlib.Core.Bool.{Bool, true, false, cond, ◌&&◌}
use mathlib.Core.List.{List, [], ◌∷◌}
use Rattle.std.specs.Prelude.{Option, None, Some, Result, Ok, Err}
use borrow.Author.Tests.{le-leb}
use Rattle.rule.specs.declared.Rule.{Rule}
use Rattle.refusal.specs.declared.Refusal.{Refusal}
use Rattle.plan.specs.declared.Checked.{Checked}
use Rattle.plan.specs.Check.{checked, rules_of}
use Rattle.forest.specs.declared.Compared.{Compared}
use Rattle.forest.specs.Place.{placed_forest}
use Rattle.forest.specs.Reference.{Path}
use Rattle.forest.specs.Outcome.{enough_work}
use Rattle.forest.specs.Walk.{enough_cursor, enough_answers, answer_count, enough_lent, first_other, letters_judged, Begun, refused, at, begun_from, begun, walked, cells_in, used_cells, walked_rule, is_closed, headed, path_of, stored, place_in, place_judged}
use Rattle.forest.specs.Compare.{node_judged, compared_at, enough_compared, compared_from, compare}

-- a walk of no letters asks for no answers, and a place is never refused with 8
begun-none : (s work cursor given : List ℕ) (n r : ℕ)
    → begun_from s work cursor [] given (Ok (record { n = n; start = r })) ≡ cond (enough_work n work && enough_cursor n cursor) (place_judged (rules_of s) n r cursor) (refused Refusal.Lent)
unfolding begun_from enough_lent letters_judged first_other
begun-none s work cursor given n r =
    ap (λ (t : Bool). cond (enough_work n work && t) (place_judged (rules_of s) n r cursor) (refused Refusal.Lent)) (rest (enough_cursor n cursor))
  where
    rest : (t : Bool) → t && enough_answers [] given ≡ t
    rest true = le-leb 0 (answer_count given) (omega arith)
    rest false = refl

place-not-lent : (R : List Rule) (n start : ℕ) (cursor : List ℕ) → place_judged R n start cursor ≡ refused Refusal.Lent → ⊥
unfolding place_judged place_in stored
place-not-lent R n start cursor e = go (is_closed R r && headed n cursor) (path_of (placed_forest R r) (cells_in cursor (used_cells cursor))) e
  where
    r : ℕ
    r = walked_rule start cursor

    go : (t : Bool) (x : Option Path) → cond t (stored n r x) (refused Refusal.Place) ≡ refused Refusal.Lent → ⊥
    go true None q = let z : ◌≡◌ {A = ℕ} 0 1 = cc in omega arith
    go true (Some p) q = let z : ◌≡◌ {A = ℕ} 0 1 = cc in omega arith
    go false x q = let z : ◌≡◌ {A = ℕ} 0 1 = cc in omega arith

walk_refused : (w : Begun) (x : Refusal) → walked w ≡ Err x → w ≡ refused x
unfolding walked
walk_refused (refused y) x e = let q : y ≡ x = cc in ap refused q
walk_refused (at n r p) x e = cc

-- what compare answers, from how the two walks begin: 8 where one of them has it, else what both come to
data AsWalks (R : List Rule) (b : ℕ) (one two : Begun) (x : Result Compared Refusal) : Type 0 where
  first_short : one ≡ refused Refusal.Lent → x ≡ Err Refusal.Lent → AsWalks R b one two x
  second_short : two ≡ refused Refusal.Lent → x ≡ Err Refusal.Lent → AsWalks R b one two x
  judged : (two ≡ refused Refusal.Lent → one ≡ refused Refusal.Lent) → x ≡ compared_at R b (node_judged one) (node_judged two) → AsWalks R b one two x

first-refusal : {R : List Rule} {b : ℕ} {one two : Begun} {x : Result Compared Refusal} → AsWalks R b one two x → (y : Refusal) → one ≡ refused y
    → (two ≡ refused Refusal.Lent → y ≡ Refusal.Lent) → x ≡ Err y
unfolding compared_at node_judged
first-refusal (first_short q h) y e f = let l : Refusal.Lent ≡ y = cc in h ∙ ap Err l
first-refusal (second_short q h) y e f = h ∙ ap Err (sym (f q))
first-refusal (judged q h) y e f = h ∙ rw e

second-refusal : {R : List Rule} {b : ℕ} {one two : Begun} {x : Result Compared Refusal} → AsWalks R b one two x → (y : Refusal) (n r i : ℕ) (p : Path)
    → one ≡ at n r (i ∷ p) → two ≡ refused y → x ≡ Err y
unfolding compared_at node_judged
second-refusal (first_short q h) y n r i p e f = cc
second-refusal (second_short q h) y n r i p e f = let l : Refusal.Lent ≡ y = cc in h ∙ ap Err l
second-refusal (judged q h) y n r i p e f = h ∙ rw (e, f)

second-lent : {R : List Rule} {b : ℕ} {one two : Begun} {x : Result Compared Refusal} → AsWalks R b one two x → two ≡ refused Refusal.Lent
    → x ≡ Err Refusal.Lent
unfolding compared_at node_judged
second-lent (first_short q h) e = h
second-lent (second_short q h) e = h
second-lent (judged q h) e = h ∙ rw (q e)

both-judged : {R : List Rule} {b : ℕ} {one two : Begun} {x : Result Compared Refusal} → AsWalks R b one two x → one ≢ refused Refusal.Lent
    → two ≢ refused Refusal.Lent → x ≡ compared_at R b (node_judged one) (node_judged two)
both-judged (first_short q h) e f = absurd (e q)
both-judged (second_short q h) e f = absurd (f q)
both-judged (judged q h) e f = h

module _ (s work first second given : List ℕ) (b : ℕ) where
  as-walks : AsWalks (rules_of s) b (begun s work first [] given) (begun s work second [] given) (compare s work first second b)
  unfolding begun compare compared_from compared_at node_judged enough_compared begun_from
  as-walks = go (checked s)
    where
      lent : (w u v : Bool) (one two : Begun) → (two ≡ refused Refusal.Lent → ⊥)
          → AsWalks (rules_of s) b (cond (w && u) one (refused Refusal.Lent)) (cond (w && v) two (refused Refusal.Lent))
          (cond (w && (u && v)) (compared_at (rules_of s) b (node_judged one) (node_judged two)) (Err Refusal.Lent))
      lent true true true one two f = judged (λ q. absurd (f q)) refl
      lent true true false one two f = second_short refl refl
      lent true false v one two f = first_short refl refl
      lent false u v one two f = first_short refl refl

      go : (c : Result Checked Refusal) → AsWalks (rules_of s) b (begun_from s work first [] given c) (begun_from s work second [] given c) (compared_from s work first second b c)
      go (Err y) = judged (λ q. q) refl
      go (Ok x) =
          rw (begun-none s work first given x.n x.start, begun-none s work second given x.n x.start)
          (lent (enough_work x.n work) (enough_cursor x.n first) (enough_cursor x.n second) (place_judged (rules_of s) x.n x.start first) (place_judged (rules_of s) x.n x.start second)
          (place-not-lent (rules_of s) x.n x.start second))

  -- what a walk from the first cursor is refused for, compare is, unless the second is refused with 8, which comes before 10
  pub first-refused-as-walk : (x : Refusal) → walked (begun s work first [] given) ≡ Err x
      → (walked (begun s work second [] given) ≡ Err Refusal.Lent → x ≡ Refusal.Lent)
      → compare s work first second b ≡ Err x
  unfolding walked
  first-refused-as-walk x e f = first-refusal as-walks x (walk_refused (begun s work first [] given) x e) (λ q. f (ap walked q))

  -- what a walk from the second cursor is refused for, compare is where the first stands at a node
  pub second-refused-as-walk : (x : Refusal) (n r i : ℕ) (p : Path) → begun s work first [] given ≡ at n r (i ∷ p)
      → walked (begun s work second [] given) ≡ Err x
      → compare s work first second b ≡ Err x
  second-refused-as-walk x n r i p e f = second-refusal as-walks x n r i p e (walk_refused (begun s work second [] given) x f)

  -- .. and with 8 wherever the first stands
  pub second-short-as-walk : walked (begun s work second [] given) ≡ Err Refusal.Lent
      → compare s work first second b ≡ Err Refusal.Lent
  second-short-as-walk e = second-lent as-walks (walk_refused (begun s work second [] given) Refusal.Lent e)

  -- and no more is refused than that: where neither is refused with 8, compare answers for the places at which the two walks begin
  pub compared-as-walk : begun s work first [] given ≢ refused Refusal.Lent → begun s work second [] given ≢ refused Refusal.Lent
      → compare s work first second b ≡ compared_at (rules_of s) b (node_judged (begun s work first [] given)) (node_judged (begun s work second [] given))
  compared-as-walk = both-judged as-walks
