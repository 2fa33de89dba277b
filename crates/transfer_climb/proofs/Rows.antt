-- What the rows tell of a rule: its right-hand side over the expressions of the rules that it names, which have rows; the B of a join is a
-- spine's; and its trees up to 65,535, so that each number made of them is told up to there. Assumes nothing.
use Prim.Native.Nat.{ℕ, ◌+◌, ◌*◌, min, ◌≤◌, ◌<◌}
use native.Mathlib.Omega.{arith}
use mathlib.Core.Path.{◌≡◌, refl, sym, ap, ◌∙◌}
use mathlib.Core.List.{List}
use lib.ListN.{length}
use borrow.Author.Tests.{eq-eqb, ne_eqb}
use Rattle.rule.specs.declared.Rule.{Rule}
use Rattle.rule.specs.Sound.{rule}
use Rattle.forest.specs.Expression.{Expression, rhs}
use Rattle.forest.specs.Good.{Sort, Good}
use Rattle.forest.specs.Place.{row_of_part}
use Rattle.forest.proofs.Unfold.{unfolding-equation, sort_of, rule-good}
use Rattle.model.specs.Facts.{Facts, facts_of}
use Rattle.work_rows.specs.Rows.{row_length}
use Rattle.work_rows.proofs.Kept.{first-length}
use Rattle.facts.proofs.Rules.{NoPart}
use Rattle.facts.specs.Facts.{row_count, facts_in, In}
use Rattle.facts.specs.Closes.{Names}
use Rattle.letter_moves.specs.Standing.{rules_kept}
use Rattle.tops_rows.specs.Tops.{tops_at}
use Rattle.transfer_path.specs.Follow.{most_place}
use Rattle.transfer_path.specs.Spot.{Spot, tops}
use Rattle.transfer_path.specs.CellSpot.{left_tops, row_before, spine_spot, step_spot}
use Rattle.transfer_climb.specs.Climb.{meaning, CountedRows}

module _ {t : List ℕ} (g : CountedRows t) where
  pub row_room : {r : ℕ} → In t r → row_length * (r + 1) ≤ length t
  row_room h = omega arith

  -- a rule's trees, as they are told
  pub told : {r v : ℕ} → In t r → v ≡ tops_at t r → v ≡ min (tops (meaning t r)) most_place
  told {r} h e = e ∙ g.counts.tells r h

  -- a rule that is read names rules with rows
  pub names : {r : ℕ} {x : Rule} → In t r → x ≡ (facts_in t).rule r → Names (In t) x
  names {r} h e = rw e (g.closes.names r h)

  -- its expression
  rule-is : (r : ℕ) → (facts_in t).rule r ≡ rule (rules_kept t) r
  unfolding facts_of
  rule-is r = ap (λ (F : Facts). F.rule r) g.facts_are

  in-rules : {r : ℕ} → In t r → r < length (rules_kept t)
  in-rules h = let e = first-length t (row_count t) in omega arith

  pub meaning-is : {r : ℕ} {x : Rule} → In t r → x ≡ (facts_in t).rule r → meaning t r ≡ rhs r x (meaning t)
  meaning-is {r} h e = unfolding-equation g.sound r (in-rules h) ∙ ap (λ (y : Rule). rhs r y (meaning t)) (sym (e ∙ rule-is r))

  pub join-good : {r b c : ℕ} → In t r → Rule.Join b c ≡ (facts_in t).rule r → Good Sort.spine (Expression.join r (meaning t b) (meaning t c))
  unfolding sort_of rhs
  join-good {r} {b} {c} h e =
      let k = rule-good g.sound r (in-rules h) in
      let s : Good Sort.spine (meaning t r) = rw (← (rule-is r), ← e) at k in
      rw (meaning-is h e) at s

spine-sides : {r : ℕ} {b c : Expression} → Good Sort.spine (Expression.join r b c) → Good Sort.spine b × Good Sort.spine c
spine-sides (Good.join g h) = (g, h)

pub join-sides : {t : List ℕ} → CountedRows t → {r b c : ℕ} → In t r → Rule.Join b c ≡ (facts_in t).rule r
    → Good Sort.spine (meaning t b) × Good Sort.spine (meaning t c)
join-sides g h e = spine-sides (join-good g h e)

-- no pair, no join
abbrev pub NoPair : Rule → Type 0
NoPair x = (b c : ℕ) → x ≡ Rule.Pair b c → ⊥

abbrev pub NoJoin : Rule → Type 0
NoJoin x = (b c : ℕ) → x ≡ Rule.Join b c → ⊥

pub other-left : (E : ℕ → Expression) (x : Rule) → NoPart x → left_tops E x ≡ 0
unfolding left_tops
other-left E Rule.Empty h = refl
other-left E (Rule.Pair b c) h = refl
other-left E (Rule.Node a c) h = refl
other-left E (Rule.Fill b c) h = refl
other-left E (Rule.Part a b c) h = absurd (h a b c refl)
other-left E (Rule.Join b c) h = refl

pub other-spine : (E : ℕ → Expression) (x : Rule) (y : Spot) → NoPart x → spine_spot E x y ≡ y
unfolding spine_spot
other-spine E Rule.Empty y h = refl
other-spine E (Rule.Pair b c) y h = refl
other-spine E (Rule.Node a c) y h = refl
other-spine E (Rule.Fill b c) y h = refl
other-spine E (Rule.Part a b c) y h = absurd (h a b c refl)
other-spine E (Rule.Join b c) y h = refl

pub other_step : (E : ℕ → Expression) (x : Rule) (y : Spot) → NoPair x → NoJoin x → step_spot E x y ≡ y
unfolding step_spot
other_step E Rule.Empty y hp hj = refl
other_step E (Rule.Pair b c) y hp hj = absurd (hp b c refl)
other_step E (Rule.Node a c) y hp hj = refl
other_step E (Rule.Fill b c) y hp hj = refl
other_step E (Rule.Part a b c) y hp hj = refl
other_step E (Rule.Join b c) y hp hj = absurd (hj b c refl)

-- the trees before those of a row, as they are told
module _ (E : ℕ → Expression) (x : Rule) {d : ℕ} where
  pub before-none : (d ≡ 2 → ⊥) → 0 ≡ min (row_before E x d) most_place
  unfolding row_before row_of_part
  before-none n = rw (ne_eqb d 2 n)

  pub before-many : {v : ℕ} → d ≡ 2 → v ≡ min (left_tops E x) most_place → v ≡ most_place → v ≡ min (row_before E x d) most_place
  unfolding row_before row_of_part
  before-many e told q = rw (eq-eqb d 2 e) (omega arith)

  pub before-one : {v : ℕ} → d ≡ 2 → v ≡ min (left_tops E x) most_place → (v ≡ most_place → ⊥) → v + 1 ≡ min (row_before E x d) most_place
  unfolding row_before row_of_part
  before-one e told n = rw (eq-eqb d 2 e) (omega arith)
