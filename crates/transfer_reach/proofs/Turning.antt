-- The tree behind i trees of a pair stands on its left if the left side has more, else on its right; i is below 65,535, so that it is told which.
-- What isn't a pair is the tree. Assumes nothing.
use Rattle.std.specs.Prelude.{Option, Some, None}
use Rattle.std.proofs.lemmas.Option.{same_Some}
use Prim.Native.Nat.{ℕ, ◌-◌, min, ◌≤◌, ◌<◌}
use native.Mathlib.Omega.{arith}
use mathlib.Core.Path.{◌≡◌, refl, ap, ◌∙◌}
use mathlib.Core.List.{List}
use Rattle.rule.specs.declared.Rule.{Rule}
use Rattle.forest.specs.Expression.{Expression, rhs}
use Rattle.forest.specs.Good.{Known}
use Rattle.forest.specs.Place.{representative}
use Rattle.forest.proofs.Unfold.{expression-known}
use Rattle.model.specs.Facts.{Facts, facts_of}
use Rattle.work_rows.proofs.Kept.{first-length}
use Rattle.side.specs.declared.Side.{Side}
use Rattle.side.specs.Side.{side_of}
use Rattle.facts.specs.Facts.{row_count, facts_in, In}
use Rattle.facts.specs.Closes.{Names}
use Rattle.tops_rows.specs.Tops.{tops_at}
use Rattle.transfer_path.specs.Follow.{most_place}
use Rattle.transfer_path.specs.Spot.{tops}
use Rattle.transfer_climb.specs.Climb.{meaning, CountedRows}
use Rattle.transfer_climb.proofs.Rows.{told, names, meaning-is}
use Rattle.transfer_seek.proofs.Seeking.{seek-left, seek-right, lower-left, lower-right, NoPair, seek-ends}
use Rattle.transfer_reach.specs.declared.Turn.{Turn}
use Rattle.transfer_reach.specs.Reach.{StepOn, Turns}
use Rattle.transfer_reach.proofs.Short.{row-fit}

module _ {t : List ℕ} (g : CountedRows t) where
  pub known : {k : ℕ} → In t k → Known (meaning t) (meaning t k)
  known {k} h = let many = first-length t (row_count t) in expression-known g.sound k (omega arith)

  pub represents : (k : ℕ) {v : ℕ} → v ≡ (facts_in t).representative k → v ≡ representative (meaning t k)
  unfolding facts_of
  represents k e = e ∙ ap (λ (F : Facts). F.representative k) g.facts_are

-- what is no value's is none
pub no-value : {A : Type 0} {y : Option A} → ((x : A) → y ≡ Some x → ⊥) → y ≡ None
no-value {y = Some x} n = absurd (n x refl)
no-value {y = None} n = refl

turns-on : {t : List ℕ} {a i : ℕ} (x : Turn) → StepOn t a i x.side x.to x.rest → Turns t a i (Some x)
turns-on {t} {a} {i} x k =
    record {
      on = λ y e. rw (same_Some x y e) at k;
      tree = λ e. absurd (let z : ◌≡◌ {A = ℕ} 0 1 = cc in let n : ⊥ = omega arith in n);
    }

module _ {t : List ℕ} (g : CountedRows t) {a i b c v : ℕ} (h : In t a) (few : i < most_place)
    (e : Rule.Pair b c ≡ (facts_in t).rule a) (read : v ≡ tops_at t b) where
  named : In t b × In t c
  unfolding Names
  named = names g h e

  pair : meaning t a ≡ Expression.pair a (meaning t b) (meaning t c)
  unfolding rhs
  pair = meaning-is g h e

  trees : v ≡ min (tops (meaning t b)) most_place
  trees = told g named.0 read

  pub turns-left : i < v → {to : ℕ} → to ≡ (facts_in t).representative b → Turns t a i (Some (record { side = Side.Left; to = to; rest = i }))
  unfolding side_of
  turns-left l {to} q =
      let m = trees in
      turns-on (record { side = Side.Left; to = to; rest = i })
      (record {
        inside = rw q (g.closes.represents b named.0);
        few = few;
        keeps = λ w cs x k. rw (represents g b q) (seek-left pair k (known g named.0) (omega arith));
        lower = λ w cs x k. rw (represents g b q) (lower-left pair k (known g named.0));
      })

  pub turns-right : v ≤ i → {to : ℕ} → to ≡ (facts_in t).representative c → Turns t a i (Some (record { side = Side.Right; to = to; rest = i - v }))
  unfolding side_of
  turns-right l {to} q =
      let m = trees in
      let exact : v ≡ tops (meaning t b) = omega arith in
      turns-on (record { side = Side.Right; to = to; rest = i - v })
      (record {
        inside = rw q (g.closes.represents c named.1);
        few = omega arith;
        keeps = λ w cs x k. rw (represents g c q, exact) (seek-right pair k (known g named.1) (omega arith));
        lower = λ w cs x k. rw (represents g c q) (lower-right pair k (known g named.1));
      })

pub turns-tree : {t : List ℕ} → CountedRows t → {a i : ℕ} (y : Rule) → In t a → y ≡ (facts_in t).rule a → NoPair y
    → Turns t a i None
turns-tree {t} g y h e other =
    record {
      on = λ x q. absurd (let z : ◌≡◌ {A = ℕ} 0 1 = cc in let n : ⊥ = omega arith in n);
      tree = λ q start T cs x k. seek-ends (facts_in t) y other (meaning-is g h e) k (row-fit T k.stands);
    }
