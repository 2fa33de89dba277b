-- A part of a spine by its number: of a join it is a part of its B or of its C, which are lower, and its number is below 65,535, so that it
-- is told which; else the spine is the part itself. Assumes nothing.
use Prim.Native.Nat.{ℕ, ◌+◌, ◌-◌, min, ◌≤◌, ◌<◌}
use native.Mathlib.Omega.{arith}
use mathlib.Core.Path.{◌≡◌, refl, sym, ap, ◌∙◌}
use mathlib.Core.List.{List, [], ◌∷◌}
use lib.ListN.{get_or}
use Rattle.rule.specs.declared.Rule.{Rule}
use Rattle.forest.specs.Expression.{Expression, rhs}
use Rattle.forest.specs.Sizes.{height}
use Rattle.forest.specs.Good.{Sort, Good}
use Rattle.facts.specs.Facts.{facts_in, In}
use Rattle.facts.specs.Closes.{Names}
use Rattle.tops_rows.specs.Tops.{tops_at}
use Rattle.transfer_path.specs.Follow.{most_place}
use Rattle.transfer_path.specs.Spot.{tops, ahead}
use Rattle.transfer_path.specs.CellSpot.{left_tops}
use Rattle.transfer_path.proofs.Ahead.{ahead-left, ahead-right}
use Rattle.transfer_climb.specs.declared.Down.{Down}
use Rattle.transfer_climb.specs.Climb.{meaning, CountedRows, PartAt, GoesDown}
use Rattle.transfer_climb.proofs.Rows.{NoJoin, told, names, meaning-is, join-sides}

-- the same part of a rule on a side
record Lower (t : List ℕ) (r j q i : ℕ) : Type 0 where
  part : PartAt t q i
  same : get_or (ahead (meaning t q)) i 0 ≡ get_or (ahead (meaning t r)) j 0
  lower : height (meaning t q) < height (meaning t r)

down-on : {t : List ℕ} {r j q i : ℕ} → Lower t r j q i → GoesDown t r j (Down.On q i)
down-on {t} {r} {j} {q} {i} h =
    record {
      on = λ q' i' e. let a : q' ≡ q = cc in let b : i' ≡ i = cc in rw (a, b) (h.part, h.same, h.lower);
      before = λ v e. absurd (let z : ◌≡◌ {A = ℕ} 0 1 = cc in let n : ⊥ = omega arith in n);
    }

pub down-before : {t : List ℕ} {r j v : ℕ} → v ≡ min (get_or (ahead (meaning t r)) j 0) most_place → GoesDown t r j (Down.Before v)
down-before {v = v} h =
    record {
      on = λ q i e. absurd (let z : ◌≡◌ {A = ℕ} 0 1 = cc in let n : ⊥ = omega arith in n);
      before = λ v' e. let a : v' ≡ v = cc in rw a h;
    }

-- of a join
module _ {t : List ℕ} (g : CountedRows t) {r j b c v : ℕ} (p : PartAt t r j) (e : Rule.Join b c ≡ (facts_in t).rule r) (read : v ≡ tops_at t b) where
  sides : Good Sort.spine (meaning t b) × Good Sort.spine (meaning t c)
  sides = join-sides g p.inside e

  named : In t b × In t c
  unfolding Names
  named = names g p.inside e

  whole : meaning t r ≡ Expression.join r (meaning t b) (meaning t c)
  unfolding rhs
  whole = meaning-is g p.inside e

  tops-whole : tops (meaning t r) ≡ tops (meaning t b) + tops (meaning t c)
  unfolding tops
  tops-whole = ap tops whole

  lower-both : (height (meaning t b) < height (meaning t r)) × (height (meaning t c) < height (meaning t r))
  unfolding height
  lower-both = let h = ap height whole in (omega arith, omega arith)

  parts : v ≡ min (tops (meaning t b)) most_place
  parts = told g named.0 read

  pub down-left : j < v → GoesDown t r j (Down.On b j)
  down-left l =
      let m = parts in
      let k : j < tops (meaning t b) = omega arith in
      down-on
      (record {
        part = record { inside = named.0; spine = sides.0; below = k; few = p.few };
        same = sym (ahead-left r j (meaning t c) sides.0 k) ∙ ap (λ (x : Expression). get_or (ahead x) j 0) (sym whole);
        lower = lower-both.0;
      })

  pub down-right : v ≤ j → GoesDown t r j (Down.On c (j - v))
  down-right l =
      let m = parts in
      let few = p.few in
      let q : v ≡ tops (meaning t b) = omega arith in
      let k : tops (meaning t b) ≤ j = omega arith in
      rw q
      (down-on
      (record {
        part = record { inside = named.1; spine = sides.1; below = omega (arith, p.below, tops-whole); few = omega arith };
        same = sym (ahead-right r j (meaning t c) sides.0 k) ∙ ap (λ (x : Expression). get_or (ahead x) j 0) (sym whole);
        lower = lower-both.1;
      }))

-- of anything else: the only part, or none
first_of : (a j : ℕ) → j < 1 → get_or (a ∷ []) j 0 ≡ a
first_of a j l = rw (let e : j ≡ 0 = omega arith in e)

other-ahead : (E : ℕ → Expression) (r j : ℕ) (x : Rule) → NoJoin x → j < tops (rhs r x E) → left_tops E x ≡ get_or (ahead (rhs r x E)) j 0
unfolding left_tops ahead rhs tops
other-ahead E r j Rule.Empty h l = refl
other-ahead E r j (Rule.Pair b c) h l = refl
other-ahead E r j (Rule.Node a c) h l = refl
other-ahead E r j (Rule.Fill b c) h l = refl
other-ahead E r j (Rule.Part a b c) h l = sym (first_of (tops (E b)) j l)
other-ahead E r j (Rule.Join b c) h l = absurd (h b c refl)

pub down-other : {t : List ℕ} → CountedRows t → {r j v : ℕ} {x : Rule} → PartAt t r j → x ≡ (facts_in t).rule r → NoJoin x
    → v ≡ min (left_tops (meaning t) ((facts_in t).rule r)) most_place → GoesDown t r j (Down.Before v)
down-other {t} g {r} {j} {x = x} p e h q =
    let m = meaning-is g p.inside e in
    down-before
    (q
    ∙ ap (λ (y : Rule). min (left_tops (meaning t) y) most_place) (sym e)
    ∙ ap (λ (k : ℕ). min k most_place)
    (other-ahead (meaning t) r j x h (rw m at p.below) ∙ ap (λ (y : Expression). get_or (ahead y) j 0) (sym m)))
