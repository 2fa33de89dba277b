-- The levels of a path, one word each, the root's first: one more is written behind those that stand, and a path is taken down by a level or
-- grows beside one as long as it is carried. Read from the root they are the words themselves. Assumes nothing.
use Rattle.std.specs.Prelude.{Option, Some, None}
use Rattle.std.proofs.lemmas.Option.{same_Some}
use Prim.Native.Nat.{ℕ, zero, suc, ◌+◌, ◌*◌, min, ◌≤◌, ◌<◌}
use native.Mathlib.Omega.{arith}
use native.Mathlib.Numerals.{add-one}
use mathlib.Core.Path.{◌≡◌, refl, sym, ap, ap₂, ◌∙◌}
use mathlib.Core.Bool.{Bool, true, false, ◌||◌, false≢true, true≢false}
use mathlib.Core.List.{List, [], ◌∷◌, ◌++◌, reverse, reverse-cons}
use lib.ListN.{length}
use lib.Dec.{leb, eqb}
use borrow.Author.Tests.{leb-false, lt-leb, eqb-false, ne_eqb}
use Rattle.words.specs.Number.{number}
use Rattle.words.specs.Put.{put}
use Rattle.words.specs.Words.{words_at}
use Rattle.words.proofs.Laws.{length-put, put_same, put_other}
use Rattle.record.specs.Record.{word_length}
use Rattle.forest.specs.Reference.{Path}
use Rattle.forest.proofs.Cases.{by_bool}
use Rattle.transfer_path.specs.Follow.{most_levels, most_place, carried}
use Rattle.transfer_path.specs.Spot.{Spot, path_to}
use Rattle.transfer_path.proofs.Carried.{Carries, carried-has, has-carried}
use Rattle.transfer_climb.specs.declared.Climbed.{Climbed}
use Rattle.transfer_climb.specs.Climb.{levels_in, path_length, spot_at, Ready, LevelPut, Took}

pub length-levels : (t : List ℕ) (k : ℕ) → length (levels_in t k) ≡ k
unfolding levels_in
length-levels t zero = refl
length-levels t (suc k) = ap suc (length-levels t k)

levels-same : (s t : List ℕ) (k : ℕ) → ((j : ℕ) → j < k → number word_length t (word_length * j) ≡ number word_length s (word_length * j))
    → levels_in t k ≡ levels_in s k
unfolding levels_in
levels-same s t zero h = refl
levels-same s t (suc k) h = ap₂ ◌∷◌ (h k (omega arith)) (levels-same s t k (λ j l. h j (omega arith)))

-- from the root they are the words from the first on
words_more : (t : List ℕ) (at n : ℕ) → words_at t at (suc n) ≡ words_at t at n ++ (number 2 t (at + 2 * n) ∷ [])
unfolding words_at
words_more t at zero = ap (λ (i : ℕ). number 2 t i ∷ []) (let e : at ≡ at + 2 * 0 = omega arith in e)
words_more t at (suc n) =
    ap (number 2 t at ∷◌)
    (words_more t (at + 2) n
    ∙ ap (λ (i : ℕ). words_at t (at + 2) n ++ (number 2 t i ∷ [])) (let e : at + 2 + 2 * n ≡ at + 2 * suc n = omega arith in e))

pub reversed : (t : List ℕ) (k : ℕ) → reverse (levels_in t k) ≡ words_at t 0 k
unfolding levels_in words_at
reversed t zero = refl
reversed t (suc k) =
    reverse-cons (number word_length t (word_length * k)) (levels_in t k)
    ∙ ap₂ (λ (xs : List ℕ) (i : ℕ). xs ++ (number 2 t i ∷ [])) (reversed t k) (let e : word_length * k ≡ 0 + 2 * k = omega arith in e)
    ∙ sym (words_more t 0 k)

or-false : (a b : Bool) → (a || b) ≡ false → (a ≡ false) × (b ≡ false)
or-false true b h = absurd (true≢false h)
or-false false b h = (refl, h)

-- what is reached, and what is too far
module _ {path path' : List ℕ} {y : Spot} (same : length path' ≡ length path) where
  pub took-near : {at : Climbed} → spot_at path' at ≡ y → carried (path_to y) ≡ true → Took path path' y (Some at)
  took-near {at} q h =
      record {
        same_length = same;
        near = λ x e. (ap (spot_at path') (sym (same_Some at x e)) ∙ q, h);
        far = λ e. absurd (let z : ◌≡◌ {A = ℕ} 0 1 = cc in let n : ⊥ = omega arith in n);
      }

  pub took-far : carried (path_to y) ≡ false → Took path path' y None
  took-far h =
      record {
        same_length = same;
        near = λ x e. absurd (let z : ◌≡◌ {A = ℕ} 0 1 = cc in let n : ⊥ = omega arith in n);
        far = λ e. h;
      }

-- where a spot is reached, one may go on from it
pub took-ready : {path path' : List ℕ} {y : Spot} {c : Option Climbed} {at : Climbed} → path_length ≤ length path → Took path path' y c → c ≡ Some at
    → Ready path' at
took-ready {at = at} room k e =
    let x = k.near at e in
    record { room = omega (arith, k.same_length); near = ap (λ (z : Spot). carried (path_to z)) x.0 ∙ x.1 }

-- a spot that isn't too far has its numbers in range
module _ {path : List ℕ} {at : Climbed} (g : Ready path at) where
  has : Carries (suc at.before) (levels_in path at.levels)
  has = carried-has (suc at.before) (levels_in path at.levels) g.near

  pub ready-few : (at.levels < most_levels) × (at.before < most_place)
  ready-few = let l = length-levels path at.levels in (omega (arith, has.levels), omega (arith, has.small))

  pub level-room : word_length * at.levels + word_length ≤ length path
  level-room = omega (arith, ready-few, g.room)

  -- its own number behind the levels above it
  pub level-put : {path' : List ℕ} → path' ≡ put word_length path (word_length * at.levels) (at.before + 1) → LevelPut at path path'
  unfolding levels_in
  level-put {path'} e =
      rw e
      (record {
        same_length = length-put word_length path (word_length * at.levels) (at.before + 1);
        writes = ap (levels_in (put word_length path (word_length * at.levels) (at.before + 1))) (add-one at.levels)
            ∙ ap₂ ◌∷◌
            (put_same word_length path (word_length * at.levels) (at.before + 1) level-room (omega (arith, ready-few)) ∙ add-one at.before)
            (levels-same path (put word_length path (word_length * at.levels) (at.before + 1)) at.levels
            (λ j l. put_other word_length word_length path (word_length * at.levels) (at.before + 1) (word_length * j) (λ b. absurd (omega arith))));
      })

  -- the spot itself
  pub took-here : Took path path (spot_at path at) (Some at)
  took-here = took-near refl refl g.near

  -- under it, behind m trees: told as v, up to 65,535
  module _ {v : ℕ} (m : ℕ) (told : v ≡ min m most_place) where
    pub under-far : (leb 63 at.levels || eqb v most_place) ≡ true → Took path path (m, path_to (spot_at path at)) None
    under-far why =
        took-far refl
        (by_bool (carried (suc m ∷ path_to (spot_at path at)))
        (λ h.
        let c : Carries (suc m) (path_to (spot_at path at)) = carried-has (suc m) (path_to (spot_at path at)) h in
        let e = length-levels path at.levels in
        let near : at.levels < 63 = omega (arith, c.levels) in
        let small : v < most_place = omega (arith, c.small) in
        absurd (false≢true (ap₂ ◌||◌ (sym (lt-leb 63 at.levels near)) (sym (ne_eqb v most_place (λ q. omega arith))) ∙ why)))
        (λ h. h))

    pub under-near : {path' : List ℕ} → (leb 63 at.levels || eqb v most_place) ≡ false → LevelPut at path path'
        → Took path path' (m, path_to (spot_at path at)) (Some (record { before = v; levels = at.levels + 1 }))
    under-near not p =
        let e = length-levels path at.levels in
        let x = or-false (leb 63 at.levels) (eqb v most_place) not in
        let few : at.levels < 63 = leb-false 63 at.levels x.0 in
        let other : v ≡ most_place → ⊥ = eqb-false v most_place x.1 in
        took-near p.same_length (ap₂ (λ (i : ℕ) (q : Path). (i, q)) (let q : v ≡ m = omega arith in q) p.writes)
        (has-carried (suc m) (path_to (spot_at path at)) (record { levels = omega arith; small = omega arith; above = g.near }))

    -- beside it, past m trees
    pub beside-far : most_place ≤ at.before + v → Took path path (at.before + m, levels_in path at.levels) None
    beside-far far =
        took-far refl
        (by_bool (carried (suc (at.before + m) ∷ levels_in path at.levels))
        (λ h. let small = (carried-has (suc (at.before + m)) (levels_in path at.levels) h).small in absurd (let n : ⊥ = omega arith in n))
        (λ h. h))

    pub beside-near : at.before + v < most_place
        → Took path path (at.before + m, levels_in path at.levels) (Some (record { before = at.before + v; levels = at.levels }))
    beside-near small =
        took-near refl (ap (λ (i : ℕ). (i, levels_in path at.levels)) (let q : at.before + v ≡ at.before + m = omega arith in q))
        (has-carried (suc (at.before + m)) (levels_in path at.levels) (record { levels = has.levels; small = omega arith; above = has.above }))
