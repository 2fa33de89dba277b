-- The parts of a spine by their numbers: a spine has as many as nodes above its hole, part j of a join is part j of its B or a part of its
-- C, and to go through a spine is to go through its parts one after another. Assumes nothing.
use Prim.Native.Nat.{ℕ, ◌+◌, ◌-◌, ◌≤◌, ◌<◌}
use native.Mathlib.Omega.{arith}
use mathlib.Core.Path.{◌≡◌, refl, sym, ◌∙◌, ap}
use mathlib.Core.List.{List, [], ◌∷◌, ◌++◌}
use lib.ListN.{length, get_or, length-append, get_or-append}
use lib.Seq.{get_or-append-add}
use Rattle.forest.specs.Expression.{Expression}
use Rattle.forest.specs.Good.{Sort, Good}
use Rattle.transfer_path.specs.Spot.{Spot, path_to, tops, through, ahead, threaded}

-- a spine's parts are as many as the nodes above its hole
pub ahead-count : {e : Expression} → Good Sort.spine e → length (ahead e) ≡ tops e
unfolding ahead tops
ahead-count (Good.part g h) = refl
ahead-count (Good.join {b = b} {c = c} g h) = length-append (ahead b) (ahead c) ∙ omega (arith, ahead-count g, ahead-count h)

-- part j of a join is part j of its B, or part j less those of B of its C
module _ (r j : ℕ) {b : Expression} (c : Expression) (g : Good Sort.spine b) where
  pub ahead-left : j < tops b → get_or (ahead (Expression.join r b c)) j 0 ≡ get_or (ahead b) j 0
  unfolding ahead
  ahead-left l = get_or-append (ahead b) (ahead c) 0 j (omega (arith, ahead-count g))

  pub ahead-right : tops b ≤ j → get_or (ahead (Expression.join r b c)) j 0 ≡ get_or (ahead c) (j - tops b) 0
  unfolding ahead
  ahead-right l =
      ap (λ i. get_or (ahead b ++ ahead c) i 0) (let e : j ≡ length (ahead b) + (j - tops b) = omega (arith, ahead-count g) in e)
      ∙ get_or-append-add (ahead b) (ahead c) (j - tops b) 0

-- parts through which one goes one after another
pub threaded-append : (is js : List ℕ) (x : Spot) → threaded (is ++ js) x ≡ threaded js (threaded is x)
unfolding threaded
threaded-append [] js x = refl
threaded-append (i ∷ is) js x = threaded-append is js (i, path_to x)

-- each is a level more
pub threaded-levels : (is : List ℕ) (x : Spot) → length (threaded is x).1 ≡ length x.1 + length is
unfolding threaded
threaded-levels [] x = omega arith
threaded-levels (i ∷ is) x = threaded-levels is (i, path_to x) ∙ omega arith

pub through-threaded : {e : Expression} → Good Sort.spine e → (x : Spot) → through e x ≡ threaded (ahead e) x
unfolding through threaded ahead
through-threaded (Good.part g h) x = refl
through-threaded (Good.join {b = b} {c = c} g h) x =
    through-threaded h (through b x) ∙ ap (threaded (ahead c)) (through-threaded g x) ∙ sym (threaded-append (ahead b) (ahead c) x)
