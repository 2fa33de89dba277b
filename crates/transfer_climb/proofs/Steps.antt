-- What a loop of the climb keeps: how far it has come from where it began, with what is written meanwhile. A turn goes on from there, and what
-- is too far on the way is too far at the end. Assumes nothing.
use Rattle.std.specs.Prelude.{Option, Some, None}
use Prim.Native.Nat.{ℕ, ◌+◌, min, ◌≤◌, ◌<◌}
use native.Mathlib.Omega.{arith}
use native.Mathlib.Numerals.{add-one}
use mathlib.Core.Path.{◌≡◌, refl, sym, ap, ◌∙◌}
use mathlib.Core.List.{List, [], ◌∷◌}
use lib.ListN.{length, get_or, take, drop, length-take, take-append-drop}
use lib.Seq.{take-suc, take_all}
use Rattle.forest.specs.Expression.{Expression}
use Rattle.forest.specs.Place.{Side}
use Rattle.forest.specs.Good.{Sort, Good}
use Rattle.model.specs.Facts.{Facts}
use Rattle.model.specs.Run.{along}
use Rattle.transfer_path.specs.Follow.{most_place, carried}
use Rattle.transfer_path.specs.Spot.{Spot, path_to, tops, through, ahead, threaded}
use Rattle.transfer_path.specs.CellSpot.{step_spot, right_steps}
use Rattle.transfer_path.proofs.Ahead.{ahead-count, threaded-append, threaded-levels, through-threaded}
use Rattle.transfer_path.proofs.Carried.{Nearer, not_carried, nearer-threaded, nearer-further}
use Rattle.transfer_climb.specs.declared.Climbed.{Climbed}
use Rattle.transfer_climb.specs.Climb.{spot_at, Ready, Took}
use Rattle.transfer_climb.proofs.Levels.{length-levels, ready-few, took-near, took-far, took-ready}

-- the spot y is reached, and nothing but the path's words is written
pub record Reached (path₀ path : List ℕ) (y : Spot) (at : Climbed) : Type 0 where
  pub same_length : length path ≡ length path₀
  pub spot : spot_at path at ≡ y
  pub ready : Ready path at

pub reached-start : {path : List ℕ} {at : Climbed} → Ready path at → Reached path path (spot_at path at) at
reached-start g = record { same_length = refl; spot = refl; ready = g }

module _ {path₀ path : List ℕ} {y : Spot} {at : Climbed} (h : Reached path₀ path y at) where
  -- a turn from there, by what it does to a spot
  pub reached-more : (f : Spot → Spot) {path' : List ℕ} {c : Option Climbed} {at' : Climbed} → Took path path' (f (spot_at path at)) c → c ≡ Some at'
      → Reached path₀ path' (f y) at'
  reached-more f {at' = at'} k e =
      record {
        same_length = k.same_length ∙ h.same_length;
        spot = (k.near at' e).0 ∙ ap f h.spot;
        ready = took-ready h.ready.room k e;
      }

  pub reached-far : (f : Spot → Spot) {path' : List ℕ} {c : Option Climbed} {z : Spot} → Took path path' (f (spot_at path at)) c → c ≡ None
      → Nearer (f y) z → Took path₀ path' z None
  reached-far f {z = z} k e near =
      took-far (k.same_length ∙ h.same_length)
      (not_carried (f (spot_at path at)) z (λ q. ap (λ (x : Spot). carried (path_to (f x))) h.spot ∙ near q) (k.far e))

  pub reached-end : {z : Spot} → y ≡ z → Took path₀ path z (Some at)
  reached-end {z} e =
      let q : spot_at path at ≡ z = h.spot ∙ e in
      took-near h.same_length q (ap (λ (x : Spot). carried (path_to x)) (sym q) ∙ h.ready.near)

-- the parts of a spine, one after another
threaded-more : (is : List ℕ) (x : Spot) (j : ℕ) → j < length is → threaded (take (j + 1) is) x ≡ (get_or is j 0, path_to (threaded (take j is) x))
unfolding threaded
threaded-more is x j l =
    ap (λ (n : ℕ). threaded (take n is) x) (add-one j)
    ∙ ap (λ (js : List ℕ). threaded js x) (take-suc is j 0 l)
    ∙ threaded-append (take j is) (get_or is j 0 ∷ []) x

nearer-whole : (is : List ℕ) (x : Spot) (j : ℕ) → Nearer (threaded (take j is) x) (threaded is x)
nearer-whole is x j h =
    nearer-threaded (drop j is) (threaded (take j is) x)
    (ap (λ (y : Spot). carried (path_to y)) (sym (threaded-append (take j is) (drop j is) x) ∙ ap (λ (js : List ℕ). threaded js x) (take-append-drop j is)) ∙ h)

-- the first j of them are gone through
pub record Threading (e : Expression) (x : Spot) (path₀ path : List ℕ) (parts j : ℕ) (at : Climbed) : Type 0 where
  pub most : j ≤ parts
  pub reached : Reached path₀ path (threaded (take j (ahead e)) x) at

pub threading-start : (e : Expression) (parts : ℕ) {path : List ℕ} {at : Climbed} → Ready path at → Threading e (spot_at path at) path path parts 0 at
unfolding threaded
threading-start e parts g = record { most = omega arith; reached = reached-start g }

module _ {e : Expression} (g : Good Sort.spine e) {x : Spot} {path₀ path : List ℕ} {parts j : ℕ} {at : Climbed}
    (told : parts ≡ min (tops e) most_place) (h : Threading e x path₀ path parts j at) where
  asked : j < parts → j < length (ahead e)
  asked l = omega (arith, ahead-count g)

  pub through-more : {path' : List ℕ} {c : Option Climbed} {at' : Climbed} → j < parts
      → Took path path' (get_or (ahead e) j 0, path_to (spot_at path at)) c → c ≡ Some at' → Threading e x path₀ path' parts (j + 1) at'
  through-more l k q =
      record {
        most = omega arith;
        reached = rw (threaded-more (ahead e) x j (asked l)) (reached-more h.reached (λ (y : Spot). (get_or (ahead e) j 0, path_to y)) k q);
      }

  pub through-far : {path' : List ℕ} {c : Option Climbed} → j < parts → Took path path' (get_or (ahead e) j 0, path_to (spot_at path at)) c
      → c ≡ None → Took path₀ path' (through e x) None
  through-far l k q =
      rw (through-threaded g x)
      (reached-far h.reached (λ (y : Spot). (get_or (ahead e) j 0, path_to y)) k q
      (rw (threaded-more (ahead e) x j (asked l)) at (nearer-whole (ahead e) x (j + 1))))

  -- a path that is carried has fewer levels than the most parts that are told
  pub through-end : parts ≤ j → Took path₀ path (through e x) (Some at)
  through-end all =
      let most = h.most in
      let n = ahead-count g in
      let a = threaded-levels (take j (ahead e)) x in
      let b = length-take j (ahead e) in
      let c : at.levels ≡ length (threaded (take j (ahead e)) x).1 =
      sym (length-levels path at.levels) ∙ ap (λ (y : Spot). length y.1) h.reached.spot in
      let few = ready-few h.reached.ready in
      reached-end h.reached (ap (λ (js : List ℕ). threaded js x) (take_all j (ahead e) (omega arith)) ∙ sym (through-threaded g x))

-- a run of right steps: the first j of them are taken
pub record Running (F : Facts) (E : ℕ → Expression) (steps a : ℕ) (x : Spot) (path₀ path : List ℕ) (j rule : ℕ) (at : Climbed) : Type 0 where
  pub most : j ≤ steps
  pub here : rule ≡ along F Side.right j a
  pub reached : Reached path₀ path (right_steps F E j a x) at

pub running-start : (F : Facts) (E : ℕ → Expression) (steps a : ℕ) {path : List ℕ} {at : Climbed} → Ready path at
    → Running F E steps a (spot_at path at) path path 0 a at
unfolding along right_steps
running-start F E steps a g = record { most = omega arith; here = refl; reached = reached-start g }

module _ {F : Facts} {E : ℕ → Expression} {steps a : ℕ} {x : Spot} {path₀ path : List ℕ} {j rule : ℕ} {at : Climbed}
    (h : Running F E steps a x path₀ path j rule at) where
  run-one : right_steps F E (j + 1) a x ≡ step_spot E (F.rule rule) (right_steps F E j a x)
  unfolding right_steps
  run-one =
      ap (λ (n : ℕ). right_steps F E n a x) (add-one j) ∙ ap (λ (r : ℕ). step_spot E (F.rule r) (right_steps F E j a x)) (sym h.here)

  pub run_more : {path' : List ℕ} {c : Option Climbed} {at' : Climbed} {r : ℕ} → j < steps
      → Took path path' (step_spot E (F.rule rule) (spot_at path at)) c → c ≡ Some at' → r ≡ F.toward Side.right rule
      → Running F E steps a x path₀ path' (j + 1) r at'
  unfolding along
  run_more l k q e =
      record {
        most = omega arith;
        here = e ∙ ap (F.toward Side.right) h.here ∙ ap (λ (n : ℕ). along F Side.right n a) (sym (add-one j));
        reached = rw run-one (reached-more h.reached (step_spot E (F.rule rule)) k q);
      }

  pub run-far : {path' : List ℕ} {c : Option Climbed} → j < steps → Took path path' (step_spot E (F.rule rule) (spot_at path at)) c → c ≡ None
      → Took path₀ path' (right_steps F E steps a x) None
  run-far l k q = reached-far h.reached (step_spot E (F.rule rule)) k q (rw run-one at (nearer-further F E (j + 1) steps a x (omega arith)))

  pub run_end : steps ≤ j → Took path₀ path (right_steps F E steps a x) (Some at)
  run_end m = reached-end h.reached (ap (λ (n : ℕ). right_steps F E n a x) (let e : j ≡ steps = omega (arith, h.most) in e))
