-- Demand 3: over every list of walk calls on an accepted plan the answers are the finger's and the used cells are those of the
-- node where it stands. A closed rule's forest is walkable, and on a walkable forest each call keeps the cursor at the finger's
-- path. What it says of letters after the calls it says of every key inside a next call. Assumes nothing.
use Rattle.std.specs.Prelude.{Ok}
use Prim.Native.Nat.{ℕ, ◌*◌, ◌≤◌}
use mathlib.Core.Path.{◌≡◌, ap, ◌∙◌}
use mathlib.Core.Bool.{Bool, false, cond}
use mathlib.Core.List.{List, [], ◌∷◌, ◌++◌}
use lib.ListN.{length}
use Rattle.plan.specs.Check.{checked, rules_of}
use Rattle.forest.specs.Forest.{Forest, forest}
use Rattle.forest.specs.Place.{Placed, placed_forest}
use Rattle.forest.specs.Letter.{Letter, is_root}
use Rattle.forest.specs.Reference.{Path, path_after}
use Rattle.forest.specs.Walk.{letters_of, cells_in, used_cells, walked_rule, place_at}
use Rattle.forest.proofs.Steps.{path_after-append}
use Rattle.demand.specs.Calls.{Call, Left, walk_of, cursor_after_calls}
use Rattle.demand.specs.Demand.{turned_down, finger_path, Above, SameButSixteen, Meets, Demand3}
use Rattle.demand.proofs.Lists.{demanded}

pub demand3 : Demand3 walk_of
demand3 = demanded

-- inside a next call: l are its letters before the key c
module _ {n : ℕ} {g : Forest ℕ} {G : Forest Placed} {down : Call → Bool} {calls : List Call} {ls : List Left} {first end : List ℕ} {p : Path}
    (M : Meets n g G down calls ls first end p) (l : List Letter) (c : Letter) where
  pub key-small : length (place_at G (path_after g (l ++ (c ∷ [])) p)) ≤ 3 * n
  key-small = M.small (l ++ (c ∷ []))

  pub key-local : is_root c ≡ false → SameButSixteen (place_at G (path_after g l p)) (place_at G (path_after g (l ++ (c ∷ [])) p))
  unfolding path_after
  key-local e = rw (path_after-append g l (c ∷ []) p) (M.local l c e)

-- the finger's path after one more call
pub path-end : (g : Forest ℕ) (down : Call → Bool) (calls : List Call) (c : Call) (p : Path) → down c ≡ false
    → finger_path g down (calls ++ (c ∷ [])) p ≡ path_after g (letters_of c.letters) (finger_path g down calls p)
unfolding finger_path
path-end g down [] c p e = rw e
path-end g down (d ∷ ds) c p e = path-end g down ds c (cond (down d) p (path_after g (letters_of d.letters) p)) e

-- "and a call that ends there leaves them": a call with the letters up to a key leaves the place after it
pub ends_there : (s : List ℕ) (n start : ℕ) (cursor : List ℕ) (calls : List Call) (c : Call) → checked s ≡ Ok (record { n = n; start = start })
    → Above (rules_of s) start cursor → turned_down n cursor c ≡ false
    → cells_in (cursor_after_calls walk_of s cursor (calls ++ (c ∷ []))) (used_cells (cursor_after_calls walk_of s cursor (calls ++ (c ∷ []))))
    ≡ place_at (placed_forest (rules_of s) (walked_rule start cursor))
    (path_after (forest (rules_of s) (walked_rule start cursor)) (letters_of c.letters) (finger_path (forest (rules_of s) (walked_rule start cursor)) (turned_down n cursor) calls []))
unfolding Demand3
ends_there s n start cursor calls c e a d =
    let r = walked_rule start cursor in
    (demand3 s n start cursor (calls ++ (c ∷ [])) e a).stored
    ∙ ap (place_at (placed_forest (rules_of s) r)) (path-end (forest (rules_of s) r) (turned_down n cursor) calls c [] d)
