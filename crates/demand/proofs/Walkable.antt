-- What the forest of an accepted plan has, and what a cursor at one of its nodes holds. These are the facts from which demand 3
-- follows. Assumes nothing.
use Prim.Native.Nat.{ℕ, ◌*◌, ◌≤◌, ◌<◌}
use mathlib.Core.Path.{◌≡◌}
use mathlib.Core.Bool.{false}
use mathlib.Core.List.{List}
use Rattle.std.specs.Prelude.{Some}
use lib.ListN.{length}
use Rattle.forest.specs.Forest.{Forest}
use Rattle.forest.specs.Relabel.{relabel}
use Rattle.forest.specs.Place.{Placed}
use Rattle.forest.specs.Letter.{Letter, is_root}
use Rattle.forest.specs.Reference.{Path, label_at, moved}
use Rattle.forest.specs.Walk.{nowhere, cell_at, cells_in, rule_word, place_at}
use Rattle.forest.proofs.Forget.{label}
use Rattle.forest.proofs.Search.{Distinct}
use Rattle.forest.specs.Position.{Named}
use Rattle.forest.proofs.Stored.{AllFitting}
use Rattle.demand.specs.Demand.{SameButSixteen}

-- the forest g with the places G, of a plan of n rules
pub record Walkable (n : ℕ) (g : Forest ℕ) (G : Forest Placed) : Type 0 where
  pub few : n ≤ 16384
  pub forgets : relabel label G ≡ g
  pub distinct : Distinct G
  pub bounded : (p : Path) (a : Placed) → label_at G p ≡ Some a → length a.1 ≤ 3 * n
  pub fitting : (p : Path) (a : Placed) → label_at G p ≡ Some a → AllFitting a.1
  pub labels : (p : Path) (a : ℕ) → label_at g p ≡ Some a → a < nowhere
  pub near : (p : Path) (c : Letter) → Named G p → is_root c ≡ false → SameButSixteen (place_at G p) (place_at G (moved G c p))

-- a cursor as long as the first one and with its word 1, at the node at path p
pub record Stands (G : Forest Placed) (first cursor : List ℕ) (p : Path) : Type 0 where
  pub named : Named G p
  pub same_length : length cursor ≡ length first
  pub head : cell_at cursor 0 ≡ (length (place_at G p), rule_word first, 0, 0)
  pub cells : cells_in cursor (length (place_at G p)) ≡ place_at G p
