-- What each reason says of the unfolded forest and a path (document 02, Note 11), each sentence by itself.
use Rattle.std.specs.Prelude.{ℕ, ◌≡◌, ◌≢◌, false, [], ◌∷◌}
use Rattle.std.specs.Prelude.{None}
use Rattle.forest.specs.Forest.{Forest, count}
use Rattle.forest.specs.Place.{Side}
use Rattle.forest.specs.Letter.{Letter, is_root}
use Rattle.forest.specs.Reference.{Path, children_at, answer}
use Rattle.reasons.specs.declared.Reason.{Reason}

-- "above the forest and no a or z pressed (1)", "Where 1 and 2 both fit, 2 is given": in a forest with trees
pub record AboveTrees {A : Type 0} (g : Forest A) (c : Letter) (p : Path) : Type 0 where
  pub trees : g ≢ Forest.none
  pub stands : p ≡ []
  pub pressed : is_root c ≡ false

-- "f or l without children (3)"
pub record Childless {A : Type 0} (g : Forest A) (c : Letter) (p : Path) : Type 0 where
  pub side : Side
  pub number : ℕ
  pub parent : Path
  pub pressed : c ≡ Letter.child side
  pub stands : p ≡ number ∷ parent
  pub without : children_at g p ≡ Forest.none

-- "n on the last of its siblings (4)"
pub record OnLast {A : Type 0} (g : Forest A) (c : Letter) (p : Path) : Type 0 where
  pub parent : Path
  pub pressed : c ≡ Letter.sibling Side.right
  pub stands : p ≡ count (children_at g parent) ∷ parent

-- "p on the first (5)"
pub record OnFirst (c : Letter) (p : Path) : Type 0 where
  pub parent : Path
  pub pressed : c ≡ Letter.sibling Side.left
  pub stands : p ≡ 1 ∷ parent

-- "u on a root (6)"
pub record OnRoot (c : Letter) (p : Path) : Type 0 where
  pub number : ℕ
  pub pressed : c ≡ Letter.parent
  pub stands : p ≡ number ∷ []

-- "say which holds": the sentence of each; "the letter moves (0)", the finger's answer isn't nowhere; "the forest is empty (2)"
unfoldable pub Says : {A : Type 0} → Forest A → Letter → Path → Reason → Type 0
Says g c p Reason.Moves = answer g c p ≢ None
Says g c p Reason.Above = AboveTrees g c p
Says g c p Reason.NoTrees = g ≡ Forest.none
Says g c p Reason.NoChildren = Childless g c p
Says g c p Reason.LastSibling = OnLast g c p
Says g c p Reason.FirstSibling = OnFirst c p
Says g c p Reason.Root = OnRoot c p
