-- The walker's steps: a letter keeps the path or takes the path tried, so the path after letters is empty or names a node,
-- and letters taken in two portions are the letters taken at once. Assumes nothing.
use mathlib.Core.Path.{◌≡◌, refl, ◌∙◌, ap}
use mathlib.Core.Bool.{Bool, true, false, cond, not, ◌&&◌}
use mathlib.Core.List.{List, [], ◌∷◌, ◌++◌}
use Rattle.std.specs.Prelude.{Option, Some, None}
use Rattle.std.proofs.lemmas.Option.{none-some}
use Rattle.forest.specs.Forest.{Forest}
use Rattle.forest.specs.Letter.{Letter, is_root}
use Rattle.forest.specs.Position.{Named, node}
use Rattle.forest.specs.Reference.{Path, label_at, tried, is_above, answer, moved, answers, path_after}
use Rattle.forest.proofs.Cases.{by-option}

module _ {A : Type 0} (g : Forest A) where
  -- the path is kept where the answer is nowhere, and else is the path tried
  pub moved_nowhere : (c : Letter) (p : Path) → answer g c p ≡ None → moved g c p ≡ p
  unfolding moved
  moved_nowhere c p e = rw e

  pub moved-node : (c : Letter) (p : Path) {a : A} → answer g c p ≡ Some a → moved g c p ≡ tried g c p
  unfolding moved
  moved-node c p e = rw e

  some-cond : (b : Bool) {x : Option A} {a : A} → cond b None x ≡ Some a → x ≡ Some a
  some-cond true e = absurd (none-some _ e)
  some-cond false e = e

  -- an answer is the label of the node arrived at
  pub answer-label : (c : Letter) (p : Path) {a : A} → answer g c p ≡ Some a → label_at g (moved g c p) ≡ Some a
  unfolding answer
  answer-label c p e = ap (label_at g) (moved-node c p e) ∙ some-cond (is_above p && not (is_root c)) e

  pub path_after-append : (xs ys : List Letter) (p : Path) → path_after g (xs ++ ys) p ≡ path_after g ys (path_after g xs p)
  unfolding path_after
  path_after-append [] ys p = refl
  path_after-append (c ∷ xs) ys p = path_after-append xs ys (moved g c p)

  pub answers-append : (xs ys : List Letter) (p : Path) → answers g (xs ++ ys) p ≡ answers g xs p ++ answers g ys (path_after g xs p)
  unfolding answers path_after
  answers-append [] ys p = refl
  answers-append (c ∷ xs) ys p = ap (λ x. answer g c p ∷ x) (answers-append xs ys (moved g c p))

-- answers and paths from above depend on the forest alone
pub same-answers : {A : Type 0} {f g : Forest A} → f ≡ g → (cs : List Letter) → answers f cs [] ≡ answers g cs []
same-answers e cs = ap (λ x. answers x cs []) e

pub same_after : {A : Type 0} {f g : Forest A} → f ≡ g → (cs : List Letter) → path_after f cs [] ≡ path_after g cs []
same_after e cs = ap (λ x. path_after x cs []) e

pub moved_named : {A : Type 0} (g : Forest A) (c : Letter) (p : Path) → Named g p → Named g (moved g c p)
moved_named g c p n = by-option (answer g c p) (λ e. rw (moved_nowhere g c p e) n) (λ a e. node (answer-label g c p e))

pub after-named : {A : Type 0} (g : Forest A) (cs : List Letter) (p : Path) → Named g p → Named g (path_after g cs p)
unfolding path_after
after-named g [] p n = n
after-named g (c ∷ cs) p n = after-named g cs (moved g c p) (moved_named g c p n)
