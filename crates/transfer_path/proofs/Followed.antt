-- A path followed in a forest: it ends at a node, or above the forest; it is the path less some deepest numbers; and no longer beginning of
-- the path names a node, since a node's parent is one. Assumes nothing.
use Prim.Native.Nat.{ℕ}
use mathlib.Core.Path.{◌≡◌, refl, sym, ◌∙◌, ap}
use mathlib.Core.List.{List, [], ◌∷◌, ◌++◌, reverse, append-nil, append_assoc, reverse-cons, reverse-append, reverse-reverse}
use Rattle.std.specs.Prelude.{None, Some, option_map}
use Rattle.forest.specs.Forest.{Forest}
use Rattle.forest.specs.Relabel.{relabel}
use Rattle.forest.specs.Reference.{Path, label_at, kept}
use Rattle.forest.specs.Position.{Named}
use Rattle.forest.proofs.Cases.{by-option}
use Rattle.forest.proofs.Reach.{parent-named}
use Rattle.forest.proofs.Relabel.{label_at-relabel}
use Rattle.transfer_path.specs.Follow.{descended, followed, Beginning}

module _ {A : Type 0} (g : Forest A) where
  -- a step that exists is taken, and at one that is missing the search stops
  pub descended-there : {a : A} (i : ℕ) (p : Path) (is : List ℕ) → label_at g (i ∷ p) ≡ Some a → descended g p (i ∷ is) ≡ descended g (i ∷ p) is
  unfolding descended kept
  descended-there i p is e = rw e

  pub descended-missing : (i : ℕ) (p : Path) (is : List ℕ) → label_at g (i ∷ p) ≡ None → descended g p (i ∷ is) ≡ p
  unfolding descended kept
  descended-missing i p is e = rw e

  -- to a node every step exists
  named-descended : (p : Path) → Named g p → (is : List ℕ) → descended g [] (reverse p ++ is) ≡ descended g p is
  named-descended [] n is = refl
  named-descended (i ∷ p) (Named.node e) is =
      ap (descended g []) (ap (λ xs. xs ++ is) (reverse-cons i p) ∙ append_assoc (reverse p) (i ∷ []) is)
      ∙ named-descended p (parent-named i p e) (i ∷ is)
      ∙ descended-there i p is e

  -- the same forest, the same place
  pub followed-named : (p : Path) → Named g p → followed g p ≡ p
  unfolding followed descended
  followed-named p n = ap (descended g []) (sym (append-nil (reverse p))) ∙ named-descended p n []

  -- where the search stops is a node, or above the forest
  descended-ends : (p : Path) (is : List ℕ) → Named g p → Named g (descended g p is)
  unfolding descended
  descended-ends p [] n = n
  descended-ends p (i ∷ is) n =
      by-option (label_at g (i ∷ p))
      (λ e. rw (descended-missing i p is e) n)
      (λ a e. rw (descended-there i p is e) (descended-ends (i ∷ p) is (Named.node e)))

  pub named-followed : (p : Path) → Named g (followed g p)
  unfolding followed
  named-followed p = descended-ends [] (reverse p) Named.above

  -- the search takes the first numbers of those asked, and begins where it began
  record Taken (p : Path) (is : List ℕ) : Type 0 where
    took : List ℕ
    left : List ℕ
    asked : is ≡ took ++ left
    stopped : descended g p is ≡ reverse took ++ p

  takes : (p : Path) (is : List ℕ) → Taken p is
  unfolding descended
  takes p [] = record { took = []; left = []; asked = refl; stopped = refl }
  takes p (i ∷ is) =
      by-option (label_at g (i ∷ p))
      (λ e. record { took = []; left = i ∷ is; asked = refl; stopped = descended-missing i p is e })
      (λ a e.
      let t : Taken (i ∷ p) is = takes (i ∷ p) is in
      record {
        took = i ∷ t.took;
        left = t.left;
        asked = ap (λ xs. i ∷ xs) t.asked;
        stopped = descended-there i p is e
            ∙ t.stopped
            ∙ sym (ap (λ xs. xs ++ p) (reverse-cons i t.took) ∙ append_assoc (reverse t.took) (i ∷ []) p);
      })

  -- a path followed is the path less some deepest numbers
  pub followed-beginning : (p : Path) → Beginning (followed g p) p
  unfolding followed
  followed-beginning p =
      let t : Taken [] (reverse p) = takes [] (reverse p) in (
        reverse t.left,
        sym (reverse-reverse p)
            ∙ ap reverse t.asked
            ∙ reverse-append t.took t.left
            ∙ ap (λ xs. reverse t.left ++ xs) (sym (t.stopped ∙ append-nil (reverse t.took))),
      )

  -- every beginning of a path that names a node is one of the path followed
  pub followed-longest : (xs : List ℕ) (q : Path) → Named g q → Beginning q (followed g (xs ++ q))
  unfolding followed
  followed-longest xs q n =
      let t : Taken q (reverse xs) = takes q (reverse xs) in
      (reverse t.took, ap (descended g []) (reverse-append xs q) ∙ named-descended q n (reverse xs) ∙ t.stopped)

-- labels don't matter
module _ {A B : Type 0} (h : A → B) (g : Forest A) where
  pub descended-relabel : (p : Path) (is : List ℕ) → descended (relabel h g) p is ≡ descended g p is
  unfolding descended
  descended-relabel p [] = refl
  descended-relabel p (i ∷ is) =
      by-option (label_at g (i ∷ p))
      (λ e. descended-missing (relabel h g) i p is (label_at-relabel h g (i ∷ p) ∙ ap (option_map h) e) ∙ sym (descended-missing g i p is e))
      (λ a e.
      descended-there (relabel h g) i p is (label_at-relabel h g (i ∷ p) ∙ ap (option_map h) e)
      ∙ descended-relabel (i ∷ p) is
      ∙ sym (descended-there g i p is e))

  pub followed-relabel : (p : Path) → followed (relabel h g) p ≡ followed g p
  unfolding followed
  followed-relabel p = descended-relabel [] (reverse p)
