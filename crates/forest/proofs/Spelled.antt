-- What each right-hand side writes, in any spelling: the forests of both sides one after the other, and of a spine what stands before its
-- hole, what is put into it, and what stands after it. Spread's text is one spelling. Assumes nothing.
use Prim.Native.Nat.{ℕ}
use mathlib.Core.Path.{◌≡◌, refl, ◌∙◌, ap, ap₂}
use mathlib.Core.List.{List, [], ◌∷◌, ◌++◌, append_assoc, append-nil}
use Rattle.words.specs.Number.{bytes}
use Rattle.record.specs.declared.Format.{Format}
use Rattle.record.specs.Format.{label_length}
use Rattle.forest.specs.Expression.{Expression}
use Rattle.forest.specs.Algebra.{Hedge, ◌·◌, ◌⟨◌⟩, value}
use Rattle.forest.specs.Forest.{Forest, append, trees, text}
use Rattle.forest.specs.Spelling.{Spelling, spelled, in_bytes}
use Rattle.forest.specs.Good.{Sort, Good}
use Rattle.forest.proofs.Values.{closed-⟨⟩, concat-⟨⟩, ⟨⟩-assoc, value-part, value-holes}
use Rattle.forest.proofs.Forget.{trees-concat}
use Rattle.forest.proofs.Counts.{pair-trees, node-trees}

-- the text is the forest spelled in bytes
pub text-spelled : (f : Format) (g : Forest ℕ) → spelled (in_bytes f) g ≡ text f g
unfolding spelled in_bytes text
text-spelled f Forest.none = refl
text-spelled f (Forest.tree a c g) =
    ap₂ (λ (k l : List ℕ). 40 ∷ (bytes (label_length f) a ++ (k ++ (41 ∷ l)))) (text-spelled f c) (text-spelled f g)

pub part-around : (r a : ℕ) (b c : Expression) → Good Sort.row b → Good Sort.row c → (g : Hedge) →
    trees (value (Expression.part r a b c) ⟨ g ⟩) ≡ Forest.tree a (append (trees (value b)) (append (trees g) (trees (value c)))) Forest.none
unfolding trees ◌⟨◌⟩
part-around r a b c β γ g =
    rw (value-part r a b c, concat-⟨⟩ (value b) (Hedge.hole (value c)) g)
    (rw (closed-⟨⟩ (value b) g (value-holes β), closed-⟨⟩ (value c) g (value-holes γ), trees-concat (value b) (g · value c), trees-concat g (value c)))

-- what a spine writes before its hole, and after it
unfoldable pub before : Spelling → Expression → List ℕ
before x (Expression.empty r) = []
before x (Expression.pair r b c) = []
before x (Expression.node r a c) = []
before x (Expression.fill r b c) = []
before x (Expression.part r a b c) = x.opens a ++ spelled x (trees (value b))
before x (Expression.join r b c) = before x b ++ before x c

unfoldable pub after : Spelling → Expression → List ℕ
after x (Expression.empty r) = []
after x (Expression.pair r b c) = []
after x (Expression.node r a c) = []
after x (Expression.fill r b c) = []
after x (Expression.part r a b c) = spelled x (trees (value c)) ++ x.closes
after x (Expression.join r b c) = after x c ++ after x b

module _ (x : Spelling) where
  pub spelled-append : (g h : Forest ℕ) → spelled x (append g h) ≡ spelled x g ++ spelled x h
  unfolding append spelled
  spelled-append Forest.none h = refl
  spelled-append (Forest.tree a c g) h = rw (spelled-append g h) (simp append_assoc)

  pub spelled-pair : (r : ℕ) (b c : Expression)
      → spelled x (trees (value (Expression.pair r b c))) ≡ spelled x (trees (value b)) ++ spelled x (trees (value c))
  spelled-pair r b c = ap (spelled x) (pair-trees r b c) ∙ spelled-append (trees (value b)) (trees (value c))

  pub spelled-node : (r a : ℕ) (c : Expression)
      → spelled x (trees (value (Expression.node r a c))) ≡ x.opens a ++ (spelled x (trees (value c)) ++ x.closes)
  unfolding spelled
  spelled-node r a c = ap (spelled x) (node-trees r a c) ∙ rw (append-nil x.closes)

  pub spelled-fill : {e : Expression} → Good Sort.spine e → (g : Hedge)
      → spelled x (trees (value e ⟨ g ⟩)) ≡ before x e ++ (spelled x (trees g) ++ after x e)
  unfolding before after spelled value
  spelled-fill (Good.part {r} {a} {b} {c} β γ) g =
      rw (
        part-around r a b c β γ g,
        spelled-append (trees (value b)) (append (trees g) (trees (value c))),
        spelled-append (trees g) (trees (value c)),
        append-nil x.closes,
      )
      (simp append_assoc)
  spelled-fill (Good.join {r} {b} {c} β γ) g =
      rw (⟨⟩-assoc (value b) (value c) g, spelled-fill β (value c ⟨ g ⟩), spelled-fill γ g) (simp append_assoc)
