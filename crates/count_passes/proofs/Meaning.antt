-- What an expression says is the text of its forest: by induction over the sorts of expressions. Assumes nothing.
use Prim.Native.Nat.{ℕ}
use mathlib.Core.Path.{◌≡◌, refl, sym, ◌∙◌, ap, ap₂}
use mathlib.Core.List.{List, ◌++◌}
use Rattle.record.specs.declared.Format.{Format}
use Rattle.forest.specs.Expression.{Expression}
use Rattle.forest.specs.Algebra.{value}
use Rattle.forest.specs.Forest.{trees, text}
use Rattle.forest.specs.Spelling.{Spelling, spelled, in_bytes}
use Rattle.forest.specs.Good.{Sort, Good}
use Rattle.forest.proofs.Spelled.{text-spelled, spelled-pair, spelled-node, spelled-fill, before as spelled_before, after as spelled_after}
use Rattle.count_passes.specs.Says.{whole, before, after, spoken, says}

-- what spoken is, by sort: a closed expression's forest, spelled; of a holed one what stands on both sides of the hole
module _ (x : Spelling) where
  abbrev pub Told : Sort → Expression → Type 0
  Told Sort.row e = spoken x e whole ≡ spelled x (trees (value e))
  Told Sort.tree e = spoken x e whole ≡ spelled x (trees (value e))
  Told Sort.spine e = (spoken x e before ≡ spelled_before x e) × (spoken x e after ≡ spelled_after x e)

  told-fill : (r : ℕ) (b c : Expression) → Good Sort.spine b → Told Sort.spine b → Told Sort.tree c → Told Sort.tree (Expression.fill r b c)
  unfolding spoken value
  told-fill r b c g p q = rw (p.0, p.1, q) (sym (spelled-fill x g (value c)))

  pub spoken-spelled : {s : Sort} {e : Expression} → Good s e → Told s e
  unfolding spoken value trees spelled spelled_before spelled_after
  spoken-spelled Good.empty = refl
  spoken-spelled (Good.pair {r = r} {b = b} {c = c} g h) = ap₂ ◌++◌ (spoken-spelled g) (spoken-spelled h) ∙ sym (spelled-pair x r b c)
  spoken-spelled (Good.grown g) = spoken-spelled g
  spoken-spelled (Good.node {r = r} {a = a} {c = c} g) =
      ap (λ (l : List ℕ). x.opens a ++ (l ++ x.closes)) (spoken-spelled g) ∙ sym (spelled-node x r a c)
  spoken-spelled (Good.fill {r = r} {b = b} {c = c} g h) = told-fill r b c g (spoken-spelled g) (spoken-spelled h)
  spoken-spelled (Good.part {a = a} g h) =
      (ap (λ (l : List ℕ). x.opens a ++ l) (spoken-spelled g), ap (λ (l : List ℕ). l ++ x.closes) (spoken-spelled h))
  spoken-spelled (Good.join g h) =
      (ap₂ ◌++◌ (spoken-spelled g).0 (spoken-spelled h).0, ap₂ ◌++◌ (spoken-spelled h).1 (spoken-spelled g).1)

-- in bytes: the text
pub told : (f : Format) {e : Expression} → Good Sort.row e → says f e whole ≡ text f (trees (value e))
told f {e} g = spoken-spelled (in_bytes f) g ∙ text-spelled f (trees (value e))
