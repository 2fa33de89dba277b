-- What a row is made from is there: the rows of the rules named. Assumes nothing.
use Prim.Native.Nat.{ℕ}
use mathlib.Core.List.{List}
use Rattle.rule.specs.declared.Rule.{Rule}
use Rattle.forest.specs.Place.{Side}
use Rattle.rule.specs.Names.{Names}
use Rattle.facts.specs.Facts.{In}
use Rattle.facts.specs.Build.{Ready}

module _ {x : Rule} {t : List ℕ} (h : Ready x t) where
  pub ready-room : (k : ℕ) → Names x k → In t k
  ready-room k n = ((h.reads k n).steps Side.left).here
