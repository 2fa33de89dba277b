-- What is known is the row's word. Assumes nothing.
use mathlib.Core.Path.{sym, ap, ◌∙◌}
use Rattle.facts.proofs.Words.{known-is_empty}
use Prim.Native.Nat.{ℕ}
use lib.Dec.{eqb}
use Rattle.facts.proofs.is_empty_at.Goals as goal

pub returns : goal.returns
returns c = let a = c.args in ap (λ (w : ℕ). eqb w 1) c.field16.ensures ∙ sym (known-is_empty a.work.now a.r c.requires)
