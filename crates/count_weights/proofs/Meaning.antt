-- An expression's sum is that over the nodes of the forest that it is worth: each right-hand side adds as the forest's nodes do, and what
-- fills a hole is there once. Assumes nothing.
use Prim.Native.Nat.{ℕ, ◌+◌}
use native.Mathlib.Omega.{arith}
use mathlib.Core.Path.{◌≡◌, refl, sym, ◌∙◌, ap, ap₂}
use Rattle.forest.specs.Expression.{Expression}
use Rattle.forest.specs.Algebra.{value}
use Rattle.forest.specs.Forest.{trees, weigh}
use Rattle.forest.specs.Good.{Sort, Good}
use Rattle.forest.proofs.Counts.{weigh-pair, weigh-node, weigh-part, weigh-fill}
use Rattle.count_weights.specs.Weights.{weight_in}

pub weight-value : (w : ℕ → ℕ) {s : Sort} {e : Expression} → Good s e → weight_in w e ≡ weigh w (trees (value e))
unfolding weight_in value
weight-value w Good.empty = unfold trees weigh in refl
weight-value w (Good.pair {r = r} {b = b} {c = c} g h) = ap₂ ◌+◌ (weight-value w g) (weight-value w h) ∙ sym (weigh-pair r b c w)
weight-value w (Good.grown g) = weight-value w g
weight-value w (Good.node {r = r} {a = a} {c = c} g) = ap (λ (n : ℕ). w a + n) (weight-value w g) ∙ sym (weigh-node r a c w)
weight-value w (Good.fill {c = c} g h) = ap₂ ◌+◌ (weight-value w g) (weight-value w h) ∙ sym (weigh-fill g c w)
weight-value w (Good.part {r = r} {a = a} {b = b} {c = c} g h) = omega (arith, weight-value w g, weight-value w h, weigh-part r a b c w)
weight-value w (Good.join {c = c} g h) = ap₂ ◌+◌ (weight-value w g) (weight-value w h) ∙ sym (weigh-fill g c w)
