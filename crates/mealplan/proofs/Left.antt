-- What a walk answers and leaves, given as numbers: part by part. Assumes nothing.
use Rattle.std.specs.Prelude.{Result}
use Rattle.refusal.specs.declared.Refusal.{Refusal}
use Prim.Native.Nat.{ℕ}
use mathlib.Core.Path.{◌≡◌, ap, ◌∙◌}
use mathlib.Core.List.{List}
use Rattle.demand.specs.Calls.{Left, leaves}
use Rattle.c_result.specs.Interface.{walked_gives, result_number, result_position}

pub left-given : {x : Result Unit Refusal} {work cursor answers : List ℕ} {l : Left} {result position : ℕ} → leaves x work cursor answers ≡ l
    → (result ≡ result_number (walked_gives x)) × (position ≡ result_position (walked_gives x))
    → (result ≡ result_number (walked_gives l.answer)) × (work ≡ l.work) × (cursor ≡ l.cursor) × (answers ≡ l.answers)
    × (position ≡ result_position (walked_gives l.answer))
left-given e g = (
  g.0 ∙ ap (λ (l : Left). result_number (walked_gives l.answer)) e,
  ap (λ (l : Left). l.work) e,
  ap (λ (l : Left). l.cursor) e,
  ap (λ (l : Left). l.answers) e,
  g.1 ∙ ap (λ (l : Left). result_position (walked_gives l.answer)) e,
)
