-- What the C interface gives for each answer. Document 01: "When an answer is an enum, a definition states this paper's number and values
-- for each of its cases, and the promises use this definition."
use Rattle.std.specs.Prelude.{ℕ, List, [], ◌∷◌, get_or, Result, Ok, Err}
use Rattle.reasons.specs.declared.Reason.{Reason}
use Rattle.plan.specs.declared.Checked.{Checked}
use Rattle.unseal.specs.declared.Unsealed.{Unsealed}
use Rattle.refusal.specs.declared.Refusal.{Refusal}
use Rattle.refusal.specs.Refusal.{number_of, position_of}
use Rattle.forest.specs.declared.Compared.{Compared}
use Rattle.forest.specs.declared.Measured.{Measured}
use Rattle.reasons.specs.Reason as reason

-- an answer gives numbers, in the order of the pointers that they go behind, or is refused
pub data Given : Type 0 where
  numbers : List ℕ → Given
  refused : Refusal → Given

-- the result: 0, or the refusal's number
unfoldable pub result_number : Given → ℕ
result_number (Given.numbers xs) = 0
result_number (Given.refused r) = number_of r

-- the position: 0, or the refusal's
unfoldable pub result_position : Given → ℕ
result_position (Given.numbers xs) = 0
result_position (Given.refused r) = position_of r

-- the number behind pointer i, counted from 0, over what stood there, which a refusal leaves alone
unfoldable pub behind : ℕ → Given → ℕ → ℕ
behind i (Given.numbers xs) old = get_or xs i old
behind i (Given.refused r) old = old

-- of an answer that gives a value, by the numbers that stand for the value
unfoldable pub given_by : {T : Type 0} → (T → List ℕ) → Result T Refusal → Given
given_by shown (Ok x) = Given.numbers (shown x)
given_by shown (Err r) = Given.refused r

unfoldable pub checked_gives : Result Checked Refusal → Given
unfolding given_by
checked_gives r = given_by (λ c. c.n ∷ c.start ∷ []) r

unfoldable pub written_gives : Result ℕ Refusal → Given
unfolding given_by
written_gives r = given_by (λ n. n ∷ []) r

unfoldable pub unsealed_gives : Result Unsealed Refusal → Given
unfolding given_by
unsealed_gives r = given_by (λ u. u.length ∷ u.n ∷ u.start ∷ []) r

unfoldable pub measured_gives : Result Measured Refusal → Given
unfolding given_by
measured_gives r = given_by (λ m. m.trees ∷ m.entries ∷ m.levels ∷ []) r

unfoldable pub walked_gives : Result Unit Refusal → Given
unfolding given_by
walked_gives r = given_by (λ u. []) r

-- document 02, Note 4: "same, differ or spent, and a count"
unfoldable pub verdict_numbers : Compared → List ℕ
verdict_numbers (Compared.Same k) = 0 ∷ k ∷ []
verdict_numbers (Compared.Differ k) = 1 ∷ k ∷ []
verdict_numbers (Compared.Spent k) = 2 ∷ k ∷ []

unfoldable pub compared_gives : Result Compared Refusal → Given
unfolding given_by verdict_numbers
compared_gives r = given_by verdict_numbers r

unfoldable pub classed_gives : Result ℕ Refusal → Given
unfolding given_by
classed_gives r = given_by (λ c. c ∷ []) r

-- Note 8: "the grams of a whole plan"
unfoldable pub weighed_gives : Result ℕ Refusal → Given
unfolding given_by
weighed_gives r = given_by (λ g. g ∷ []) r

-- Note 11: "say which holds", by its number
unfoldable pub reasoned_gives : Result Reason Refusal → Given
unfolding given_by
reasoned_gives r = given_by (λ w. reason.number_of w ∷ []) r
