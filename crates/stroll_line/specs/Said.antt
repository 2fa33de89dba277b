-- The answers that the words of answers say.
use Rattle.std.specs.Prelude.{ℕ, cond, List, map, eqb}
use Rattle.std.specs.Prelude.{Option, None, Some}
use Rattle.forest.specs.Walk.{nowhere}
use Rattle.demand.specs.Demand.{answer_words}

-- the answer that a word of answers says
unfoldable pub answer_of : ℕ → Option ℕ
answer_of w = cond (eqb w nowhere) None (Some w)

-- the answers in m words from an offset on
unfoldable pub answers_from : ℕ → List ℕ → ℕ → List (Option ℕ)
answers_from m s at = map answer_of (answer_words m s at)
