-- Document 02, Note 6: "Two plans whose visible forests agree must give the client equal answers to every string of letters from above the
-- forest, although their bytes and refusals for size may differ."
use Rattle.std.specs.Prelude.{ℕ, true, List, [], ◌∷◌, map, ◌≡◌, Result}
use Rattle.refusal.specs.declared.Refusal.{Refusal}
use Rattle.forest.specs.Walk.{enough_lent}
use Rattle.demand.specs.Calls.{Walk, Call, Left, lefts}
use Rattle.demand.specs.Demand.{AboveStart, walk_answers}

-- 8 doesn't turn the call down: enough is lent for n rules
unfoldable pub Enough : ℕ → List ℕ → Call → Type 0
unfolding enough_lent
Enough n cursor c = enough_lent c.work cursor c.letters c.answers n ≡ true

-- calls with the same letters, one after the other, on two plans, none of them refused for size; work and answers may differ
pub data Asked (n m : ℕ) (cursor other : List ℕ) : List Call → List Call → Type 0 where
  none : Asked n m cursor other [] []
  more : {c d : Call} {cs ds : List Call} → c.letters ≡ d.letters → Enough n cursor c → Enough m other d → Asked n m cursor other cs ds
      → Asked n m cursor other (c ∷ cs) (d ∷ ds)

-- what the client gets from a list of calls: what each answers, refused or not, and the words to the letters of those accepted
pub record Told : Type 0 where
  pub replies : List (Result Unit Refusal)
  pub answers : List ℕ

unfoldable pub told : Walk → List ℕ → List ℕ → List Call → Told
unfolding lefts walk_answers
told w plan cursor calls =
    record {
      replies = map (λ (l : Left). l.answer) (lefts w plan cursor calls);
      answers = walk_answers calls (lefts w plan cursor calls);
    }

-- plans s of n and t of m rules tell a client the same, from above the forest, whatever else is lent. "Note 6's equal answers are for word 1
-- zero" (document 02, Note 10)
abbrev pub TellAlike : Walk → List ℕ → ℕ → List ℕ → ℕ → Type 0
TellAlike w s n t m =
    (cursor other : List ℕ) (cs ds : List Call) → AboveStart cursor → AboveStart other → Asked n m cursor other cs ds → told w s cursor cs ≡ told w t other ds
