-- The list of document 02's Note 14: candidates by number, and those of them that are kept. That these are the plans of Small, each once and
-- in order, is proved (members, listed-once, in-order).
use Rattle.std.specs.Prelude.{ℕ, zero, suc, ◌-◌, ◌*◌, ◌/◌, ◌%◌, Bool, true, false, cond, not, ◌&&◌, ◌||◌, List, [], ◌∷◌, ◌++◌, drop, ltb, eqb, Result, Ok, Err}
use Rattle.refusal.specs.declared.Refusal.{Refusal}
use Rattle.plan.specs.declared.Checked.{Checked}
use Rattle.plan.specs.Check.{checked}

-- a rule by its number below 48: its kind, and three words below 2, each a byte and a 0
unfoldable pub rule_bytes : ℕ → List ℕ
rule_bytes x = x / 8 ∷ 0 ∷ x / 4 % 2 ∷ 0 ∷ x / 2 % 2 ∷ 0 ∷ x % 2 ∷ 0 ∷ []

-- the empty rule, two rules by number, and the trailer of n rules
unfoldable pub three_rules : ℕ → ℕ → ℕ → ℕ → List ℕ
three_rules n start a b =
    0 ∷ 0 ∷ 0 ∷ 0 ∷ 0 ∷ 0 ∷ 0 ∷ 0
    ∷ (rule_bytes a ++ (rule_bytes b ++ (n ∷ 0 ∷ start ∷ 0 ∷ 8 * n ∷ 0 ∷ 0 ∷ 0 ∷ 109 ∷ 112 ∷ [])))

-- the candidates with n rules: the last n of these rules. The start is the lowest digit, so that it is the last in the order; before it
-- come the digits of the last rule and of the one before. The numbers of rules that are not among the last n are 0, and then rule 0 is empty.
unfoldable pub plan_of : ℕ → ℕ → List ℕ
plan_of n j = drop (24 - 8 * n) (three_rules n (j % 3) (j / 3 / 48) (j / 3 % 48))

-- "in the order of n": 3 candidates with one rule, 3 × 48 with two, and 3 × 48 × 48 with three
abbrev pub candidates : ℕ
candidates = 7059

unfoldable pub rules_at : ℕ → ℕ
rules_at i = cond (ltb i 3) 1 (cond (ltb i 147) 2 3)

unfoldable pub place_of : ℕ → ℕ
place_of i = cond (ltb i 3) i (cond (ltb i 147) (i - 3) (i - 147))

unfoldable pub candidate : ℕ → List ℕ
candidate i = plan_of (rules_at i) (place_of i)

-- "labels only 0": kinds 2 and 4 have their label in word 1
unfoldable pub plain : ℕ → Bool
plain x = not ((eqb (x / 8) 2 || eqb (x / 8) 4) && eqb (x / 4 % 2) 1)

-- "whose rules name lower rules only": the first rule after rule 0 can name rule 0 alone
unfoldable pub wordless : ℕ → Bool
wordless x = eqb (x % 8) 0

unfoldable pub is_accepted : Result Checked Refusal → Bool
is_accepted (Ok x) = true
is_accepted (Err r) = false

-- the rest is check's: it refuses a rule that names itself, and a start that is not below n
unfoldable pub is_listed : ℕ → Bool
is_listed i = (wordless (place_of i / 3 / 48) && plain (place_of i / 3 % 48)) && is_accepted (checked (candidate i))

-- those kept of m candidates from number i on
unfoldable pub kept : ℕ → ℕ → List (List ℕ)
kept zero i = []
kept (suc m) i = cond (is_listed i) (candidate i ∷ kept m (suc i)) (kept m (suc i))

unfoldable pub listed : List (List ℕ)
listed = kept candidates 0
