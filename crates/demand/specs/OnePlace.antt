-- Document 02, Note 14: "We compare stored places byte by byte to see who stands where." As a predicate on a walk, over lists of calls.
use Rattle.std.specs.Prelude.{ℕ, ◌*◌, ◌≡◌, ◌↔◌, true, List, [], take, Ok}
use Rattle.record.specs.Record.{word_length}
use Rattle.plan.specs.Check.{checked, rules_of}
use Rattle.forest.specs.Forest.{Forest, forest}
use Rattle.forest.specs.Walk.{cursor_words, rule_word, walked_rule}
use Rattle.demand.specs.Calls.{Walk, Call, lefts, cursor_after_calls}
use Rattle.demand.specs.Demand.{turned_down, finger_path, Above, some_accepted}

-- a "cursor slice of required length"
abbrev pub required : ℕ → List ℕ → List ℕ
required n cursor = take (word_length * cursor_words n) cursor

-- "two strings of letters on one plan, in walks that aren't refused, from above the forest and with the same word 1 in cell 0, leave equal
-- cursor slices of required length exactly when they arrive at the same node or both stay above the forest": the strings in any number of
-- calls, of which one at least is accepted; a node is its path, which is empty above the forest
unfoldable pub OnePlace : Walk → Type 0
unfolding walked_rule turned_down finger_path lefts cursor_after_calls forest some_accepted
OnePlace w =
    (plan : List ℕ) (n start : ℕ) (first second : List ℕ) (cs ds : List Call)
    → checked plan ≡ Ok (record { n = n; start = start })
    → Above (rules_of plan) start first
    → Above (rules_of plan) start second
    → rule_word first ≡ rule_word second
    → some_accepted (lefts w plan first cs) ≡ true
    → some_accepted (lefts w plan second ds) ≡ true
    → (required n (cursor_after_calls w plan first cs) ≡ required n (cursor_after_calls w plan second ds))
    ↔ (finger_path (forest (rules_of plan) (walked_rule start first)) (turned_down n first) cs []
    ≡ finger_path (forest (rules_of plan) (walked_rule start first)) (turned_down n second) ds [])
