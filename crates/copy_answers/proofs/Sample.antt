-- The theorem of equal answers is not vacuous: two plans with different forests, of which a client, who sees the labels below 200, sees the
-- same, and their copies, which are different plans too. Each is computed from the plan's bytes on. Assumes nothing.
use Rattle.std.specs.Prelude.{Ok, Err}
use Prim.Native.Nat.{ℕ}
use mathlib.Core.Bool.{Bool}
use mathlib.Core.List.{List, [], ◌∷◌}
use mathlib.Core.Logic.{◌≢◌}
use mathlib.Core.Path.{◌≡◌, refl, sym, ap, ◌∙◌}
use native.Mathlib.Omega.{arith}
use lib.ListN.{length, replicate}
use Rattle.words.specs.Number.{number, bytes}
use Rattle.words.specs.Front.{in_front}
use Rattle.refusal.specs.declared.Refusal.{Refusal}
use Rattle.record.specs.Format.{high_length, most_label}
use Rattle.rule.specs.declared.Rule.{Rule}
use Rattle.rule.specs.Rule.{encode, rule, closed}
use Rattle.rule.specs.Sound.{kind_in}
use Rattle.reach.specs.Reaches.{lowest_cycle, cycle_from, reaches, within, any_named}
use Rattle.reach.specs.Order.{count}
use Rattle.judge.specs.Judge.{cycle_judged}
use Rattle.plan.specs.Check.{checked, rules_of}
use Rattle.forest.specs.Forest.{forest, weigh, one}
use Rattle.forest.specs.Place.{placed_forest}
use Rattle.forest.specs.Letter.{letter_of}
use Rattle.forest.specs.Reference.{answers, path_after}
use Rattle.forest.specs.Outcome.{work_words, enough_work}
use Rattle.forest.specs.Walk.{nowhere, cursor_words, enough_lent, and_letters, letters_of, other_at, first_other, cell_at, cells_in, used_cells, rule_word, rule_named, walked_rule, is_closed, headed, path_of, stored, place_in, place_judged, letters_judged, begun_from, cells_of, place_at, cell_bytes, cells_bytes, padded, stored_cursor, answer_word, answers_bytes}
use Rattle.demand.specs.Calls.{Call, walk_of}
use Rattle.demand.specs.Demand.{AboveStart}
use Rattle.copy_answers.specs.Asked.{Enough, Asked, Told, told, TellAlike}
use Rattle.copy_answers.proofs.Alike.{tell-alike}
use Rattle.label_rows.specs.declared.LabelRow.{LabelRow}
use Rattle.label_rows.specs.Coverage.{coverage, coverage_from, extended, ended, invalid}
use Rattle.label_rows.specs.Class.{row_of, covers}
use Rattle.copy_variants.specs.Visible.{visible, seen_by}
use Rattle.copy_variants.specs.Variants.{variants, variants_to, variants_from, seen_in, filling, variant, rules_from, variant_rules, threefold}
use Rattle.copy_plan.specs.Bytes.{copy_bytes}
use Rattle.copy_passes.specs.Passes.{mark_named, marks_down, marks, number as rule_number, renamed, written_up, reached_number, reached_rules, copy_rules}

-- a sound list: labels below 200 are of class 0, all others of class 2; and the labels that a client of class 1 sees
unfoldable pub list : List LabelRow
list =
    record { lowest = 0; highest = 199; class = 0; grams = 30 }
    ∷ record { lowest = 200; highest = 16777215; class = 2; grams = 500 }
    ∷ []

list-sound : coverage list ≡ Ok tt
unfolding list coverage coverage_from extended ended invalid
list-sound = refl

abbrev pub seen : ℕ → Bool
seen a = seen_by list 1 a

-- entry 97 twice, the second under a hidden entry; and hidden entries around entry 97
unfoldable pub few : List Rule
few = Rule.Empty ∷ Rule.Node 97 0 ∷ Rule.Node 250 1 ∷ Rule.Pair 1 2 ∷ []

unfoldable pub many : List Rule
many = Rule.Empty ∷ Rule.Node 251 0 ∷ Rule.Pair 1 1 ∷ Rule.Part 97 1 2 ∷ Rule.Fill 3 1 ∷ Rule.Pair 4 2 ∷ []

pub visible-same : visible seen (forest few 3) ≡ visible seen (forest many 5)
unfolding few many list visible forest seen_by row_of covers
visible-same = refl

pub forests-differ : forest few 3 ≢ forest many 5
unfolding few many forest weigh
forests-differ e = let z : weigh one (forest few 3) ≡ weigh one (forest many 5) = ap (weigh one) e in absurd (omega (arith, z))

-- the rules of a copy, rules that name only lower ones being in the order of their numbers
abbrev pub copied : List Rule → ℕ → List Rule
copied R start = copy_rules (variants seen R) (length R) (λ i. i) (λ r. r) start

-- a hidden node is an empty rule; a part whose filler is gone is a node over the children around its hole
pub few-copied : copied few 3 ≡ Rule.Empty ∷ Rule.Node 97 0 ∷ Rule.Empty ∷ Rule.Pair 1 2 ∷ []
unfolding few list seen_by row_of covers rule rule_number variants variants_to variants_from seen_in filling variant rules_from variant_rules threefold mark_named marks_down marks renamed written_up reached_number reached_rules copy_rules any_named count encode
few-copied = refl

pub many-copied : copied many 5 ≡ Rule.Empty ∷ Rule.Pair 0 0 ∷ Rule.Pair 0 1 ∷ Rule.Node 97 2 ∷ Rule.Pair 3 1 ∷ []
unfolding many list seen_by row_of covers rule rule_number variants variants_to variants_from seen_in filling variant rules_from variant_rules threefold mark_named marks_down marks renamed written_up reached_number reached_rules copy_rules any_named count encode
many-copied = refl

-- both copies as bytes are accepted plans, and tell the client the same
abbrev pub few_bytes : List ℕ
few_bytes = copy_bytes (Rule.Empty ∷ Rule.Node 97 0 ∷ Rule.Empty ∷ Rule.Pair 1 2 ∷ []) 3

abbrev pub many_bytes : List ℕ
many_bytes = copy_bytes (Rule.Empty ∷ Rule.Pair 0 0 ∷ Rule.Pair 0 1 ∷ Rule.Node 97 2 ∷ Rule.Pair 3 1 ∷ []) 4

few-accepted : checked few_bytes ≡ Ok (record { n = 4; start = 3 })
unfolding copy_bytes checked bytes number high_length most_label lowest_cycle cycle_from reaches within any_named cycle_judged rule
few-accepted = refl

many-accepted : checked many_bytes ≡ Ok (record { n = 5; start = 4 })
unfolding copy_bytes checked bytes number high_length most_label lowest_cycle cycle_from reaches within any_named cycle_judged rule
many-accepted = refl

same-forest : forest (rules_of few_bytes) 3 ≡ forest (rules_of many_bytes) 4
unfolding copy_bytes rules_of forest bytes number high_length most_label
same-forest = refl

pub sample-alike : TellAlike walk_of few_bytes 4 many_bytes 5
sample-alike = tell-alike few_bytes many_bytes 4 5 3 4 few-accepted many-accepted same-forest

-- lent enough, the letters a and n, then a and a byte that is no letter, the first cursor above the forest: such calls can be asked
abbrev asks : List ℕ → Call
asks letters = record { work = replicate 400 0; letters = letters; answers = replicate 8 0 }

abbrev calls : List Call
calls = asks (97 ∷ 110 ∷ []) ∷ asks (97 ∷ 98 ∷ []) ∷ []

abbrev above : List ℕ
above = replicate 200 0

sample-above : AboveStart above
unfolding AboveStart cell_at number
sample-above = refl

sample-asked : Asked 4 5 above above calls calls
unfolding Enough enough_lent enough_work work_words cursor_words
sample-asked = Asked.more refl refl refl (Asked.more refl refl refl Asked.none)

-- entry 97 is the only root; the second call is refused with 9 at 1, and has no answers
abbrev pub client : Told
client = record { replies = Ok tt ∷ Err (Refusal.Letter 1) ∷ []; answers = 97 ∷ nowhere ∷ [] }

few-told : told walk_of few_bytes above calls ≡ client
unfolding told walk_of copy_bytes checked high_length most_label cycle_from reaches within any_named in_front forest placed_forest letter_of answers path_after enough_work cursor_words enough_lent and_letters letters_of other_at first_other cell_at cells_in used_cells closed kind_in rule_word rule_named walked_rule is_closed headed path_of stored place_in place_judged letters_judged begun_from cells_of place_at cell_bytes cells_bytes padded stored_cursor answer_word answers_bytes
few-told = refl

pub sample-told : (told walk_of few_bytes above calls ≡ client) × (told walk_of many_bytes above calls ≡ client)
sample-told = (few-told, sym (sample-alike above above calls calls sample-above sample-above sample-asked) ∙ few-told)
