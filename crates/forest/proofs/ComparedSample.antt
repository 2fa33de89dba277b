-- Document 02, Note 4, on document 01's sample plan, whose text is (c(a)(b)(c(a)(b)(a)(b))(b))(a)(b), and on two small ones: rows of one
-- theorem on the definition of compare, from the plan's bytes on. All hold by computation. So what the theorems on compare ask is met.
-- Assumes nothing.
use Rattle.std.specs.Prelude.{Ok, Err}
use Prim.Native.Nat.{ℕ}
use mathlib.Core.Path.{◌≡◌, refl}
use mathlib.Core.List.{List, [], ◌∷◌, map}
use lib.ListN.{replicate, take}
use Rattle.words.specs.Number.{number, bytes}
use Rattle.words.specs.Front.{in_front}
use Rattle.record.specs.declared.Format.{Format}
use Rattle.record.specs.Format.{high_length, most_label}
use Rattle.rule.specs.declared.Rule.{Rule}
use Rattle.rule.specs.Rule.{encode, closed}
use Rattle.rule.specs.Sound.{kind_in}
use Rattle.refusal.specs.declared.Refusal.{Refusal}
use Rattle.reach.specs.Reaches.{lowest_cycle, cycle_from, reaches, within as within-steps, any_named}
use Rattle.judge.specs.Judge.{cycle_judged}
use Rattle.plan.specs.Check.{checked, rules_of, plan_bytes}
use Rattle.forest.specs.declared.Compared.{Compared}
use Rattle.forest.specs.Forest.{forest}
use Rattle.forest.specs.Place.{placed_forest}
use Rattle.forest.specs.Reference.{Path, node_at, label_at}
use Rattle.forest.specs.Sample.{sample}
use Rattle.forest.specs.Outcome.{enough_work}
use Rattle.forest.specs.Walk.{cursor_words, cell_at, cells_in, used_cells, rule_word, rule_named, walked_rule, is_closed, headed, same_cell, same_cells, first_of, node_with, path_of, stored, place_in, place_judged, cells_of, place_at, cell_bytes, cells_bytes, padded, stored_cursor}
use Rattle.forest.specs.Compare.{listed, same_node, found, first_tree, subtree_at, pairs_found, within, node_judged, compared_at, enough_compared, compared_from, compare}
use Rattle.forest.proofs.Compare.{Comparable}

-- what is lent: enough for eight rules; a cursor above the forest, and one at the node with a path
abbrev work : List ℕ
work = replicate 512 1

abbrev above : List ℕ
above = replicate 288 0

abbrev cursor : List ℕ → ℕ → Path → List ℕ
cursor s r p = stored_cursor 8 0 (place_at (placed_forest (rules_of s) r) p) above

-- the first c, the c below it, the last of its entries b, and the root b
abbrev root : List ℕ
root = cursor sample 7 (1 ∷ [])

abbrev inner : List ℕ
inner = cursor sample 7 (3 ∷ 1 ∷ [])

abbrev last-below : List ℕ
last-below = cursor sample 7 (4 ∷ 1 ∷ [])

abbrev last-root : List ℕ
last-root = cursor sample 7 (3 ∷ [])

-- the entries a and b of rule 3, walked by its number
abbrev by_number : Path → List ℕ
by_number p = stored_cursor 8 4 (place_at (placed_forest (rules_of sample) 3) p) above

-- a(a): an entry over one like it
abbrev nested : List ℕ
nested = plan_bytes Format.Narrow (map encode (Rule.Empty ∷ Rule.Node 97 0 ∷ Rule.Node 97 1 ∷ [])) 2

abbrev outside : List ℕ
outside = cursor nested 2 (1 ∷ [])

abbrev inside : List ℕ
inside = cursor nested 2 (1 ∷ 1 ∷ [])

-- (d(a(b)))(d(a)(b))
abbrev levelled : List ℕ
levelled =
    plan_bytes Format.Narrow
    (map encode
    (Rule.Empty ∷ Rule.Node 97 0 ∷ Rule.Node 98 0 ∷ Rule.Node 97 2 ∷ Rule.Pair 1 2 ∷ Rule.Node 100 3 ∷ Rule.Node 100 4 ∷ Rule.Pair 5 6 ∷ []))
    7

abbrev deep : List ℕ
deep = cursor levelled 7 (1 ∷ [])

abbrev flat : List ℕ
flat = cursor levelled 7 (2 ∷ [])

pub record ComparedSample : Type 0 where
  -- a place and itself: nine entries, within a budget of nine
  pub same : compare sample work root root 9 ≡ Ok (Compared.Same 9)
  pub same_spent : compare sample work root root 8 ≡ Ok (Compared.Spent 8)
  -- two places that carry the same
  pub same_elsewhere : compare sample work last-below last-root 1 ≡ Ok (Compared.Same 1)
  -- document 02, Note 10: each cursor has its own word 1, here b and a of rule 3 with b of the start rule
  pub same_by_number : compare sample work (by_number (2 ∷ [])) last-root 1 ≡ Ok (Compared.Same 1)
  pub differ_by_number : compare sample work (by_number (1 ∷ [])) last-root 1 ≡ Ok (Compared.Differ 1)
  pub second_by_number : compare sample work last-root (by_number (1 ∷ [])) 1 ≡ Ok (Compared.Differ 1)
  -- c a b c .. against c a b a ..: the fourth pair differs
  pub differ : compare sample work root inner 4 ≡ Ok (Compared.Differ 4)
  pub differ_spent : compare sample work root inner 3 ≡ Ok (Compared.Spent 3)
  -- equal labels, and b once a level lower
  pub level_differs : compare levelled work deep flat 3 ≡ Ok (Compared.Differ 3)
  -- "a node against an ended list included"
  pub second_ended : compare nested work outside inside 2 ≡ Ok (Compared.Differ 2)
  pub first_ended : compare nested work inside outside 2 ≡ Ok (Compared.Differ 2)
  -- "A place above the forest is refused with 10"
  pub above_first : compare sample work above root 9 ≡ Err Refusal.Place
  pub above_second : compare sample work root above 9 ≡ Err Refusal.Place
  -- 8, before 10
  pub short_second : compare sample work root (take 287 root) 9 ≡ Err Refusal.Lent
  pub short_before_above : compare sample work above (take 287 root) 9 ≡ Err Refusal.Lent
  -- what the theorems on compare ask
  pub comparable : Comparable sample work root inner 8 7 7 7 (1 ∷ []) (3 ∷ 1 ∷ [])
  pub comparable_rules : Comparable sample work (by_number (2 ∷ [])) last-root 8 7 3 7 (2 ∷ []) (3 ∷ [])
  pub comparable_same : Comparable sample work root root 8 7 7 7 (1 ∷ []) (1 ∷ [])

pub compared-sample : ComparedSample
unfolding plan_bytes encode high_length most_label rules_of checked lowest_cycle cycle_from reaches within-steps any_named cycle_judged bytes number enough_work in_front label_at node_at placed_forest forest cursor_words cell_at cells_in used_cells closed kind_in rule_word rule_named walked_rule is_closed headed same_cell same_cells first_of node_with path_of stored place_in place_judged cells_of place_at cell_bytes cells_bytes padded stored_cursor listed same_node found first_tree subtree_at pairs_found within node_judged compared_at enough_compared compared_from compare
compared-sample =
    record {
      same = refl;
      same_spent = refl;
      same_elsewhere = refl;
      same_by_number = refl;
      differ_by_number = refl;
      second_by_number = refl;
      differ = refl;
      differ_spent = refl;
      level_differs = refl;
      second_ended = refl;
      first_ended = refl;
      above_first = refl;
      above_second = refl;
      short_second = refl;
      short_before_above = refl;
      comparable = record { accepted = refl; lent = refl; one = refl; two = refl };
      comparable_rules = record { accepted = refl; lent = refl; one = refl; two = refl };
      comparable_same = record { accepted = refl; lent = refl; one = refl; two = refl };
    }
