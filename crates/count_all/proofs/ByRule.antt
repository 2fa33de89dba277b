-- The counts of a rule, kind by kind, from what is kept of the rules that it names. Assumes nothing.
use Rattle.std.proofs.Common.{◌≡◌, ℕ, ◌<◌, ◌≤◌, List, length}
use Rattle.rule.specs.declared.Rule.{Rule}
use Rattle.rule.specs.Names.{Names, pair_one, pair_two, node_one, fill_one, fill_two, part_one, part_two, join_one, join_two}
use Rattle.count_all.specs.declared.Counts.{Counts}
use Rattle.count_all.specs.Counts.{beside, filling, over, one_tree, counts_of}
use Rattle.count_all.specs.Kept.{Makes, Turns, IsNone}
use Rattle.count_all.specs.Rows.{counts_end, counts_at, Readable, OfRule}
use Rattle.count_all.proofs.Keeping.{keeps-none}

-- what may be read of a rule may be read of the rule that a match found
pub named-at : {t : List ℕ} {n : ℕ} {x y : Rule} → x ≡ y → Readable t n x → (k : ℕ) → Names y k → (counts_end n ≤ length t) × (k < n)
named-at q h k m = (h.room, (rw q at h).named k m)

module _ {t : List ℕ} {n : ℕ} {x : Rule} where
  pub of-empty : {c : Counts} → x ≡ Rule.Empty → IsNone c → OfRule t n x c
  unfolding counts_of
  of-empty e p = rw e (record { keeps = λ f h. keeps-none p })

  pub of_node : {a k : ℕ} {p c : Counts} → x ≡ Rule.Node a k → p ≡ counts_at t n k → Turns (over a) p c → OfRule t n x c
  unfolding counts_of
  of_node {a} {k} e p makes = rw e (record { keeps = λ f h. makes (f k) (rw p (h k node_one)) })

  -- the rules with two names
  module _ {b k : ℕ} {p q : Counts} (b-is : p ≡ counts_at t n b) (k-is : q ≡ counts_at t n k) where
    pub of_pair : {c : Counts} → x ≡ Rule.Pair b k → Makes beside p q c → OfRule t n x c
    unfolding counts_of
    of_pair e makes = rw e (record { keeps = λ f h. makes (f b) (f k) (rw b-is (h b pair_one)) (rw k-is (h k pair_two)) })

    pub of-fill : {d c : Counts} → x ≡ Rule.Fill b k → Makes filling p q d → Turns one_tree d c → OfRule t n x c
    unfolding counts_of
    of-fill e makes turns =
        rw e (record { keeps = λ f h. turns (filling (f b) (f k)) (makes (f b) (f k) (rw b-is (h b fill_one)) (rw k-is (h k fill_two))) })

    pub of_part : {a : ℕ} {d c : Counts} → x ≡ Rule.Part a b k → Makes beside p q d → Turns (over a) d c → OfRule t n x c
    unfolding counts_of
    of_part e makes turns =
        rw e (record { keeps = λ f h. turns (beside (f b) (f k)) (makes (f b) (f k) (rw b-is (h b part_one)) (rw k-is (h k part_two))) })

    pub of-join : {c : Counts} → x ≡ Rule.Join b k → Makes filling p q c → OfRule t n x c
    unfolding counts_of
    of-join e makes = rw e (record { keeps = λ f h. makes (f b) (f k) (rw b-is (h b join_one)) (rw k-is (h k join_two)) })
