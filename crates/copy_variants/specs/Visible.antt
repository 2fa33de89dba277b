-- Document 02, Note 6: what of a forest a client sees; Note 8: what is taken out of it.
use Rattle.std.specs.Prelude.{ℕ, Bool, true, cond, List, leb}
use Rattle.rule.specs.declared.Rule.{Rule}
use Rattle.label_rows.specs.declared.LabelRow.{LabelRow}
use Rattle.label_rows.specs.Class.{row_of}
use Rattle.forest.specs.Forest.{Forest, append}

-- "A client of class c must not see entries of a higher class": whether a label may be seen
unfoldable pub seen_by : List LabelRow → ℕ → ℕ → Bool
unfolding row_of
seen_by rows c a = leb (row_of rows a).class c

-- "Refused: 16, the plan has over 4,096 rules"
abbrev pub most_copied : ℕ
most_copied = 4096

-- whether a rule's own label, if it has one, may be seen
unfoldable pub seen_in : (ℕ → Bool) → Rule → Bool
seen_in v Rule.Empty = true
seen_in v (Rule.Pair b c) = true
seen_in v (Rule.Node a c) = v a
seen_in v (Rule.Fill b c) = true
seen_in v (Rule.Part a b c) = v a
seen_in v (Rule.Join b c) = true

-- ".. nor anything under them": "the old one with those subtrees gone, order kept"
unfoldable pub visible : (ℕ → Bool) → Forest ℕ → Forest ℕ
visible v Forest.none = Forest.none
visible v (Forest.tree a c f) = cond (v a) (Forest.tree a (visible v c) (visible v f)) (visible v f)

-- Note 8: "the nodes taken out": the subtrees that are gone
unfoldable pub taken_out : (ℕ → Bool) → Forest ℕ → Forest ℕ
unfolding append
taken_out v Forest.none = Forest.none
taken_out v (Forest.tree a c f) = cond (v a) (append (taken_out v c) (taken_out v f)) (Forest.tree a c (taken_out v f))
