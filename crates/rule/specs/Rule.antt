-- The rule that a record means (document 01, "A plan's bytes"; document 02, Note 2).
use Rattle.std.specs.Prelude.{ℕ, ◌+◌, ◌*◌, ◌/◌, ◌%◌, Bool, true, false, cond, ◌&&◌, ◌||◌, List, map, get_or, leb, eqb, Option, Some, None}
use Rattle.record.specs.declared.Format.{Format}
use Rattle.record.specs.declared.Record.{Record}
use Rattle.record.specs.Format.{most_label}
pub use Rattle.record.specs.Format.{largest_label}
use Rattle.rule.specs.declared.Rule.{Rule}

-- the kinds, by name
abbrev pub kind_empty : ℕ
kind_empty = 0

abbrev pub kind_pair : ℕ
kind_pair = 1

abbrev pub kind_node : ℕ
kind_node = 2

abbrev pub kind_fill : ℕ
kind_fill = 3

abbrev pub kind_part : ℕ
kind_part = 4

abbrev pub kind_join : ℕ
kind_join = 5

-- Note 2: "the fifth word is the label's high part"
abbrev pub high_part : ℕ
high_part = 65536

unfoldable pub label_in : Record → ℕ
label_in w = w.one + high_part * w.high

-- a rule if its record is well formed
unfoldable pub whole : Bool → Rule → Option Rule
whole true r = Some r
whole false r = None

unused : ℕ → Bool
unused w = eqb w 0

-- The table of kinds: words 1, 2, 3 of each, "unused words are 0"; Note 2: the fifth word is "zero in kinds without a label".
unfoldable pub decode : Format → Record → Option Rule
unfolding whole unused label_in
decode f w =
    cond (eqb w.kind kind_empty) (whole (unused w.one && unused w.two && unused w.three && unused w.high) Rule.Empty)
    (cond (eqb w.kind kind_pair) (whole (unused w.three && unused w.high) (Rule.Pair w.one w.two))
    (cond (eqb w.kind kind_node) (whole (leb (label_in w) (most_label f) && unused w.three) (Rule.Node (label_in w) w.two))
    (cond (eqb w.kind kind_fill) (whole (unused w.three && unused w.high) (Rule.Fill w.one w.two))
    (cond (eqb w.kind kind_part) (whole (leb (label_in w) (most_label f)) (Rule.Part (label_in w) w.two w.three))
    (cond (eqb w.kind kind_join) (whole (unused w.three && unused w.high) (Rule.Join w.one w.two))
    None)))))

-- a rule's record, the same table read the other way
unfoldable pub encode : Rule → Record
encode Rule.Empty = record { kind = kind_empty; one = 0; two = 0; three = 0; high = 0 }
encode (Rule.Pair b c) = record { kind = kind_pair; one = b; two = c; three = 0; high = 0 }
encode (Rule.Node a c) = record { kind = kind_node; one = a % high_part; two = c; three = 0; high = a / high_part }
encode (Rule.Fill b c) = record { kind = kind_fill; one = b; two = c; three = 0; high = 0 }
encode (Rule.Part a l r) = record { kind = kind_part; one = a % high_part; two = l; three = r; high = a / high_part }
encode (Rule.Join b c) = record { kind = kind_join; one = b; two = c; three = 0; high = 0 }

-- "Kinds 0 to 3 are closed, 4 and 5 holed."
unfoldable pub closed : ℕ → Bool
closed k = eqb k kind_empty || eqb k kind_pair || eqb k kind_node || eqb k kind_fill

unfoldable pub holed : ℕ → Bool
holed k = eqb k kind_part || eqb k kind_join

-- "kind 2 or 3": a tree
unfoldable pub tree : ℕ → Bool
tree k = eqb k kind_node || eqb k kind_fill

-- p holds of every rule that this one names
unfoldable pub every : (ℕ → Bool) → Rule → Bool
every p Rule.Empty = true
every p (Rule.Pair b c) = p b && p c
every p (Rule.Node a c) = p c
every p (Rule.Fill b c) = p b && p c
every p (Rule.Part a l r) = p l && p r
every p (Rule.Join b c) = p b && p c

-- "B in kinds 3 and 5 and C in kind 5 are holed; every other rule named is closed, and C in kind 3 has kind 2 or 3."
-- kind gives the kind of each rule by its number
unfoldable pub sorts : (ℕ → ℕ) → Rule → Bool
unfolding closed holed tree
sorts kind Rule.Empty = true
sorts kind (Rule.Pair b c) = closed (kind b) && closed (kind c)
sorts kind (Rule.Node a c) = closed (kind c)
sorts kind (Rule.Fill b c) = holed (kind b) && tree (kind c)
sorts kind (Rule.Part a l r) = closed (kind l) && closed (kind r)
sorts kind (Rule.Join b c) = holed (kind b) && holed (kind c)

-- the label of a rule that has one is at most m, and at most the largest
unfoldable pub labelled_to : ℕ → Rule → Bool
labelled_to m Rule.Empty = true
labelled_to m (Rule.Pair b c) = true
labelled_to m (Rule.Node a c) = leb a m
labelled_to m (Rule.Fill b c) = true
labelled_to m (Rule.Part a l r) = leb a m
labelled_to m (Rule.Join b c) = true

unfoldable pub labelled : Rule → Bool
unfolding labelled_to
labelled x = labelled_to largest_label x

-- the rule of a record, and the empty rule where there is none (no accepted plan has such a record)
unfoldable pub rule_of : Option Rule → Rule
rule_of (Some r) = r
rule_of None = Rule.Empty

-- the rules of records
unfoldable pub rules_in : Format → List Record → List Rule
unfolding decode rule_of
rules_in f ws = map (λ (w : Record). rule_of (decode f w)) ws

-- the rule with a number, empty past the end
unfoldable pub rule : List Rule → ℕ → Rule
rule R r = get_or R r Rule.Empty
