-- The rows of work: a row for each rule, which begins with the rule itself. Above this crate nobody reads a plan's bytes.
use Rattle.std.specs.Prelude.{ℕ, zero, suc, ◌+◌, ◌*◌, ◌<◌, ◌≡◌, Bool, cond, List, [], ◌∷◌, eqb, ltb, Some}
use Rattle.words.specs.Number.{number}
use Rattle.words.specs.Put.{put}
pub use Rattle.words.specs.Within.{Within}
use Rattle.record.specs.declared.Format.{Format}
use Rattle.record.specs.declared.Record.{Record}
use Rattle.rule.specs.declared.Rule.{Rule}
use Rattle.record.specs.Record.{word_length, length_of_record, record_at}
use Rattle.record.specs.Records.{records_from}
use Rattle.rule.specs.Rule.{kind_empty, kind_pair, kind_node, kind_fill, kind_part, kind_join, decode, every, rules_in}
use Rattle.rule.specs.Sound.{rule}
use Rattle.forest.specs.Outcome.{rule_work}
use Rattle.work_rows.specs.declared.Row.{Row}

-- the bytes of work a rule, and those of a row; what is left behind the rows holds stacks
abbrev pub work_length : ℕ
work_length = word_length * rule_work

abbrev pub row_length : ℕ
row_length = 32

-- the field of w bytes at offset o of row r, and a list with another number there
unfoldable pub field : ℕ → List ℕ → ℕ → ℕ → ℕ
unfolding number
field w t r o = number w t (row_length * r + o)

unfoldable pub put_field : ℕ → List ℕ → ℕ → ℕ → ℕ → List ℕ
unfolding put
put_field w t r o v = put w t (row_length * r + o) v

-- where a row keeps its rule: kind (2 bytes), label (4), the two rules named (2 each); the fields from own_end on are free
abbrev pub at_kind : ℕ
at_kind = 0

abbrev pub at_label : ℕ
at_label = 2

abbrev pub at_one : ℕ
at_one = 6

abbrev pub at_two : ℕ
at_two = 8

abbrev pub own_end : ℕ
own_end = 10

-- a rule's kind, its label and the rules that it names; what it lacks is 0
unfoldable pub row_of : Rule → Row
row_of Rule.Empty = record { kind = kind_empty; label = 0; one = 0; two = 0 }
row_of (Rule.Pair b c) = record { kind = kind_pair; label = 0; one = b; two = c }
row_of (Rule.Node a c) = record { kind = kind_node; label = a; one = c; two = 0 }
row_of (Rule.Fill b c) = record { kind = kind_fill; label = 0; one = b; two = c }
row_of (Rule.Part a b c) = record { kind = kind_part; label = a; one = b; two = c }
row_of (Rule.Join b c) = record { kind = kind_join; label = 0; one = b; two = c }

-- the rule with a kind, a label and the rules that it names
unfoldable pub rule_from : Row → Rule
rule_from w =
    cond (eqb w.kind kind_pair) (Rule.Pair w.one w.two)
    (cond (eqb w.kind kind_node) (Rule.Node w.label w.one)
    (cond (eqb w.kind kind_fill) (Rule.Fill w.one w.two)
    (cond (eqb w.kind kind_part) (Rule.Part w.label w.one w.two)
    (cond (eqb w.kind kind_join) (Rule.Join w.one w.two)
    Rule.Empty))))

-- what row r keeps of a rule at offset o, and a list in which it keeps w there
unfoldable pub row_at : List ℕ → ℕ → ℕ → Row
unfolding field
row_at t r o =
    record {
      kind = field 2 t r (o + at_kind);
      label = field 4 t r (o + at_label);
      one = field 2 t r (o + at_one);
      two = field 2 t r (o + at_two);
    }

unfoldable pub put_row : List ℕ → ℕ → ℕ → Row → List ℕ
unfolding put_field
put_row t r o w =
    put_field 2 (put_field 2 (put_field 4 (put_field 2 t r (o + at_kind) w.kind) r (o + at_label) w.label) r (o + at_one) w.one) r (o + at_two) w.two

-- the rule kept at offset o of row r; the row's own rule is kept at its beginning
unfoldable pub rule_at : List ℕ → ℕ → ℕ → Rule
unfolding rule_from row_at
rule_at t r o = rule_from (row_at t r o)

unfoldable pub rule_in : List ℕ → ℕ → Rule
unfolding rule_at
rule_in t r = rule_at t r 0

-- the rules in n rows from row i on, and those in the first n rows
unfoldable pub rules_from : List ℕ → ℕ → ℕ → List Rule
rules_from t i zero = []
rules_from t i (suc n) = rule_in t i ∷ rules_from t (suc i) n

unfoldable pub first_rules : List ℕ → ℕ → List Rule
first_rules t n = rules_from t 0 n

-- every row below i holds its rule
unfoldable pub Holds : List Rule → List ℕ → ℕ → Type 0
unfolding rule_in rule
Holds R t i = (k : ℕ) → k < i → rule_in t k ≡ rule R k

-- nothing but rows below i has changed
abbrev pub Beyond : ℕ → List ℕ → List ℕ → Type 0
Beyond i s t = Within 0 (row_length * i) s t

-- row r keeps the rule x at offset o, and nothing else has changed
pub record Stored (r o : ℕ) (x : Rule) (s t : List ℕ) : Type 0 where
  pub keeps : rule_at t r o ≡ x
  pub within : Within (row_length * r + o) (row_length * r + o + own_end) s t

-- of a record v that means a rule, in either format: w is the row of that rule
abbrev pub RowMeant : Record → Row → Type 0
RowMeant v w = (f : Format) (x : Rule) → decode f v ≡ Some x → w ≡ row_of x

-- row r begins with that rule, and lower tells whether it names only rules below r
abbrev pub RecordPut : ℕ → Record → Bool → List ℕ → List ℕ → Type 0
RecordPut r v lower s t = (f : Format) (x : Rule) → decode f v ≡ Some x → Stored r 0 x s t × (lower ≡ every (λ k. ltb k r) x)

-- each of the n records from an offset on is well formed: it means its rule
abbrev pub Formed : Format → List ℕ → ℕ → ℕ → Type 0
Formed f s first n =
    (i : ℕ) → i < n → decode f (record_at f s (first + length_of_record f * i)) ≡ Some (rule (rules_in f (records_from f s first n)) i)

-- the rows of n rules hold the rules R, and nothing beyond them has changed
pub record Loaded (R : List Rule) (n : ℕ) (s t : List ℕ) : Type 0 where
  pub holds : Holds R t n
  pub beyond : Beyond n s t
