-- The variants of each rule in its row (document 02, Note 6: "Which rules stand for the forest is left free"): the whole one and the shut one
-- behind the rule, written like it. The inner one is made of the rule itself and not kept.
use Rattle.std.specs.Prelude.{ℕ, ◌+◌, ◌*◌, ◌≤◌, ◌<◌, Bool, ◌≡◌, List, length, eqb}
use Rattle.rule.specs.declared.Rule.{Rule}
use Rattle.rule.specs.Names.{Names}
use Rattle.work_rows.specs.Rows.{row_length, own_end, field, rule_at, rule_in, Within}
use Rattle.count_passes.specs.Tally.{Besides}
use Rattle.copy_variants.specs.declared.Variants.{Variants}
use Rattle.copy_variants.specs.Variants.{seen_in, whole_name, variants_from}
pub use Rattle.copy_variants.specs.Variants.{most_copied}

-- where a row keeps the whole variant, the shut one, and a word that is 1 where the rule's own label, if it has one, may be seen
abbrev pub at_whole : ℕ
at_whole = 10

abbrev pub at_shut : ℕ
at_shut = 20

abbrev pub at_seen : ℕ
at_seen = 30

unfoldable pub seen_at : List ℕ → ℕ → Bool
seen_at t r = eqb (field 2 t r at_seen) 1

-- the words of rows below n tell what may be seen of their rules, where the labels that pass v may
abbrev pub SeenColumn : (ℕ → Bool) → List ℕ → ℕ → Type 0
SeenColumn v t n = (r : ℕ) → r < n → seen_at t r ≡ seen_in v (rule_in t r)

-- the inner variant of a rule: of a part its children around the hole
unfoldable pub inner_of : Rule → Rule
inner_of Rule.Empty = Rule.Empty
inner_of (Rule.Pair b c) = Rule.Empty
inner_of (Rule.Node a c) = Rule.Empty
inner_of (Rule.Fill b c) = Rule.Empty
inner_of (Rule.Part a b c) = Rule.Pair (whole_name b) (whole_name c)
inner_of (Rule.Join b c) = Rule.Empty

-- the variants of rule r, as its row has them
unfoldable pub variants_at : List ℕ → ℕ → Variants
variants_at t r = record { inner = inner_of (rule_in t r); whole = rule_at t r at_whole; shut = rule_at t r at_shut }

-- the variants of rule r, which is x, from those that the rows have of the rules that it names
abbrev pub row_variants : List ℕ → ℕ → Rule → Variants
row_variants t r x = variants_from (seen_at t r) r x (variants_at t)

-- row k lies in t, and the names of its variants fit a word
pub record Fits (t : List ℕ) (k : ℕ) : Type 0 where
  pub room : row_length * (k + 1) ≤ length t
  pub few : k < most_copied

-- so do row r and those that the rule x names
pub record Readable (t : List ℕ) (r : ℕ) (x : Rule) : Type 0 where
  pub own : Fits t r
  pub named : (k : ℕ) → Names x k → Fits t k

-- x names rules whose variants have names that fit a word
abbrev pub NamesFew : Rule → Type 0
NamesFew x = (k : ℕ) → Names x k → k < most_copied

-- row r is given its variants, and nothing else has changed
pub record RowVaried (r : ℕ) (s t : List ℕ) : Type 0 where
  pub within : Within (row_length * r + at_whole) (row_length * r + at_seen) s t
  pub varied : variants_at t r ≡ row_variants s r (rule_in s r)

-- W gives every rule in the rows below n its variants
abbrev pub Recurs : List ℕ → ℕ → (ℕ → Variants) → Type 0
Recurs s n W = (r : ℕ) → r < n → W r ≡ variants_from (seen_at s r) r (rule_in s r) W

-- every row is given its variants, and nothing else has changed
pub record VariedRows (n : ℕ) (s t : List ℕ) : Type 0 where
  pub besides : Besides at_whole (own_end + own_end) n s t
  pub table : (W : ℕ → Variants) → Recurs s n W → (r : ℕ) → r < n → variants_at t r ≡ W r
