-- The marks of the variants, a word for each behind the order of the rules (document 02, Note 6: "each is the start or reached from it
-- through the rules named"): 0 where the variant isn't reached, and once it is written its number plus 1.
use Rattle.std.specs.Prelude.{ℕ, ◌+◌, ◌-◌, ◌*◌, ◌/◌, ◌%◌, ◌≤◌, ◌<◌, Bool, false, cond, ◌||◌, ◌≡◌, List, length, get_or, ltb, eqb}
use Rattle.words.specs.Number.{number}
use Rattle.record.specs.Record.{word_length}
use Rattle.rule.specs.declared.Rule.{Rule}
use Rattle.rule.specs.Names.{Names}
use Rattle.reach.specs.Order.{Ranged}
use Rattle.work_rows.specs.Rows.{Within}
use Rattle.work_rows.specs.Order.{order_end, order_in}
use Rattle.count_passes.specs.Tally.{Ready}
use Rattle.copy_variants.specs.Variants.{variant, variant_rules, threefold}
use Rattle.copy_passes.specs.Passes.{Placing, mark_named, marks}
use Rattle.copy_rows.specs.Table.{most_copied, variants_at}

-- where the mark of variant k stands, and where the marks of n rules end
abbrev pub mark_at : ℕ → ℕ → ℕ
mark_at n k = order_end n + word_length * k

abbrev pub marks_end : ℕ → ℕ
marks_end n = mark_at n (3 * n)

unfoldable pub mark_in : List ℕ → ℕ → ℕ → ℕ
mark_in t n k = number 2 t (mark_at n k)

unfoldable pub marked : List ℕ → ℕ → ℕ → Bool
marked t n k = ltb 0 (mark_in t n k)

-- the number of a variant that is written
unfoldable pub number_in : List ℕ → ℕ → ℕ → ℕ
number_in t n k = mark_in t n k - 1

-- the variant named k, the variants of n rules, and their order
unfoldable pub variant_in : List ℕ → ℕ → Rule
variant_in t k = variant (variants_at t (k / 3)) (k % 3)

abbrev pub variants_in : List ℕ → ℕ → List Rule
variants_in t n = variant_rules (variants_at t) n

abbrev pub places_in : List ℕ → ℕ → ℕ → ℕ
places_in t n = threefold (λ i. get_or (order_in t n) i 0)

-- the rows of few rules with their variants, which name each other; an order of the rules, and room for the marks
pub record Markable (t : List ℕ) (n : ℕ) : Type 0 where
  pub ready : Ready t n
  pub few : n ≤ most_copied
  pub room : marks_end n ≤ length t
  pub ranged : Ranged (variants_in t n)

-- nothing but marks has changed
abbrev pub OnlyMarks : ℕ → List ℕ → List ℕ → Type 0
OnlyMarks n s t = Within (order_end n) (marks_end n) s t

-- there is room for marks, and x names variants of n rules
pub record Nameable (t : List ℕ) (n : ℕ) (x : Rule) : Type 0 where
  pub room : marks_end n ≤ length t
  pub names : (k : ℕ) → Names x k → k < 3 * n

-- variant k is marked
pub record MarkedOne (n k : ℕ) (s t : List ℕ) : Type 0 where
  pub only : OnlyMarks n s t
  pub marks : (j : ℕ) → marked t n j ≡ (marked s n j || eqb k j)

-- the variants that x names are marked
pub record MarkedNamed (n : ℕ) (x : Rule) (s t : List ℕ) : Type 0 where
  pub only : OnlyMarks n s t
  pub marks : (j : ℕ) → marked t n j ≡ mark_named x (marked s n) j

-- variant k is passed: if it is marked, those that it names are marked
pub record Passed (n k : ℕ) (s t : List ℕ) : Type 0 where
  pub only : OnlyMarks n s t
  pub marks : (j : ℕ) → marked t n j ≡ cond (marked s n k) (mark_named (variant_in s k) (marked s n) j) (marked s n j)

-- no variant is marked
pub record Unmarked (n : ℕ) (s t : List ℕ) : Type 0 where
  pub only : OnlyMarks n s t
  pub marks : (k : ℕ) → k < 3 * n → marked t n k ≡ false

-- t has the marks of the first pass over the variants in s
abbrev pub HasMarks : ℕ → ℕ → List ℕ → List ℕ → Type 0
HasMarks n start s t = (k : ℕ) → k < 3 * n → marked t n k ≡ marks (variants_in s n) (places_in s n) start k

-- the first pass from a marked start, and from nothing
pub record MarkedAll (n : ℕ) (s t : List ℕ) : Type 0 where
  pub only : OnlyMarks n s t
  pub marks : (start : ℕ) (place : ℕ → ℕ) → Placing (variants_in s n) (places_in s n) place
      → ((k : ℕ) → k < 3 * n → marked s n k ≡ eqb k start) → HasMarks n start s t

pub record Marked (n start : ℕ) (s t : List ℕ) : Type 0 where
  pub only : OnlyMarks n s t
  pub marks : (place : ℕ → ℕ) → Placing (variants_in s n) (places_in s n) place → HasMarks n start s t
