-- Three variants of each rule, of which the client's copy is made (document 02, Note 6: "Which rules stand for the forest is left free").
-- The whole variant of a rule stands for what is shown of its value, the shut one for that with its hole left empty, and the inner one of
-- a part for its children around the hole (proofs/Values).
use Rattle.std.specs.Prelude.{ℕ, zero, suc, ◌+◌, ◌*◌, ◌/◌, ◌%◌, ◌<◌, Bool, true, cond, ◌≡◌, List, [], ◌∷◌, length, eqb}
use Rattle.rule.specs.declared.Rule.{Rule}
use Rattle.rule.specs.Rule.{encode, holed, tree}
use Rattle.rule.specs.Sound.{rule}
use Rattle.copy_variants.specs.declared.Variants.{Variants}
pub use Rattle.copy_variants.specs.Visible.{most_copied}
unfoldable pub use Rattle.copy_variants.specs.Visible.{seen_in}

-- a variant is named by its rule's number and its own; the inner one comes first, since the shut one names it
abbrev pub variant_name : ℕ → ℕ → ℕ
variant_name r t = 3 * r + t

abbrev pub inner_name : ℕ → ℕ
inner_name r = variant_name r 0

abbrev pub whole_name : ℕ → ℕ
whole_name r = variant_name r 1

abbrev pub shut_name : ℕ → ℕ
shut_name r = variant_name r 2

abbrev pub kind_of : Rule → ℕ
kind_of x = (encode x).kind

-- The whole variant of a rule, of variants w and named b, around z, named c. Where its hole is gone nothing is filled; where z is empty
-- the hole is shut.
unfoldable pub filling : Variants → ℕ → Rule → ℕ → Rule
unfolding holed tree encode
filling w b z c =
    cond (holed (kind_of w.whole)) (cond (holed (kind_of z)) (Rule.Join b c) (cond (tree (kind_of z)) (Rule.Fill b c) w.shut)) w.whole

-- variants of a closed rule: there is no hole to shut
abbrev pub closed_variants : Rule → Variants
closed_variants x = record { inner = Rule.Empty; whole = x; shut = x }

-- The variants of rule r, which is x, from those of the rules that it names; seen says whether its label may be seen.
unfoldable pub variants_from : Bool → ℕ → Rule → (ℕ → Variants) → Variants
unfolding filling
variants_from seen r Rule.Empty W = closed_variants Rule.Empty
variants_from seen r (Rule.Pair b c) W = closed_variants (Rule.Pair (whole_name b) (whole_name c))
variants_from seen r (Rule.Node a c) W = closed_variants (cond seen (Rule.Node a (whole_name c)) Rule.Empty)
variants_from seen r (Rule.Fill b c) W = closed_variants (filling (W b) (whole_name b) (W c).whole (whole_name c))
variants_from seen r (Rule.Part a b c) W =
    record {
      inner = Rule.Pair (whole_name b) (whole_name c);
      whole = cond seen (Rule.Part a (whole_name b) (whole_name c)) Rule.Empty;
      shut = cond seen (Rule.Node a (inner_name r)) Rule.Empty;
    }
variants_from seen r (Rule.Join b c) W =
    record {
      inner = Rule.Empty;
      whole = filling (W b) (whole_name b) (W c).whole (whole_name c);
      shut = filling (W b) (whole_name b) (W c).shut (shut_name c);
    }

-- W gives every rule its variants: a table filled in an order of the rules does (below, and proofs/Table)
abbrev pub Varied : (ℕ → Bool) → List Rule → (ℕ → Variants) → Type 0
Varied v R W = (r : ℕ) → r < length R → W r ≡ variants_from (seen_in v (rule R r)) r (rule R r) W

-- such a table, made as deep as there are rules
unfoldable pub variants_to : (ℕ → Bool) → List Rule → ℕ → ℕ → Variants
variants_to v R zero r = closed_variants Rule.Empty
variants_to v R (suc n) r = variants_from (seen_in v (rule R r)) r (rule R r) (variants_to v R n)

unfoldable pub variants : (ℕ → Bool) → List Rule → ℕ → Variants
variants v R r = variants_to v R (length R) r

-- variant t of a rule
unfoldable pub variant : Variants → ℕ → Rule
variant w t = cond (eqb t 0) w.inner (cond (eqb t 1) w.whole w.shut)

-- m rules from number k on
unfoldable pub rules_from : (ℕ → Rule) → ℕ → ℕ → List Rule
rules_from f k zero = []
rules_from f k (suc m) = f k ∷ rules_from f (suc k) m

-- the variants of n rules as a list of rules, each at the number that names it
unfoldable pub variant_rules : (ℕ → Variants) → ℕ → List Rule
unfolding variant rules_from
variant_rules W n = rules_from (λ k. variant (W (k / 3)) (k % 3)) 0 (3 * n)

-- what a function of rules, as a rank or an order, is of their variants: those of a rule stay side by side
unfoldable pub threefold : (ℕ → ℕ) → ℕ → ℕ
threefold f k = 3 * f (k / 3) + k % 3
