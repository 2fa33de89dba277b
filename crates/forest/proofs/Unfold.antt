-- The unfolding equation: a sound plan's expression of a rule is its right-hand side over the expressions of the rules that it
-- names. Fuel beyond the rank changes nothing, since the rank falls along names and is below the number of rules. After this
-- file nobody mentions fuel: facts about expressions follow by induction over the rules. Assumes nothing.
use Prim.Native.Nat.{ℕ, zero, suc, ◌≤◌, ◌<◌, max}
use native.Mathlib.Omega.{arith}
use mathlib.Core.Path.{◌≡◌, refl, ap, ap₂}
use mathlib.Core.Bool.{Bool, true, false, ◌&&◌}
use mathlib.Core.List.{List}
use lib.ListN.{length}
use lib.Dec.{T, ltb, ltb→lt}
use Rattle.rule.specs.declared.Rule.{Rule}
use Rattle.rule.specs.Rule.{encode, every, sorts, closed, holed, tree}
use Rattle.rule.specs.Names.{Names, node_one, pair_one, part_one, fill_one, pair_two, fill_two, part_two, join_one, join_two}
use Rattle.rule.specs.Sound.{rule, kind_in, Sound, Closed}
use Rattle.rule.proofs.Names.{T-left, T-right, every-named}
use Rattle.forest.specs.Expression.{Expression, rhs, unfolded, expression, rule_number}
use Rattle.forest.specs.Sizes.{height}
use Rattle.forest.specs.Good.{Sort, Good, Known}

-- a right-hand side asks for the named rules only
pub rhs-same : (r : ℕ) (x : Rule) (f g : ℕ → Expression) → ((k : ℕ) → Names x k → f k ≡ g k) → rhs r x f ≡ rhs r x g
unfolding rhs
rhs-same r Rule.Empty f g h = refl
rhs-same r (Rule.Pair b c) f g h = ap₂ (Expression.pair r) (h b pair_one) (h c pair_two)
rhs-same r (Rule.Node a c) f g h = ap (Expression.node r a) (h c node_one)
rhs-same r (Rule.Fill b c) f g h = ap₂ (Expression.fill r) (h b fill_one) (h c fill_two)
rhs-same r (Rule.Part a b c) f g h = ap₂ (Expression.part r a) (h b part_one) (h c part_two)
rhs-same r (Rule.Join b c) f g h = ap₂ (Expression.join r) (h b join_one) (h c join_two)

module _ {R : List Rule} {rank : ℕ → ℕ} (S : Sound R rank) where
  -- a named rule is in range, and of a lower rank
  pub named-below : (r k : ℕ) → r < length R → Names (rule R r) k → k < length R
  named-below r k h n = ltb→lt k (length R) (every-named (λ x. ltb x (length R)) n (S.in_range r h))

  pub named-falls : (r k : ℕ) → r < length R → Names (rule R r) k → rank k < rank r
  named-falls r k h n = ltb→lt (rank k) (rank r) (every-named (λ x. ltb (rank x) (rank r)) n (S.falls r h))

  -- induction over the rules: what follows for a rule from the rules that it names holds for all
  by-rank-to : (P : ℕ → Type 0) → ((r : ℕ) → r < length R → ((k : ℕ) → Names (rule R r) k → P k) → P r) → (n r : ℕ) → r < length R → rank r < n → P r
  by-rank-to P step zero r h l = absurd (omega arith)
  by-rank-to P step (suc n) r h l =
      step r h (λ k m. by-rank-to P step n k (named-below r k h m) (let f : rank k < rank r = named-falls r k h m in omega arith))

  pub by_rank : (P : ℕ → Type 0) → ((r : ℕ) → r < length R → ((k : ℕ) → Names (rule R r) k → P k) → P r) → (r : ℕ) → r < length R → P r
  by_rank P step r h = by-rank-to P step (length R) r h (S.ranked r h)

  -- fuel beyond the rank changes nothing
  steady : (n m r : ℕ) → r < length R → rank r < n → rank r < m → unfolded n R r ≡ unfolded m R r
  unfolding unfolded
  steady zero m r h a b = absurd (omega arith)
  steady (suc n) zero r h a b = absurd (omega arith)
  steady (suc n) (suc m) r h a b =
      rhs-same r (rule R r) (unfolded n R) (unfolded m R)
      (λ k t. let f : rank k < rank r = named-falls r k h t in steady n m k (named-below r k h t) (omega arith) (omega arith))

  pub unfolding-equation : (r : ℕ) → r < length R → expression R r ≡ rhs r (rule R r) (expression R)
  unfolding expression unfolded
  unfolding-equation r h = steady (length R) (suc (length R)) r h (S.ranked r h) (let l : rank r < length R = S.ranked r h in omega arith)

-- an expression carries its rule's number
pub rule_number-rhs : (r : ℕ) (x : Rule) (E : ℕ → Expression) → rule_number (rhs r x E) ≡ r
unfolding rhs rule_number
rule_number-rhs r Rule.Empty E = refl
rule_number-rhs r (Rule.Pair b c) E = refl
rule_number-rhs r (Rule.Node a c) E = refl
rule_number-rhs r (Rule.Fill b c) E = refl
rule_number-rhs r (Rule.Part a b c) E = refl
rule_number-rhs r (Rule.Join b c) E = refl

rule_number-unfolded : (n : ℕ) (R : List Rule) (r : ℕ) → rule_number (unfolded n R r) ≡ r
unfolding unfolded rule_number
rule_number-unfolded zero R r = refl
rule_number-unfolded (suc n) R r = rule_number-rhs r (rule R r) (unfolded n R)

pub rule_number-expression : (R : List Rule) (r : ℕ) → rule_number (expression R r) ≡ r
unfolding expression
rule_number-expression R r = rule_number-unfolded (length R) R r

-- every expression inside that of a rule is that of the rule whose number it carries
known-rhs : (r : ℕ) (x : Rule) (E : ℕ → Expression) → E r ≡ rhs r x E → ((k : ℕ) → Names x k → Known E (E k)) → Known E (rhs r x E)
unfolding rhs
known-rhs r Rule.Empty E q h = Known.empty q
known-rhs r (Rule.Pair b c) E q h = Known.pair q (h b pair_one) (h c pair_two)
known-rhs r (Rule.Node a c) E q h = Known.node q (h c node_one)
known-rhs r (Rule.Fill b c) E q h = Known.fill q (h b fill_one) (h c fill_two)
known-rhs r (Rule.Part a b c) E q h = Known.part q (h b part_one) (h c part_two)
known-rhs r (Rule.Join b c) E q h = Known.join q (h b join_one) (h c join_two)

-- the kinds of each sort
abbrev pub fits : Sort → ℕ → Bool
fits Sort.row k = closed k
fits Sort.tree k = tree k
fits Sort.spine k = holed k

-- the narrowest sort of a rule
unfoldable pub sort_of : Rule → Sort
sort_of Rule.Empty = Sort.row
sort_of (Rule.Pair b c) = Sort.row
sort_of (Rule.Node a c) = Sort.tree
sort_of (Rule.Fill b c) = Sort.tree
sort_of (Rule.Part a b c) = Sort.spine
sort_of (Rule.Join b c) = Sort.spine

sort-fits : (x : Rule) → T (fits (sort_of x) (encode x).kind)
unfolding sort_of encode closed holed tree
sort-fits Rule.Empty = tt
sort-fits (Rule.Pair b c) = tt
sort-fits (Rule.Node a c) = tt
sort-fits (Rule.Fill b c) = tt
sort-fits (Rule.Part a b c) = tt
sort-fits (Rule.Join b c) = tt

-- the expressions of the rules that x names have the sorts of their kinds
abbrev NamesGood : (ℕ → ℕ) → (ℕ → Expression) → Rule → Type 0
NamesGood kind E x = (k : ℕ) → Names x k → (s : Sort) → T (fits s (kind k)) → Good s (E k)

-- a right-hand side of the right kind, over expressions of the right sorts, has its sort
module _ (kind : ℕ → ℕ) (E : ℕ → Expression) (r : ℕ) where
  tree-rhs : (x : Rule) → T (tree (encode x).kind) → T (sorts kind x) → NamesGood kind E x → Good Sort.tree (rhs r x E)
  unfolding rhs encode sorts tree
  tree-rhs Rule.Empty f t h = absurd f
  tree-rhs (Rule.Pair b c) f t h = absurd f
  tree-rhs (Rule.Node a c) f t h = Good.node (h c node_one Sort.row t)
  tree-rhs (Rule.Fill b c) f t h =
      Good.fill (h b fill_one Sort.spine (T-left (holed (kind b)) (tree (kind c)) t)) (h c fill_two Sort.tree (T-right (holed (kind b)) (tree (kind c)) t))
  tree-rhs (Rule.Part a b c) f t h = absurd f
  tree-rhs (Rule.Join b c) f t h = absurd f

  spine-rhs : (x : Rule) → T (holed (encode x).kind) → T (sorts kind x) → NamesGood kind E x → Good Sort.spine (rhs r x E)
  unfolding rhs encode sorts holed
  spine-rhs Rule.Empty f t h = absurd f
  spine-rhs (Rule.Pair b c) f t h = absurd f
  spine-rhs (Rule.Node a c) f t h = absurd f
  spine-rhs (Rule.Fill b c) f t h = absurd f
  spine-rhs (Rule.Part a b c) f t h =
      Good.part (h b part_one Sort.row (T-left (closed (kind b)) (closed (kind c)) t)) (h c part_two Sort.row (T-right (closed (kind b)) (closed (kind c)) t))
  spine-rhs (Rule.Join b c) f t h =
      Good.join (h b join_one Sort.spine (T-left (holed (kind b)) (holed (kind c)) t)) (h c join_two Sort.spine (T-right (holed (kind b)) (holed (kind c)) t))

  row-rhs : (x : Rule) → T (closed (encode x).kind) → T (sorts kind x) → NamesGood kind E x → Good Sort.row (rhs r x E)
  unfolding rhs encode sorts closed
  row-rhs Rule.Empty f t h = Good.empty
  row-rhs (Rule.Pair b c) f t h =
      Good.pair (h b pair_one Sort.row (T-left (closed (kind b)) (closed (kind c)) t)) (h c pair_two Sort.row (T-right (closed (kind b)) (closed (kind c)) t))
  row-rhs (Rule.Node a c) f t h = Good.grown (tree-rhs (Rule.Node a c) (unfold encode tree in tt) t h)
  row-rhs (Rule.Fill b c) f t h = Good.grown (tree-rhs (Rule.Fill b c) (unfold encode tree in tt) t h)
  row-rhs (Rule.Part a b c) f t h = absurd f
  row-rhs (Rule.Join b c) f t h = absurd f

  good-rhs : (x : Rule) (s : Sort) → T (fits s (encode x).kind) → T (sorts kind x) → NamesGood kind E x → Good s (rhs r x E)
  good-rhs x Sort.row = row-rhs x
  good-rhs x Sort.tree = tree-rhs x
  good-rhs x Sort.spine = spine-rhs x

module _ {R : List Rule} {rank : ℕ → ℕ} (S : Sound R rank) where
  pub expression-known : (r : ℕ) → r < length R → Known (expression R) (expression R r)
  expression-known =
      by_rank S (λ r. Known (expression R) (expression R r))
      (λ r h f. rw (unfolding-equation S r h) (known-rhs r (rule R r) (expression R) (unfolding-equation S r h) f))

  -- closed kinds are rows, kinds 2 and 3 trees, holed kinds spines
  pub expression-good : (r : ℕ) → r < length R → (s : Sort) → T (fits s (kind_in R r)) → Good s (expression R r)
  unfolding kind_in
  expression-good =
      by_rank S (λ r. (s : Sort) → T (fits s (kind_in R r)) → Good s (expression R r))
      (λ r h f s t. rw (unfolding-equation S r h) (good-rhs (kind_in R) (expression R) r (rule R r) s t (S.sorted r h) f))

  -- each rule's expression has the sort of its right-hand side
  pub rule-good : (r : ℕ) → r < length R → Good (sort_of (rule R r)) (expression R r)
  unfolding kind_in
  rule-good r h = expression-good r h (sort_of (rule R r)) (sort-fits (rule R r))

  pub closed-row : {r : ℕ} → Closed R r → Good Sort.row (expression R r)
  closed-row {r} c = expression-good r c.below Sort.row c.closed_kind

-- the higher of two that are lower than n
under-both : {a b n : ℕ} → a < n → b < n → suc (max a b) ≤ n
under-both p q = omega arith

height-rhs : (n r : ℕ) (x : Rule) (E : ℕ → Expression) → ((k : ℕ) → Names x k → height (E k) < n) → height (rhs r x E) ≤ n
unfolding rhs height
height-rhs n r Rule.Empty E h = omega arith
height-rhs n r (Rule.Pair b c) E h = under-both (h b pair_one) (h c pair_two)
height-rhs n r (Rule.Node a c) E h = h c node_one
height-rhs n r (Rule.Fill b c) E h = under-both (h b fill_one) (h c fill_two)
height-rhs n r (Rule.Part a b c) E h = under-both (h b part_one) (h c part_two)
height-rhs n r (Rule.Join b c) E h = under-both (h b join_one) (h c join_two)

height-unfolded : (n : ℕ) (R : List Rule) (r : ℕ) → height (unfolded n R r) ≤ n
unfolding unfolded height
height-unfolded zero R r = omega arith
height-unfolded (suc n) R r = height-rhs (suc n) r (rule R r) (unfolded n R) (λ k m. let f : height (unfolded n R k) ≤ n = height-unfolded n R k in omega arith)

-- no expression is higher than there are rules; a sound rule's is not even as high, and no higher than its rank
pub height-expression : (R : List Rule) (r : ℕ) → height (expression R r) ≤ length R
unfolding expression
height-expression R r = height-unfolded (length R) R r

pub height-rank : {R : List Rule} {rank : ℕ → ℕ} → Sound R rank → (r : ℕ) → r < length R → height (expression R r) ≤ rank r
height-rank {R} {rank} S =
    by_rank S (λ r. height (expression R r) ≤ rank r)
    (λ r h f. rw (unfolding-equation S r h) (height-rhs (rank r) r (rule R r) (expression R) (λ k m. under (f k m) (named-falls S r k h m))))
  where
    under : {a b c : ℕ} → a ≤ b → b < c → a < c
    under p q = omega arith
