-- The nodes that a part of an expression opens are counted by recursion, and so from rules; an addition that stops at 2^64 gives the same
-- numbers, capped there. Assumes nothing.
use Prim.Native.Nat.{ℕ, suc, ◌+◌, ◌/◌, ◌%◌}
use native.Mathlib.Omega.{arith}
use mathlib.Core.Path.{◌≡◌, refl, ◌∙◌, ap, ap₂}
use mathlib.Core.Bool.{true, false}
use mathlib.Core.List.{List, [], ◌∷◌, ◌++◌}
use lib.Dec.{eqb}
use borrow.Author.Tests.{ne_eqb}
use Rattle.rule.specs.declared.Rule.{Rule}
use Rattle.rule.specs.Names.{Names, pair_one, pair_two, node_one, fill_one, fill_two, part_one, part_two, join_one, join_two}
use Rattle.forest.specs.Expression.{Expression, rhs}
use Rattle.forest.specs.Spelling.{in_tokens}
use Rattle.forest.specs.Good.{Sort, Good}
use Rattle.forest.proofs.Cases.{by_bool}
use Rattle.count_capped.specs.Count.{capped, capped_sum}
use Rattle.count_capped.proofs.Capped.{capped-sum, capped-more}
use Rattle.count_passes.specs.Says.{whole, before, after, spoken}
use Rattle.spread_step.specs.Task.{close_task, no_task, parts, task_by, task_spoken}
use Rattle.spread_stack.proofs.Turns.{is-close, is_a_part}
use Rattle.compare_tokens.specs.Tokens.{closing, openings}
use Rattle.compare_tokens.specs.Nodes.{part_nodes, before_in, after_in, by_part, task_nodes, before_of, after_of}
use Rattle.compare_tokens.proofs.Skips.{openings-append}

-- a node opened, and one closed
openings-open : (a : ℕ) (xs : List ℕ) → openings (suc a ∷ xs) ≡ suc (openings xs)
unfolding openings
openings-open a xs = rw (ne_eqb (suc a) closing (λ q. omega arith))

openings-close : (xs : List ℕ) → openings (xs ++ (closing ∷ [])) ≡ openings xs
unfolding openings
openings-close xs = let h : openings (xs ++ (closing ∷ [])) ≡ openings xs + 0 = openings-append xs (closing ∷ []) in omega arith

-- what a part opens
pub openings-spoken : (e : Expression) (p : ℕ) → openings (spoken in_tokens e p) ≡ part_nodes e p
unfolding spoken in_tokens part_nodes
openings-spoken (Expression.empty r) p = unfold openings in refl
openings-spoken (Expression.pair r b c) p =
    openings-append (spoken in_tokens b whole) (spoken in_tokens c whole) ∙ ap₂ ◌+◌ (openings-spoken b whole) (openings-spoken c whole)
openings-spoken (Expression.node r a c) p =
    openings-open a (spoken in_tokens c whole ++ (closing ∷ [])) ∙ ap suc (openings-close (spoken in_tokens c whole) ∙ openings-spoken c whole)
openings-spoken (Expression.fill r b c) p =
    openings-append (spoken in_tokens b before) (spoken in_tokens c whole ++ spoken in_tokens b after)
    ∙ ap₂ ◌+◌ (openings-spoken b before) (openings-append (spoken in_tokens c whole) (spoken in_tokens b after) ∙ ap₂ ◌+◌ (openings-spoken c whole) (openings-spoken b after))
openings-spoken (Expression.part r a b c) p =
    let x = openings-open a (spoken in_tokens b whole) ∙ ap suc (openings-spoken b whole) in
    let y = openings-close (spoken in_tokens c whole) ∙ openings-spoken c whole in
    by_bool (eqb p before) (λ u. rw u x) (λ u. rw u y)
openings-spoken (Expression.join r b c) p =
    let x = openings-append (spoken in_tokens b before) (spoken in_tokens c before) ∙ ap₂ ◌+◌ (openings-spoken b before) (openings-spoken c before) in
    let y = openings-append (spoken in_tokens c after) (spoken in_tokens b after) ∙ ap₂ ◌+◌ (openings-spoken c after) (openings-spoken b after) in
    by_bool (eqb p before) (λ u. rw u x) (λ u. rw u y)

-- one of the two numbers, whatever the part
pub by-part-nodes : (e : Expression) (p : ℕ) → part_nodes e p ≡ by_part p (before_in e) (after_in e)
unfolding part_nodes
by-part-nodes (Expression.empty r) p = by_bool (eqb p before) (λ u. rw u) (λ u. rw u)
by-part-nodes (Expression.pair r b c) p = by_bool (eqb p before) (λ u. rw u) (λ u. rw u)
by-part-nodes (Expression.node r a c) p = by_bool (eqb p before) (λ u. rw u) (λ u. rw u)
by-part-nodes (Expression.fill r b c) p = by_bool (eqb p before) (λ u. rw u) (λ u. rw u)
by-part-nodes (Expression.part r a b c) p = refl
by-part-nodes (Expression.join r b c) p = refl

-- of a closed expression both are the whole's
pub closed-nodes : {e : Expression} → Good Sort.row e → (p : ℕ) → part_nodes e p ≡ before_in e
unfolding part_nodes
closed-nodes Good.empty p = refl
closed-nodes (Good.pair g h) p = refl
closed-nodes (Good.grown (Good.node g)) p = refl
closed-nodes (Good.grown (Good.fill g h)) p = refl

-- what a task opens
pub openings-task : (E : ℕ → Expression) (v : ℕ) → openings (task_spoken in_tokens E v) ≡ task_nodes E v
unfolding task_spoken task_nodes task_by
openings-task E v =
    by_bool (eqb v no_task)
    (λ u. rw u (unfold openings in refl))
    (λ u.
    by_bool (eqb v close_task)
    (λ w. rw (u, w) (unfold openings in_tokens in refl))
    (λ w. rw (u, w) (openings-spoken (E (v / parts)) (v % parts) ∙ by-part-nodes (E (v / parts)) (v % parts))))

-- by which task it is
module _ (E : ℕ → Expression) (v : ℕ) (some : v ≡ no_task → ⊥) where
  pub nodes-close : eqb v close_task ≡ true → task_nodes E v ≡ 0
  unfolding task_nodes
  nodes-close u = is-close 0 0 (λ r p. by_part p (before_in (E r)) (after_in (E r))) v some u

  pub nodes-part : eqb v close_task ≡ false → task_nodes E v ≡ by_part (v % parts) (before_in (E (v / parts))) (after_in (E (v / parts)))
  unfolding task_nodes
  nodes-part u = is_a_part 0 0 (λ r p. by_part p (before_in (E r)) (after_in (E r))) v some u

-- the two numbers from the rules
pub before-rhs : (r : ℕ) (x : Rule) (E : ℕ → Expression)
    → before_in (rhs r x E) ≡ before_of ◌+◌ (λ k. before_in (E k)) (λ k. after_in (E k)) x
unfolding rhs part_nodes before_of
before-rhs r Rule.Empty E = refl
before-rhs r (Rule.Pair b c) E = ap₂ ◌+◌ (by-part-nodes (E b) whole) (by-part-nodes (E c) whole)
before-rhs r (Rule.Node a c) E = ap suc (by-part-nodes (E c) whole) ∙ omega arith
before-rhs r (Rule.Fill b c) E = ap (λ (n : ℕ). before_in (E b) + (n + after_in (E b))) (by-part-nodes (E c) whole)
before-rhs r (Rule.Part a b c) E = ap suc (by-part-nodes (E b) whole) ∙ omega arith
before-rhs r (Rule.Join b c) E = refl

pub after-rhs : (r : ℕ) (x : Rule) (E : ℕ → Expression)
    → after_in (rhs r x E) ≡ after_of ◌+◌ (λ k. before_in (E k)) (λ k. after_in (E k)) x
unfolding rhs part_nodes after_of
after-rhs r Rule.Empty E = refl
after-rhs r (Rule.Pair b c) E = ap₂ ◌+◌ (by-part-nodes (E b) whole) (by-part-nodes (E c) whole)
after-rhs r (Rule.Node a c) E = ap suc (by-part-nodes (E c) whole) ∙ omega arith
after-rhs r (Rule.Fill b c) E = ap (λ (n : ℕ). before_in (E b) + (n + after_in (E b))) (by-part-nodes (E c) whole)
after-rhs r (Rule.Part a b c) E = by-part-nodes (E c) whole
after-rhs r (Rule.Join b c) E = refl

-- capping goes through sums
capped-three : (k m n : ℕ) → capped (k + (m + n)) ≡ capped_sum (capped k) (capped_sum (capped m) (capped n))
capped-three k m n = capped-sum k (m + n) ∙ ap (capped_sum (capped k)) (capped-sum m n)

-- so the capped numbers of a rule come from the capped numbers of the rules that it names
module _ (b a : ℕ → ℕ) where
  pub before-capped : (x : Rule) → capped (before_of ◌+◌ b a x) ≡ before_of capped_sum (λ k. capped (b k)) (λ k. capped (a k)) x
  unfolding before_of
  before-capped Rule.Empty = refl
  before-capped (Rule.Pair l r) = capped-sum (a l) (a r)
  before-capped (Rule.Node x c) = capped-more 1 (a c)
  before-capped (Rule.Fill l r) = capped-three (b l) (a r) (a l)
  before-capped (Rule.Part x l r) = capped-more 1 (a l)
  before-capped (Rule.Join l r) = capped-sum (b l) (b r)

  pub after-capped : (x : Rule) → capped (after_of ◌+◌ b a x) ≡ after_of capped_sum (λ k. capped (b k)) (λ k. capped (a k)) x
  unfolding after_of
  after-capped Rule.Empty = refl
  after-capped (Rule.Pair l r) = capped-sum (a l) (a r)
  after-capped (Rule.Node x c) = capped-more 1 (a c)
  after-capped (Rule.Fill l r) = capped-three (b l) (a r) (a l)
  after-capped (Rule.Part x l r) = refl
  after-capped (Rule.Join l r) = capped-sum (a r) (a l)

-- they depend on the numbers of the rules named alone
module _ (plus : ℕ → ℕ → ℕ) (b a d c : ℕ → ℕ) where
  pub before_same : (x : Rule) → ((k : ℕ) → Names x k → (b k ≡ d k) × (a k ≡ c k)) → before_of plus b a x ≡ before_of plus d c x
  unfolding before_of
  before_same Rule.Empty h = refl
  before_same (Rule.Pair l r) h = ap₂ plus (h l pair_one).1 (h r pair_two).1
  before_same (Rule.Node x k) h = ap (plus 1) (h k node_one).1
  before_same (Rule.Fill l r) h = ap₂ plus (h l fill_one).0 (ap₂ plus (h r fill_two).1 (h l fill_one).1)
  before_same (Rule.Part x l r) h = ap (plus 1) (h l part_one).1
  before_same (Rule.Join l r) h = ap₂ plus (h l join_one).0 (h r join_two).0

  pub after_same : (x : Rule) → ((k : ℕ) → Names x k → (b k ≡ d k) × (a k ≡ c k)) → after_of plus b a x ≡ after_of plus d c x
  unfolding after_of
  after_same Rule.Empty h = refl
  after_same (Rule.Pair l r) h = ap₂ plus (h l pair_one).1 (h r pair_two).1
  after_same (Rule.Node x k) h = ap (plus 1) (h k node_one).1
  after_same (Rule.Fill l r) h = ap₂ plus (h l fill_one).0 (ap₂ plus (h r fill_two).1 (h l fill_one).1)
  after_same (Rule.Part x l r) h = (h r part_two).1
  after_same (Rule.Join l r) h = ap₂ plus (h r join_two).1 (h l join_one).1
