-- A search from one rule, with a queue: a rule that is seen for the first time is put at its end, and the rules that it names are looked at
-- when its turn comes. So all that is seen is reached, and in the end all that is reached has been seen.
use Rattle.std.specs.Prelude.{ℕ, ◌*◌, ◌≤◌, ◌<◌, ◌≡◌, List, length}
use Rattle.rule.specs.declared.Rule.{Rule}
use Rattle.rule.specs.Names.{Names}
use Rattle.rule.specs.Sound.{rule}
use Rattle.reach.specs.Reaches.{Reaches}
use Rattle.reach.specs.Order.{count}
use Rattle.reach.specs.Building.{Stands}
use Rattle.reach_order.specs.Named.{Named, In}
use Rattle.reach_order.specs.Room.{mark_in, front_in}
use Rattle.reach_order.specs.Search.{unseen, seen, Grown}

-- the named rules may be put behind m others: those are all that have been seen
pub record Listable (d : Named) (n m : ℕ) (t : List ℕ) : Type 0 where
  pub below : (k : ℕ) → In d k → k < n
  pub fits : 4 * n ≤ length t
  pub counted : count (seen (mark_in t)) n ≡ m

-- and they have been: each that was new stands behind the m others
pub record Listed (d : Named) (n m x : ℕ) (t u : List ℕ) : Type 0 where
  pub grown : Grown n t u
  pub more : m ≤ x
  pub counted : count (seen (mark_in u)) n ≡ x
  pub kept : (j : ℕ) → j < m → front_in n u j ≡ front_in n t j
  pub new : (j : ℕ) → m ≤ j → j < x → In d (front_in n u j)
  pub queued : (k : ℕ) → k < n → (mark_in u k ≡ unseen → ⊥) → mark_in t k ≡ unseen → Stands (front_in n u) x k
  pub all : (k : ℕ) → In d k → mark_in u k ≡ unseen → ⊥

-- the search from rule i so far, with m rules in the queue of which some were taken, but not i
pub record Following (R : List Rule) (n i : ℕ) (t : List ℕ) (m taken : ℕ) : Type 0 where
  pub far : taken ≤ m
  pub counted : count (seen (mark_in t)) n ≡ m
  pub reached : (j : ℕ) → j < m → Reaches R i (front_in n t j)
  pub queued : (r : ℕ) → r < n → (mark_in t r ≡ unseen → ⊥) → Stands (front_in n t) m r
  pub named : (k : ℕ) → Names (rule R i) k → mark_in t k ≡ unseen → ⊥
  pub passed : (j : ℕ) → j < taken → front_in n t j ≡ i → ⊥
  pub closed : (j k : ℕ) → j < taken → Names (rule R (front_in n t j)) k → mark_in t k ≡ unseen → ⊥
