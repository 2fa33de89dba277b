-- What is kept of counts in numbers of 64 bits: the counts themselves as long as the nodes fit, since no other count is above the nodes; else
-- the most nodes and no tops, which no counts are that fit: where there are nodes there are tops.
use Rattle.std.specs.Prelude.{◌≡◌, ℕ, ◌+◌, ◌-◌, ◌<◌, ◌≤◌, Bool, ◌&&◌, ◌==◌}
use Rattle.forest.specs.Outcome.{count_limit}
use Rattle.count_all.specs.declared.Counts.{Counts}
use Rattle.count_all.specs.Counts.{no_counts, joined}

-- the most nodes that fit: 2^64 − 1
abbrev pub most : ℕ
most = count_limit - 1

-- no count is above the nodes
pub record Bounded (m : Counts) : Type 0 where
  pub entries : m.entries ≤ m.nodes
  pub tops : m.tops ≤ m.nodes
  pub levels : m.levels ≤ m.nodes

-- c is kept of the counts m
pub data Keeps : Counts → Counts → Type 0 where
  exact : {m : Counts} → Bounded m → m.nodes ≤ most → Keeps m m
  above : {c m : Counts} → Bounded m → most < m.nodes → c.nodes ≡ most → c.tops ≡ 0 → Keeps c m

-- what is kept where the nodes don't fit, and the test of it
pub record TooMany (c : Counts) : Type 0 where
  pub nodes : c.nodes ≡ most
  pub tops : c.tops ≡ 0

abbrev pub is_above : Counts → Bool
is_above c = c.nodes == most && c.tops == 0

-- c is kept of nothing
abbrev pub IsNone : Counts → Type 0
IsNone c = c ≡ no_counts

-- c is kept of both together, with l levels, where a and b are kept, and v of the levels as long as the nodes fit
abbrev pub Joins : Counts → Counts → ℕ → Counts → Type 0
Joins a b v c =
    (m k : Counts) (l : ℕ) → Keeps a m → Keeps b k → l ≤ m.nodes + k.nodes → (m.nodes + k.nodes ≤ most → v ≡ l) → Keeps c (joined m k l)

-- c is kept of what f makes of two counts, or of one, of which a and b are kept
abbrev pub Makes : (Counts → Counts → Counts) → Counts → Counts → Counts → Type 0
Makes f a b c = (m k : Counts) → Keeps a m → Keeps b k → Keeps c (f m k)

abbrev pub Turns : (Counts → Counts) → Counts → Counts → Type 0
Turns f a c = (m : Counts) → Keeps a m → Keeps c (f m)
