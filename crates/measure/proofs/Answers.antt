-- Too many nodes are told from counts that fit, and counts that fit are kept as they are. Assumes nothing.
use Rattle.std.specs.Prelude.{Ok, Err}
use Prim.Native.Nat.{ℕ, ◌<◌, ◌≤◌}
use native.Mathlib.Omega.{arith}
use mathlib.Core.Path.{◌≡◌}
use mathlib.Core.Bool.{true, false}
use mathlib.Core.List.{List}
use borrow.Author.Tests.{lt-ltb, le-ltb}
use Rattle.refusal.specs.declared.Refusal.{Refusal}
use Rattle.forest.specs.Algebra.{value}
use Rattle.forest.specs.Forest.{Forest, trees, weigh, one}
use Rattle.forest.specs.Outcome.{count_limit, counted}
use Rattle.count_all.specs.declared.Counts.{Counts}
use Rattle.count_all.specs.Counts.{forest_counts}
use Rattle.count_all.specs.Kept.{most, Keeps, is_above}
use Rattle.count_all.specs.Rows.{Counted}
use Rattle.count_all.proofs.Meaning.{forest-above, forest-exact, row_counts}
use Rattle.measure.specs.Answer.{Answered}

-- the answer of a forest
counted-above : (g : Forest ℕ) {c : Counts} → Keeps c (forest_counts g) → is_above c ≡ true → Err Refusal.Room ≡ counted g
unfolding counted
counted-above g k h = let more : most < weigh one g = forest-above g k h in rw (le-ltb (weigh one g) count_limit (omega arith))

counted-exact : (g : Forest ℕ) {c : Counts} → Keeps c (forest_counts g) → is_above c ≡ false → (Ok (record { trees = c.tops; entries = c.entries; levels = c.levels })) ≡ counted g
unfolding counted
counted-exact g k h =
    let e = forest-exact g k h in
    let few : weigh one g ≤ most = e.1 in
    rw (lt-ltb (weigh one g) count_limit (omega arith), e.0)

-- and of a rule
module _ {n r : ℕ} {c : Counts} {s t : List ℕ} (p : Counted n r c s t) where
  pub answered-above : is_above c ≡ true → Answered n r (Err Refusal.Room) s t
  answered-above h = record { within = p.kept.within; answer = λ E u g. counted-above (trees (value (E r))) (row_counts p E u g) h }

  pub answered-exact : is_above c ≡ false → Answered n r (Ok (record { trees = c.tops; entries = c.entries; levels = c.levels })) s t
  answered-exact h = record { within = p.kept.within; answer = λ E u g. counted-exact (trees (value (E r))) (row_counts p E u g) h }
