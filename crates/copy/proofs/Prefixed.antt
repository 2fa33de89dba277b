-- Bytes before an accepted plan (document 01's cover) change nothing that copy may answer and leave: it looks at the plan through check and
-- its rules alone. Assumes nothing.
use Rattle.std.specs.Prelude.{Result, Ok, Err}
use Rattle.refusal.specs.declared.Refusal.{Refusal}
use Prim.Native.Nat.{ℕ}
use mathlib.Core.Logic.{◌↔◌}
use mathlib.Core.List.{List, ◌++◌}
use mathlib.Core.Path.{◌≡◌, sym}
use Rattle.plan.specs.declared.Checked.{Checked}
use Rattle.plan.specs.Check.{checked, rules_of}
use Rattle.forest.proofs.Prefixed.{prefix-check, prefix-plan}
use Rattle.label_rows.specs.declared.LabelRow.{LabelRow}
use Rattle.copy.specs.Copy.{copy_judged, CopyOutcome}

-- of a plan that is copied the rules alone matter
outcome-by-rules : (c : Result Checked Refusal) (s t : List ℕ) (rows : List LabelRow) (class : ℕ) (work work' out out' : List ℕ) (x : Result ℕ Refusal) → rules_of s ≡ rules_of t
    → CopyOutcome c s rows class work work' out out' x
    → CopyOutcome c t rows class work work' out out' x
unfolding CopyOutcome
outcome-by-rules (Err why) s t rows class work work' out out' x e X = X
outcome-by-rules (Ok y) s t rows class work work' out out' x e X =
    record {
      rules = X.rules;
      top = X.top;
      copied = rw e at X.copied;
      accepts = X.accepts;
      reads = X.reads;
      answer = X.answer;
      writes = X.writes;
      clears = X.clears;
    }

module _ (p s : List ℕ) (n start : ℕ) (h : checked s ≡ Ok (record { n = n; start = start })) (rows : List LabelRow) (class : ℕ) where
  pub prefix-copy-judged : (work out : List ℕ) → copy_judged (p ++ s) rows class work out ≡ copy_judged s rows class work out
  unfolding copy_judged
  prefix-copy-judged work out = rw (prefix-check p s n start h)

  -- what is an outcome of the one is an outcome of the other
  pub prefix-copied : (work work' out out' : List ℕ) (x : Result ℕ Refusal)
      → CopyOutcome (copy_judged (p ++ s) rows class work out) (p ++ s) rows class work work' out out' x
      ↔ CopyOutcome (copy_judged s rows class work out) s rows class work work' out out' x
  prefix-copied work work' out out' x =
      let e = prefix-plan p s n start h in
      rw (prefix-copy-judged work out) (
        outcome-by-rules (copy_judged s rows class work out) (p ++ s) s rows class work work' out out' x e,
        outcome-by-rules (copy_judged s rows class work out) s (p ++ s) rows class work work' out out' x (sym e),
      )
