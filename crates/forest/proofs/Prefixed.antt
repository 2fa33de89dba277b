-- Bytes before an accepted plan (document 01's cover) change nothing that measure, spread, walk and compare answer and leave: they look
-- at the plan through check and its rules alone. Assumes nothing.
use Rattle.std.specs.Prelude.{Ok}
use Prim.Native.Nat.{ℕ}
use mathlib.Core.Path.{◌≡◌, sym, ◌∙◌}
use mathlib.Core.List.{List, ◌++◌}
use Rattle.plan.specs.Check.{checked, most_rules, rules_of, format_of}
use Rattle.plan.proofs.Prefix.{prefix-accepted, prefix-accepted-rules, prefix-accepted-format}
use Rattle.forest.specs.Outcome.{measured, measured_work, spread, text_of, spread_output}
use Rattle.forest.specs.Walk.{begun_from, begun, walked_work}
use Rattle.forest.specs.Compare.{compared_from, compare, compared_work}

module _ (p s : List ℕ) (n start : ℕ) (h : checked s ≡ Ok (record { n = n; start = start })) where
  pub prefix-check : checked (p ++ s) ≡ checked s
  unfolding checked
  prefix-check = prefix-accepted p s most_rules n start h ∙ sym h

  pub prefix-plan : rules_of (p ++ s) ≡ rules_of s
  unfolding checked
  prefix-plan = prefix-accepted-rules p s most_rules n start h

  pub prefix-same-format : format_of (p ++ s) ≡ format_of s
  unfolding checked
  prefix-same-format = prefix-accepted-format p s most_rules n start h

  pub prefix-measured : (work : List ℕ) → measured (p ++ s) work ≡ measured s work
  unfolding measured
  prefix-measured work = rw (prefix-check, prefix-plan)

  pub prefix-work : (work : List ℕ) → measured_work (p ++ s) work ≡ measured_work s work
  unfolding measured_work
  prefix-work work = rw prefix-check

  pub prefix-spread : (work out : List ℕ) → spread (p ++ s) work out ≡ spread s work out
  unfolding spread
  prefix-spread work out = rw (prefix-check, prefix-plan, prefix-same-format)

  pub prefix-spread-output : (work out : List ℕ) → spread_output (p ++ s) work out ≡ spread_output s work out
  unfolding spread_output text_of
  prefix-spread-output work out = rw (prefix-spread work out, prefix-check, h, prefix-plan, prefix-same-format)

  pub prefix-begun : (work cursor letters given : List ℕ) → begun (p ++ s) work cursor letters given ≡ begun s work cursor letters given
  unfolding begun begun_from
  prefix-begun work cursor letters given = rw (prefix-check, h, prefix-plan)

  pub prefix-walked-work : (work cursor letters given : List ℕ) → walked_work (p ++ s) work cursor letters given ≡ walked_work s work cursor letters given
  unfolding walked_work
  prefix-walked-work work cursor letters given = rw prefix-check

  pub prefix-compared : (work first second : List ℕ) (b : ℕ) → compare (p ++ s) work first second b ≡ compare s work first second b
  unfolding compare compared_from
  prefix-compared work first second b = rw (prefix-check, h, prefix-plan)

  pub prefix-compared-work : (work first second : List ℕ) → compared_work (p ++ s) work first second ≡ compared_work s work first second
  unfolding compared_work
  prefix-compared-work work first second = rw prefix-check
