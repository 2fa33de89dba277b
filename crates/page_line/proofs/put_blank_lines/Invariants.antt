-- The loop's invariant: the lines from the counter on are what is left of all lines. Assumes nothing.
use Prim.Native.Nat.{◌-◌}
use Rattle.decimal.proofs.Texts.{Pushing}
use Rattle.page_line.specs.Page.{blank_lines}
use Rattle.page_line.proofs.put_blank_lines.Given as goal

abbrev pub invariant-loop : goal.invariant-loop
invariant-loop l = Pushing (blank_lines (l.m - l.counter)) (blank_lines l.m) l.initial.text l.text
