-- `copy_records` reads and writes record after record: the loop's invariant is the contract at i. Assumes nothing.
use mathlib.Core.Path.{◌≡◌}
use lib.ListN.{length}
use Rattle.record.proofs.Copied.{copied}
use Rattle.record.proofs.copy_records.Given as goal

abbrev pub invariant-loop-i : goal.invariant-loop-i
invariant-loop-i l = (l.out ≡ copied l.format l.s l.first l.i l.initial.out) × (length l.out ≡ length l.initial.out)
