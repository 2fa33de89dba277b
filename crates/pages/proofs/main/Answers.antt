-- Each array is lent whole, and then the bytes that were read into it. Assumes nothing.
use Prim.Native.Nat.{ℕ}
use mathlib.Core.Path.{sym}
use lib.ListN.{length-replicate}
use Rattle.pages.proofs.main.Goals as goal

pub slice_bounds-read_file-end-4 : goal.slice_bounds-read_file-end-4
slice_bounds-read_file-end-4 c = sym (length-replicate {0} {A = ℕ} 1000000 0)

pub slice_bounds-plan-end : goal.slice_bounds-plan-end
slice_bounds-plan-end c = c.read_file-plan_length.ensures.within

pub slice_bounds-print-end : goal.slice_bounds-print-end
slice_bounds-print-end c = c.read_file-plan_length.ensures.front

pub slice_bounds-log-end : goal.slice_bounds-log-end
slice_bounds-log-end c = c.read_file-log_length.ensures.within

pub slice_bounds-print-end-2 : goal.slice_bounds-print-end-2
slice_bounds-print-end-2 c = c.read_file-log_length.ensures.front
