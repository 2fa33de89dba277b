-- The search goes on in the work behind the rows, and can't fail (`search-orders`). Assumes nothing.
use native.Mathlib.Omega.{arith}
use Rattle.work_load.proofs.Prepares.{loadable, searchable, search-orders}
use Rattle.work_load.proofs.search_order.Goals as goal

pub format-format-requires : goal.format-format-requires
format-format-requires c = let long = (loadable c.requires).0 in omega arith

pub first-first-requires : goal.first-first-requires
first-first-requires c = rw c.format-format.ensures (loadable c.requires).0

pub invariant_of-rules : goal.invariant_of-rules
invariant_of-rules c = record { lies = rw (c.first-first.ensures, c.format-format.ensures) (searchable c.requires).lies }

pub order-requires : goal.order-requires
order-requires c = rw (c.first-first.ensures, c.format-format.ensures) (searchable c.requires)

pub returns : goal.returns
returns c = search-orders c.requires (rw (c.first-first.ensures, c.format-format.ensures) at c.order.ensures)
