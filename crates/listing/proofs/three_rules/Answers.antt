-- The array, store by store, is the list. Assumes nothing.
use mathlib.Core.Path.{refl}
use Rattle.plan_list.specs.Listed.{rule_bytes, three_rules}
use Rattle.listing.proofs.three_rules.Goals as goal

pub returns : goal.returns
unfolding three_rules rule_bytes
returns c = refl
