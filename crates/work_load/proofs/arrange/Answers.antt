-- The rules are loaded into the rows, and their order is put behind these. Assumes nothing.
use Rattle.work_load.proofs.Prepares.{loadable, formed, first-lower, still-arrangeable, arranged}
use Rattle.work_load.proofs.arrange.Goals as goal

pub load_rules-lower-requires : goal.load_rules-lower-requires
load_rules-lower-requires c = let A = c.requires in let l = loadable A in (l.0, l.1, formed A)

pub order_rules-requires : goal.order_rules-requires
order_rules-requires c = let A = c.requires in let l = c.load_rules-lower.ensures in (still-arrangeable A l.0, first-lower A l.1)

pub returns : goal.returns
returns c = arranged c.requires c.load_rules-lower.ensures.0 c.order_rules.ensures
