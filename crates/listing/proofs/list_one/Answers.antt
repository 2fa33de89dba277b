-- A candidate with another label is passed over; the others are made of their numbers. Assumes nothing.
use Rattle.listing.proofs.Printed.{label-without, made}
use Rattle.listing.proofs.list_one.Goals as goal

pub returns-then-not-wordless-plain : goal.returns-then-not-wordless-plain
returns-then-not-wordless-plain c =
    label-without c.args.i c.place_of-j.ensures.0 c.wordless.ensures c.plain.ensures c.requires.1 c.requires.0 c.if-not-wordless-plain.true

pub list_plan-requires : goal.list_plan-requires
list_plan-requires c = (
  c.requires.0,
  made c.args.i c.place_of-j.ensures.0 c.wordless.ensures c.plain.ensures c.requires.1 c.if-not-wordless-plain.false
      c.rules_at-n.ensures.0 c.rules_at-n.ensures.1 c.three_rules-plan.ensures,
)
