-- The loop's invariant: the rows of the rules at the first i places of the order are built. Assumes nothing.
use mathlib.Core.Path.{◌≡◌}
use native.Mathlib.Omega.{arith}
use Rattle.facts_build.proofs.Filling.{built-none, built-order, built-below, built-ready, built-more, built-all}
use Rattle.work_rows.proofs.Kept.{first-length}
use Rattle.facts_build.proofs.build.Goals as goal

pub loop-i-init : goal.loop-i-init
loop-i-init c = built-none _ _ _

pub order_at-r-requires : goal.order_at-r-requires
order_at-r-requires c = let same = c.loop-i.invariant.beyond.same_length in let room = c.requires.room in omega arith

pub rule_at-rule-requires : goal.rule_at-rule-requires
rule_at-rule-requires c =
    let same = c.loop-i.invariant.beyond.same_length in
    let room = c.requires.room in
    let below = built-below c.requires.orders (first-length _ _) c.loop-i-test.true (built-order c.loop-i.i c.loop-i.invariant c.order_at-r.ensures) in
    omega arith

pub of-facts-requires : goal.of-facts-requires
of-facts-requires c =
    let room = c.requires.room in
    built-ready c.requires.sound c.requires.orders c.loop-i.invariant (first-length _ _) (omega arith) c.loop-i-test.true (omega arith)
    (built-order c.loop-i.i c.loop-i.invariant c.order_at-r.ensures) c.rule_at-rule.result c.rule_at-rule.ensures

pub write-requires : goal.write-requires
write-requires c =
    let same = c.loop-i.invariant.beyond.same_length in
    let room = c.requires.room in
    let below = built-below c.requires.orders (first-length _ _) c.loop-i-test.true (built-order c.loop-i.i c.loop-i.invariant c.order_at-r.ensures) in
    omega arith

pub loop-i-preserved : goal.loop-i-preserved
loop-i-preserved c =
    let room = c.requires.room in
    built-more c.requires.sound c.requires.orders c.loop-i.invariant (first-length _ _) (omega arith) c.loop-i-test.true (omega arith)
    (built-order c.loop-i.i c.loop-i.invariant c.order_at-r.ensures) c.rule_at-rule.result c.of-facts.result _ c.rule_at-rule.ensures
    c.of-facts.ensures (omega (arith, c.of-facts.type_inv)) c.write.ensures

pub returns : goal.returns
returns c =
    let e : c.loop-i.i ≡ c.args.n = omega arith in
    built-all c.requires.sound c.requires.orders (first-length _ _) (rw e at c.loop-i.invariant)
