-- The walked rule, cell 0 and the stored cells decide refusal 10; the place that passes all stands at its path. Assumes nothing.
use mathlib.Core.Path.{◌≡◌, refl, sym, ap₂, ◌∙◌}
use mathlib.Core.Bool.{Bool, ◌&&◌}
use Rattle.letter_moves.proofs.Stands.{held}
use Rattle.place_open.proofs.Places.{head-lies, used, walks, walked-rows, used-lies, not-headed, not-placed, placed-here, opened}
use Rattle.place_open.proofs.open.Goals as goal

-- both tests as they were promised
both : {a b x y : Bool} → x ≡ a → y ≡ b → (a && b) ≡ (x && y)
both p q = ap₂ (λ (u v : Bool). u && v) (sym p) (sym q)

pub read-head-requires : goal.read-head-requires
read-head-requires c = head-lies c.requires

pub headed-requires : goal.headed-requires
headed-requires c = head-lies c.requires

pub returns-then-not-can_walk-headed : goal.returns-then-not-can_walk-headed
returns-then-not-can_walk-headed c =
    not-headed c.requires (walks _ c.read-head.ensures _ c.rule_named-walked.ensures)
    (both c.can_walk.ensures c.headed.ensures ∙ c.if-not-can_walk-headed.true)

pub placed-requires : goal.placed-requires
placed-requires c =
    let read = c.read-head.ensures in
    let named = walks _ read _ c.rule_named-walked.ensures in
    let passed = both c.can_walk.ensures c.headed.ensures ∙ c.if-not-can_walk-headed.false in
    let j = c.requires in
    let rows = walked-rows j named passed in
    let lies = used-lies j named passed _ (used _ read) in
    (search (rows, j.rows), search (lies, head-lies j))

pub returns-then-not-placed : goal.returns-then-not-placed
returns-then-not-placed c =
    let read = c.read-head.ensures in
    let named = walks _ read _ c.rule_named-walked.ensures in
    let passed = both c.can_walk.ensures c.headed.ensures ∙ c.if-not-can_walk-headed.false in
    not-placed c.requires named passed _ (used _ read) (sym c.placed.ensures ∙ c.if-not-placed.true)

pub standing-rule-requires : goal.standing-rule-requires
standing-rule-requires c =
    let read = c.read-head.ensures in
    let named = walks _ read _ c.rule_named-walked.ensures in
    let passed = both c.can_walk.ensures c.headed.ensures ∙ c.if-not-can_walk-headed.false in
    held (placed-here c.requires named passed _ (used _ read) _ (sym c.placed.ensures ∙ c.if-not-placed.false) refl)

pub returns : goal.returns
returns c =
    let read = c.read-head.ensures in
    let named = walks _ read _ c.rule_named-walked.ensures in
    let passed = both c.can_walk.ensures c.headed.ensures ∙ c.if-not-can_walk-headed.false in
    opened c.requires named passed _ (used _ read) _ (sym c.placed.ensures ∙ c.if-not-placed.false) c.standing-rule.ensures
