-- Each return is a case of a run after a state. Assumes nothing.
use mathlib.Core.Path.{sym, ap, ◌∙◌}
use native.Mathlib.Omega.{arith}
use Rattle.model.specs.Stored.{State, after_run}
use Rattle.side.specs.Side.{side_of}
use Rattle.facts.specs.Facts.{facts_in, In}
use Rattle.place_check.specs.declared.State.{State as CodeState}
use Rattle.place_check.specs.States.{state_of}
use Rattle.place_check.proofs.States.{at_has, unreached, run-again, run-elsewhere, run_short, run_fits, other-after-run}
use Rattle.place_check.proofs.after_run.Goals as goal

pub returns-in_default : goal.returns-in_default
returns-in_default c = let a = c.args in sym (other-after-run (facts_in a.work.now) a.state (side_of a.side) a.a a.b c.in_default.not-At)

pub returns-then-kind-run_kind : goal.returns-then-kind-run_kind
returns-then-kind-run_kind c = let a = c.args in let t = a.work.now in let F = facts_in t in let d = side_of a.side in let at = ap (λ (z : CodeState). after_run F (state_of z) d a.a a.b) c.in-At.is in
    sym (at ∙ run-again F c.in-At.p c.in-At.kind c.in-At.inner d a.a a.b (c.if-kind-run_kind.true ∙ c.run_kind.ensures))

pub returns-then-p-a : goal.returns-then-p-a
returns-then-p-a c = let a = c.args in let t = a.work.now in let F = facts_in t in let d = side_of a.side in let at = ap (λ (z : CodeState). after_run F (state_of z) d a.a a.b) c.in-At.is in
    sym (at ∙ run-elsewhere F c.in-At.p c.in-At.kind c.in-At.inner d a.a a.b c.if-p-a.true)

pub returns-then-work-b : goal.returns-then-work-b
returns-then-work-b c = let a = c.args in let t = a.work.now in let F = facts_in t in let d = side_of a.side in let at = ap (λ (z : CodeState). after_run F (state_of z) d a.a a.b) c.in-At.is in
    let from : In t a.a = rw c.if-p-a.false at (at_has (In t) c.in-At.is c.requires.2).0 in
    sym (at ∙ run_short F c.in-At.p c.in-At.kind c.in-At.inner d a.a a.b (unreached F (In t) c.requires.0 d a.a a.b from (λ q. omega arith)))

pub reaches-requires : goal.reaches-requires
reaches-requires c = let t = c.args.work.now in
    (c.requires.1, rw c.if-p-a.false at (at_has (In t) c.in-At.is c.requires.2).0, omega arith)

pub returns-then-reaches : goal.returns-then-reaches
returns-then-reaches c = let a = c.args in let t = a.work.now in let F = facts_in t in let d = side_of a.side in let at = ap (λ (z : CodeState). after_run F (state_of z) d a.a a.b) c.in-At.is in
    (λ i. State.at a.b (c.run_kind-then-reaches.ensures i) (c.kept_by.ensures i))
    ∙ sym (at ∙ run_fits F c.in-At.p c.in-At.kind c.in-At.inner d a.a a.b (λ q. c.if-kind-run_kind.false (q ∙ sym c.run_kind.ensures)) c.if-p-a.false (sym c.reaches.ensures ∙ c.if-reaches.true))

pub returns : goal.returns
returns c = let a = c.args in let t = a.work.now in let F = facts_in t in let d = side_of a.side in let at = ap (λ (z : CodeState). after_run F (state_of z) d a.a a.b) c.in-At.is in
    sym (at ∙ run_short F c.in-At.p c.in-At.kind c.in-At.inner d a.a a.b (sym c.reaches.ensures ∙ c.if-reaches.false))
