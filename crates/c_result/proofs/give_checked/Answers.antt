-- By cases on the answer. Assumes nothing.
use Rattle.std.specs.Prelude.{[], ◌∷◌}
use mathlib.Core.Path.{refl, sym, ◌∙◌}
use Rattle.plan.specs.declared.Checked.{Checked}
use Rattle.c_result.specs.Interface.{checked_gives, behind, given_by}
use Rattle.c_result.proofs.give_checked.Goals as goal
use Rattle.c_result.proofs.give_checked.Goals.{in-Ok, in_default}

pub returns : goal.returns
unfolding checked_gives given_by behind
returns c =
    let e = c.give.ensures (λ (x : Checked). x.n ∷ x.start ∷ []) in
    elim c.match-answer.branch [
      | in-Ok w ↦ let f = rw (w.answer-is ∙ sym w.in-Ok.is) at e in (f.0, rw (w.n-is, w.in-Ok.is) refl, rw (w.start-is, w.in-Ok.is) refl, f.1)
      | in_default w ↦ let f = rw w.answer-is at e in (f.0, rw (w.n-is, w.in_default.is) refl, rw (w.start-is, w.in_default.is) refl, f.1)
    ]
