-- By cases on the answer. Assumes nothing.
use Rattle.std.specs.Prelude.{[], ◌∷◌}
use mathlib.Core.Path.{refl, sym, ◌∙◌}
use Rattle.reasons.specs.declared.Reason.{Reason}
use Rattle.reasons.specs.Reason as reason
use Rattle.c_result.specs.Interface.{reasoned_gives, behind, given_by}
use Rattle.c_result.proofs.give_reasoned.Goals as goal
use Rattle.c_result.proofs.give_reasoned.Goals.{in-Ok, in_default}

pub returns : goal.returns
unfolding reasoned_gives given_by behind
returns c =
    let e = c.give.ensures (λ (x : Reason). reason.number_of x ∷ []) in
    elim c.match-answer.branch [
      | in-Ok w ↦ let f = rw (w.answer-is ∙ sym w.in-Ok.is) at e in (f.0, rw (w.reason-is, w.in-Ok.is, w.number.ensures) refl, f.1)
      | in_default w ↦ let f = rw w.answer-is at e in (f.0, rw (w.reason-is, w.in_default.is) refl, f.1)
    ]
