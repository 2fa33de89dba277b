-- By cases on the answer. Assumes nothing.
use Rattle.std.specs.Prelude.{ℕ, [], ◌∷◌}
use mathlib.Core.Path.{refl, sym, ◌∙◌}
use Rattle.c_result.specs.Interface.{weighed_gives, behind, given_by}
use Rattle.c_result.proofs.give_weighed.Goals as goal
use Rattle.c_result.proofs.give_weighed.Goals.{in-Ok, in_default}

pub returns : goal.returns
unfolding weighed_gives given_by behind
returns c =
    let e = c.give.ensures (λ (x : ℕ). x ∷ []) in
    elim c.match-answer.branch [
      | in-Ok w ↦ let f = rw (w.answer-is ∙ sym w.in-Ok.is) at e in (f.0, rw (w.grams-is, w.in-Ok.is) refl, f.1)
      | in_default w ↦ let f = rw w.answer-is at e in (f.0, rw (w.grams-is, w.in_default.is) refl, f.1)
    ]
