-- By cases on the answer. Assumes nothing.
use Rattle.std.specs.Prelude.{[], ◌∷◌}
use mathlib.Core.Path.{refl, sym, ◌∙◌}
use Rattle.forest.specs.declared.Measured.{Measured}
use Rattle.c_result.specs.Interface.{measured_gives, behind, given_by}
use Rattle.c_result.proofs.give_measured.Goals as goal
use Rattle.c_result.proofs.give_measured.Goals.{in-Ok, in_default}

pub returns : goal.returns
unfolding measured_gives given_by behind
returns c =
    let e = c.give.ensures (λ (x : Measured). x.trees ∷ x.entries ∷ x.levels ∷ []) in
    elim c.match-answer.branch [
      | in-Ok w ↦ let f = rw (w.answer-is ∙ sym w.in-Ok.is) at e in (f.0, rw (w.trees-is, w.in-Ok.is) refl, rw (w.entries-is, w.in-Ok.is) refl, rw (w.levels-is, w.in-Ok.is) refl, f.1)
      | in_default w ↦ let f = rw w.answer-is at e in (f.0, rw (w.trees-is, w.in_default.is) refl, rw (w.entries-is, w.in_default.is) refl, rw (w.levels-is, w.in_default.is) refl, f.1)
    ]
