-- By cases on the answer and its verdict. Assumes nothing.
use Rattle.std.specs.Prelude.{Ok}
use mathlib.Core.Path.{refl, sym, ap, ◌∙◌}
use Rattle.forest.specs.declared.Compared.{Compared}
use Rattle.c_result.specs.Interface.{verdict_numbers, compared_gives, behind, given_by}
use Rattle.c_result.proofs.give_compared.Goals as goal
use Rattle.c_result.proofs.give_compared.Goals.{in-Ok+in-Same, in-Ok+in-Differ, in-Ok+in-Spent, in_default}

pub returns : goal.returns
unfolding compared_gives given_by behind verdict_numbers
returns c =
    let e = c.give.ensures verdict_numbers in
    elim c.match-answer.branch [
      | in-Ok+in-Same w ↦ let f = rw (w.answer-is ∙ sym w.in-Ok.is) at e in (f.0, rw (w.verdict-is, w.in-Ok.is, w.in-Same.is) refl, rw (w.count-is, w.in-Ok.is, w.in-Same.is) refl, f.1)
      | in-Ok+in-Differ w ↦ let f = rw (w.answer-is ∙ sym w.in-Ok.is) at e in (f.0, rw (w.verdict-is, w.in-Ok.is, w.in-Differ.is) refl, rw (w.count-is, w.in-Ok.is, w.in-Differ.is) refl, f.1)
      | in-Ok+in-Spent w ↦ let f = rw (w.answer-is ∙ sym w.in-Ok.is) at e in (f.0, rw (w.verdict-is, w.in-Ok.is, w.in-Spent.is) refl, rw (w.count-is, w.in-Ok.is, w.in-Spent.is) refl, f.1)
      | in_default w ↦ let f = rw w.answer-is at e in (f.0, rw (w.verdict-is, w.in_default.is) refl, rw (w.count-is, w.in_default.is) refl, f.1)
    ]
