-- The rule that the cells stand at is a part or not. Assumes nothing.
use mathlib.Core.Path.{sym, ap, ◌∙◌}
use Rattle.std.specs.Prelude.{Some}
use native.Mathlib.Omega.{arith}
use Rattle.forest.specs.Walk.{cells_in}
use Rattle.model.specs.Model.{Node, is_part}
use Rattle.facts.specs.Facts.{facts_in, In}
use Rattle.move_parts.specs.Change.{reached, Turned, ReachedOf}
use Rattle.move_parts.proofs.Kept.{standing-kept}
use Rattle.facts.proofs.Rules.{other-part}
use Rattle.move_parts.proofs.Outcomes.{part_none, part-here}
use Rattle.move_parts.proofs.part_at.Goals as goal

pub rule_at-requires : goal.rule_at-requires
rule_at-requires c = let a = c.args in let F = facts_in a.work.now in let s = a.cursor.now in let cs = cells_in s a.k in
    rw c.standing-at.ensures (standing-kept F (In a.work.now) c.requires.rows cs c.requires.cells)

pub returns-in_default : goal.returns-in_default
unfolding reached Turned ReachedOf
returns-in_default c = let a = c.args in let F = facts_in a.work.now in let s = a.cursor.now in let cs = cells_in s a.k in
    record {
      node = sym (part_none F cs (ap is_part (sym (c.rule_at.ensures ∙ ap F.rule c.standing-at.ensures)) ∙ other-part c.rule_at.result c.in_default.not-Part));
      turned = tt;
      keeps = tt;
    }

pub returns : goal.returns
unfolding reached Turned ReachedOf is_part
returns c = let a = c.args in let F = facts_in a.work.now in let s = a.cursor.now in let cs = cells_in s a.k in
    record {
      node =
          ap (λ v. let n : Node = (v, cs) in Some n) c.standing-at.ensures
          ∙ sym (part-here F cs (ap is_part (sym (c.rule_at.ensures ∙ ap F.rule c.standing-at.ensures) ∙ c.in-Part.is)));
      turned = tt;
      keeps = omega arith;
    }
