-- `plan_copy` gives copy's answer as numbers, with its outcome. Assumes nothing.
use Rattle.mealplan.proofs.plan_copy.Goals as goal

pub returns : goal.returns
returns c =
    let given = c.give_written.ensures in
    record {
      answer = c.copy-copied.result;
      outcome = c.copy-copied.ensures;
      result = given.0;
      length_given = given.1;
      position = given.2;
    }
