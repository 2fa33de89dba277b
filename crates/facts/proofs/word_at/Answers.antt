-- A word of a link stands at the link's offset and its own. Assumes nothing.
use Prim.Native.Nat.{ℕ, ◌+◌}
use mathlib.Core.Path.{ap, ◌∙◌}
use Rattle.work_rows.specs.Rows.{field}
use Rattle.facts.proofs.word_at.Goals as goal

pub returns : goal.returns
returns c = let a = c.args in c.field16.ensures ∙ ap (λ (o : ℕ). field 2 a.work.now a.r (o + a.word)) c.link_offset.ensures.at
