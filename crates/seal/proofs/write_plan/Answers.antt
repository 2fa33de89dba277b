-- Refused, nothing is written; accepted, the rules and then the trailer are the plan's bytes (`seal-written`). Assumes nothing.
use Rattle.std.specs.Prelude.{Result, ℕ}
use Rattle.refusal.specs.declared.Refusal.{Refusal}
use mathlib.Core.Path.{sym, ap, ◌∙◌}
use native.Mathlib.Omega.{arith}
use Rattle.record.specs.Format.{high_length}
use Rattle.record.proofs.Formats.{records-least}
use Rattle.seal.specs.Seal.{output_as}
use Rattle.plan.specs.Written.{output_after}
use Rattle.seal.proofs.Sealed.{sealed-facts, seal-few, given-fits, seal-room, seal-written}
use Rattle.seal.proofs.write_plan.Goals as goal

pub returns-in_default : goal.returns-in_default
unfolding output_as output_after
returns-in_default c = let a = c.args in
    sym (ap (λ (r : Result ℕ Refusal). output_as r a.format a.words.now a.start a.out.now) c.in_default.is)

pub copy_records-requires : goal.copy_records-requires
copy_records-requires c = let a = c.args in
    let e = c.given_count-n.ensures in (
      omega (arith, given-fits a.format _ _ e),
      omega (
        arith,
        seal-room a.format _ _ _ _ _ (sealed-facts _ _ _ _ _ _ (sym c.requires ∙ c.in-Ok.is)) _ e,
      ),
    )

pub overflow_cast-n : goal.overflow_cast-n
overflow_cast-n c = omega (
  arith,
  seal-few c.args.format _ _ _ _ _ (sealed-facts _ _ _ _ _ _ (sym c.requires ∙ c.in-Ok.is)) _ c.given_count-n.ensures,
)

pub write-requires : goal.write-requires
unfolding high_length
write-requires c = let f = c.args.format in
    omega (
      arith,
      seal-room f _ _ _ _ _ (sealed-facts _ _ _ _ _ _ (sym c.requires ∙ c.in-Ok.is)) _ c.given_count-n.ensures,
      records-least f c.given_count-n.result,
    )

pub returns : goal.returns
returns c = let a = c.args in
    let f = a.format in
    seal-written f _ _ _ _ _ (sealed-facts _ _ _ _ _ _ (sym c.requires ∙ c.in-Ok.is)) _ c.given_count-n.ensures _ _ c.copy_records.ensures c.write.ensures
    ∙ sym (ap (λ (r : Result ℕ Refusal). output_as r f a.words.now a.start a.out.now) c.in-Ok.is)
