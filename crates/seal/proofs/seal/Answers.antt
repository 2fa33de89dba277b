-- A record length that is none of the two is refused at once; else `seal` asks for the answer first, and what it writes goes by that
-- answer. Assumes nothing.
use mathlib.Core.Path.{◌≡◌, refl, sym, ◌∙◌}
use Rattle.seal.specs.Seal.{sealed}
use Rattle.seal.proofs.Sealed.{sealed-length, sealed-output, sealed-no-length}
use Rattle.seal.proofs.seal.Goals as goal

pub returns-then-not-is_length : goal.returns-then-not-is_length
returns-then-not-is_length c = let a = c.args in
    let r = sealed-no-length a.words.now a.record_length a.start a.out.now (sym c.is_length.ensures ∙ c.if-not-is_length.true) in
    (sym r.0, sym r.1)

pub returns : goal.returns
returns c = let a = c.args in
    let e : c.sealing-answer.result ≡ sealed a.words.now a.record_length a.start a.out.now =
    c.sealing-answer.ensures _ refl
    ∙ sealed-length a.words.now a.record_length a.start a.out.now _ c.format_for-format.ensures
    (sym c.is_length.ensures ∙ c.if-not-is_length.false) in
    (e, sealed-output _ _ _ _ _ _ _ c.format_for-format.ensures e c.write_plan.ensures)
