-- `unseal` answers as check does, but for the test for room and the record length; each answer is the law for the tests that led there.
-- Assumes nothing.
use Prim.Native.Nat.{ℕ, ◌+◌, ◌*◌, ◌≤◌}
use mathlib.Core.Path.{◌≡◌, refl, sym, ◌∙◌}
use mathlib.Core.Bool.{true}
use native.Mathlib.Omega.{arith}
use lib.Dec.{leb}
use lib.ListN.{length}
use Rattle.words.specs.Number.{word_count}
use Rattle.record.specs.Format.{length_of_record, record_words}
use Rattle.record.proofs.Formats.{high-short}
use Rattle.plan.specs.Check.{trailer_length}
use Rattle.unseal.proofs.Unsealing.{unsealed-refused, unsealed-no-room, unsealed-roomed, unsealed-trailer, unsealed-long, unsealed-room}
use Rattle.refusal.proofs.Passed.{handed-on}
use Rattle.unseal.proofs.unseal.Goals as goal

-- n records of k bytes, which are the format's, before the trailer
records-long : {k l : ℕ} (n t w : ℕ) → k ≡ l → l * n + t ≤ w → (k * n ≡ l * n) × (k * n + t ≤ w)
records-long n t w e h = rw e (refl, h)

pub format-format-requires : goal.format-format-requires
format-format-requires c = let a = c.args in unsealed-trailer a.plan.now a.out.now _ c.check.ensures _ _ c.in_ok-n.was

pub returns-then-not-roomed : goal.returns-then-not-roomed
returns-then-not-roomed c = let a = c.args in
    unsealed-no-room a.plan.now a.out.now _ c.check.ensures _ _ c.in_ok-n.was _ c.format-format.ensures
    (sym c.roomed.ensures ∙ c.if-not-roomed.true)

pub overflow_sub-first : goal.overflow_sub-first
overflow_sub-first c = omega (
  arith,
  records-long _ _ _ c.length-length.ensures (unsealed-long c.args.plan.now c.args.out.now _ c.check.ensures _ _ c.in_ok-n.was _ c.format-format.ensures),
)

pub overflow_mul-first : goal.overflow_mul-first
overflow_mul-first c = omega (
  arith,
  records-long _ _ _ c.length-length.ensures (unsealed-long c.args.plan.now c.args.out.now _ c.check.ensures _ _ c.in_ok-n.was _ c.format-format.ensures),
)

pub overflow_sub-first-2 : goal.overflow_sub-first-2
overflow_sub-first-2 c = omega (
  arith,
  records-long _ _ _ c.length-length.ensures (unsealed-long c.args.plan.now c.args.out.now _ c.check.ensures _ _ c.in_ok-n.was _ c.format-format.ensures),
)

pub copy_records-requires : goal.copy_records-requires
copy_records-requires c = let a = c.args in
    let room = unsealed-room a.plan.now a.out.now _ c.check.ensures _ _ c.in_ok-n.was _ c.format-format.ensures (sym c.roomed.ensures ∙ c.if-not-roomed.false) in (
      omega (
        arith,
        records-long _ _ _ c.length-length.ensures (unsealed-long c.args.plan.now c.args.out.now _ c.check.ensures _ _ c.in_ok-n.was _ c.format-format.ensures),
      ),
      room,
    )

pub overflow_cast-result : goal.overflow_cast-result
overflow_cast-result c = let short = high-short c.format-format.result in rw c.length-length.ensures (omega (arith, short))

pub returns-in_err-n : goal.returns-in_err-n
returns-in_err-n c = let a = c.args in
    rw (handed-on c.from_residual.result c.from_residual.ensures.1) (unsealed-refused a.plan.now a.out.now _ c.check.ensures _ c.in_err-n.was)

pub returns : goal.returns
returns c = let a = c.args in
    unsealed-roomed a.plan.now a.out.now _ c.check.ensures _ _ c.in_ok-n.was _ c.format-format.ensures
    _ _ c.length-length.ensures (sym c.roomed.ensures ∙ c.if-not-roomed.false) c.copy_records.ensures
