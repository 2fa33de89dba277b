-- The loop's invariant: the cursor stands where the letters before the page led, and the pages from it on are left (`Page`).
-- A page takes a letter at least, so no more than 2,050 bytes a letter are printed. Assumes nothing.
use native.Mathlib.Omega.{arith}
use Prim.Native.Nat.{ℕ, ◌+◌, ◌-◌, ◌*◌, ◌≤◌}
use mathlib.Core.Path.{◌≡◌, refl, sym, ap, subst, ◌∙◌}
use mathlib.Core.List.{List}
use lib.ListN.{length, length-replicate}
use Rattle.std.specs.Iterator.Adapters.{enumerate_source, enumerate_count}
use Rattle.std.specs.Slice.Iter.{chunks_rest}
use Rattle.plan.specs.Check.{rules_of}
use Rattle.forest.specs.Forest.{forest}
use Rattle.page_output.specs.Walking.{most_cursor, Ready}
use Rattle.page_output.proofs.Cut.{page-begins, page-ready, page-fills, text-long, page-next, page-after, page-ends}
use Rattle.pages.proofs.Chunk.{lengths, chunk-ends, chunk-part, chunk-later, walked-as}
use Rattle.pages.proofs.print_pages.Goals as goal

pub loop-i-init : goal.loop-i-init
loop-i-init c =
    let P = c.requires in
    let gives = c.into_iter-i-iterator.ensures.into_iter_gives in
    let source = c.enumerate-i-items.ensures.source in
    let none = c.new-printer.ensures.printed in
    let whole : chunks_rest (enumerate_source c.into_iter-i-iterator.result) ≡ c.args.log.now = rw (gives, source) c.chunks.ensures.rest in
    let long = ap length whole in
    let count : enumerate_count c.into_iter-i-iterator.result ≡ 0 = rw gives c.enumerate-i-items.ensures.count in
    let zero : length c.args.log.now - length (chunks_rest (enumerate_source c.into_iter-i-iterator.result)) ≡ 0 = omega arith in
    let zero' : length c.args.log.now - length c.args.log.now ≡ 0 = omega arith in
    record {
      size = rw (gives, source) c.chunks.ensures.size;
      within = omega arith;
      left = rw (whole, zero') refl;
      before = λ h. omega (arith, count);
      cursor = length-replicate {0} {A = ℕ} most_cursor 0;
      out = length-replicate {0} {A = ℕ} 2050 0;
      few = omega arith;
      page = (P.n, P.start, rw (zero, none) (page-begins P));
    }

pub page-requires : goal.page-requires
page-requires c =
    let P = c.requires in
    let I = c.loop-i.invariant in
    let S = c.in-Some.ensures.steps in
    let E = chunk-ends c.args.log.now c.in-Some.letters.now (chunks_rest (enumerate_source c.next.new.self)) I.within I.left S.0.1.0 (rw I.size at S.0.1.1) S.0.1.2 in
    let part = chunk-part c.args.log.now c.in-Some.letters.now (chunks_rest (enumerate_source c.next.new.self)) I.within I.left S.0.1.0 in
    let before = I.before S.0.1.2 in
    (subst (Ready _ _ _) (sym part) (page-ready I.page.2 P.few P.every_letter E _ (omega (arith, before, S.1))), omega (arith, I.out))

pub emit-requires : goal.emit-requires
emit-requires c =
    let P = c.requires in
    let I = c.loop-i.invariant in
    let S = c.in-Some.ensures.steps in
    let K = I.page.2 in
    let E = chunk-ends c.args.log.now c.in-Some.letters.now (chunks_rest (enumerate_source c.next.new.self)) I.within I.left S.0.1.0 (rw I.size at S.0.1.1) S.0.1.2 in
    let part = chunk-part c.args.log.now c.in-Some.letters.now (chunks_rest (enumerate_source c.next.new.self)) I.within I.left S.0.1.0 in
    let before = I.before S.0.1.2 in
    let number = length c.args.log.now - length (chunks_rest (enumerate_source c.loop-i.i-iterator)) + 1 in
    let walked = walked-as number (forest (rules_of c.args.plan.now) I.page.1) K.path (c.page.ensures _ _ K.path K.walking) (omega (arith, before, S.1)) part in
    let fills = page-fills K P.few P.every_letter E I.out walked.0 in (
      rw fills (page-next K P.few P.every_letter E),
      omega (arith, ap length fills, text-long K P.few P.every_letter E, P.few, E.within, E.more, I.few),
    )

pub loop-i-preserved : goal.loop-i-preserved
loop-i-preserved c =
    let P = c.requires in
    let I = c.loop-i.invariant in
    let S = c.in-Some.ensures.steps in
    let K = I.page.2 in
    let size = rw I.size at S.0.1.1 in
    let E = chunk-ends c.args.log.now c.in-Some.letters.now (chunks_rest (enumerate_source c.next.new.self)) I.within I.left S.0.1.0 size S.0.1.2 in
    let part = chunk-part c.args.log.now c.in-Some.letters.now (chunks_rest (enumerate_source c.next.new.self)) I.within I.left S.0.1.0 in
    let sum = lengths c.args.log.now c.in-Some.letters.now (chunks_rest (enumerate_source c.next.new.self)) I.within I.left S.0.1.0 in
    let before = I.before S.0.1.2 in
    let number = length c.args.log.now - length (chunks_rest (enumerate_source c.loop-i.i-iterator)) + 1 in
    let walked = walked-as number (forest (rules_of c.args.plan.now) I.page.1) K.path (c.page.ensures _ _ K.path K.walking) (omega (arith, before, S.1)) part in
    let fills = page-fills K P.few P.every_letter E I.out walked.0 in
    let long = text-long K P.few P.every_letter E in
    record {
      size = S.0.0 ∙ I.size;
      within = omega (arith, I.within);
      left = chunk-later c.args.log.now c.in-Some.letters.now (chunks_rest (enumerate_source c.next.new.self)) I.within I.left S.0.1.0;
      before = λ h. omega (arith, S.2, I.within);
      cursor = omega (arith, c.page.auto.cursor, I.cursor);
      out = ap length fills ∙ long;
      few = omega (arith, ap length fills, c.emit.ensures, E.more, I.few);
      page = (_, _, page-after K P.few P.every_letter E walked.1 (c.emit.ensures ∙ ap (λ (l : List ℕ). c.loop-i.printer.printed + length l) fills));
    }

pub returns : goal.returns
returns c = page-ends c.loop-i.invariant.page.2 (omega (arith, c.in-None.ensures.steps.0.1.0))
