-- The loop's invariant: the cursor stands where the letters before the page led, and the pages from it on are left (`Page`).
-- A page takes a letter at least, so no more than 2,050 bytes a letter are printed. Assumes nothing.
use Prim.Native.Nat.{ℕ, ◌-◌, ◌*◌, ◌≤◌, ◌<◌}
use mathlib.Core.Path.{◌≡◌}
use lib.ListN.{length, drop}
use Rattle.std.specs.Iterator.Adapters.{enumerate_source, enumerate_count}
use Rattle.std.specs.Slice.Iter.{chunks_rest, chunks_size}
use Rattle.page_output.specs.Walking.{most_cursor, Page}
use Rattle.pages.proofs.print_pages.Given as goal

abbrev pub invariant-loop-i : goal.invariant-loop-i
invariant-loop-i l =
    let rest = chunks_rest (enumerate_source l.i-iterator) in
    let at = length l.log - length rest in
    record {
      size : chunks_size (enumerate_source l.i-iterator) ≡ 50;
      within : length rest ≤ length l.log;
      left : rest ≡ drop at l.log;
      before : 0 < length rest → at ≡ 50 * enumerate_count l.i-iterator;
      cursor : length l.cursor ≡ most_cursor;
      out : length l.out ≡ 2050;
      few : l.printer.printed ≤ 2050 * at;
      page : (n : ℕ) × (start : ℕ) × Page l.plan l.log n start l.cursor at l.printer.printed;
    }
