-- The guessed row is one of a sound list's; the search begins there or in all rows, and ends at the row sought. Assumes nothing.
use Rattle.std.proofs.Common.{◌≡◌, ℕ, ◌-◌, ◌/◌, sym, subst, arith}
use Rattle.label_rows.proofs.Search.{Within, some-row, row-rises, within-start, within-next, within-found}
use Rattle.label_rows.proofs.find.Goals as goal

pub guess-guessed-requires : goal.guess-guessed-requires
guess-guessed-requires c = (c.requires.1, some-row c.args.rows.now c.requires.0 c.args.label)

pub first_row-low-requires : goal.first_row-low-requires
first_row-low-requires c = row-rises c.args.rows.now c.requires.0 c.args.label c.guess-guessed.result c.guess-guessed.ensures

pub rows_left-count-requires : goal.rows_left-count-requires
rows_left-count-requires c = row-rises c.args.rows.now c.requires.0 c.args.label c.guess-guessed.result c.guess-guessed.ensures

pub loop-count-init : goal.loop-count-init
loop-count-init c =
    rw (c.first_row-low.ensures, c.rows_left-count.ensures)
    (within-start c.args.rows.now c.requires.0 c.args.label c.requires.1 c.guess-guessed.result c.guess-guessed.ensures)

pub loop-count-preserved : goal.loop-count-preserved
loop-count-preserved c =
    subst (λ (j : ℕ). Within c.args.rows.now c.args.label j (c.loop-count.count - c.loop-count.count / 2)) (sym c.next_row-low.ensures)
    (within-next c.args.rows.now c.requires.0 c.args.label c.loop-count.low c.loop-count.count (omega arith) c.loop-count.invariant)

pub returns : goal.returns
returns c =
    let some = c.loop-count.invariant.some in
    let e : c.loop-count.count ≡ 1 = omega arith in
    within-found c.args.rows.now c.requires.0 c.args.label c.loop-count.low
    (subst (λ (k : ℕ). Within c.args.rows.now c.args.label c.loop-count.low k) e c.loop-count.invariant)
