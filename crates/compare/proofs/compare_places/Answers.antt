-- The table is filled, both places are opened on it, and their subtrees are compared. Assumes nothing.
use mathlib.Core.Path.{sym}
use Rattle.work_rows.proofs.Rows.{within_both}
use Rattle.compare.proofs.Outcome.{arrangeable, prefix-long, openable, standings, answered, turned_down_lem}
use Rattle.refusal.proofs.Passed.{handed-on}
use Rattle.compare.proofs.compare_places.Goals as goal

pub load-requires : goal.load-requires
load-requires c = arrangeable c.requires

pub slice_bounds-rows-end-2 : goal.slice_bounds-rows-end-2
slice_bounds-rows-end-2 c = sym (prefix-long c.requires c.load.ensures.0 c.load.ensures.1 c.load.ensures.2 c.load.ensures.3)

pub open_both-requires : goal.open_both-requires
open_both-requires c = openable c.requires c.load.ensures.0 c.load.ensures.1 c.load.ensures.2 c.load.ensures.3

pub compare_subtrees-requires : goal.compare_subtrees-requires
compare_subtrees-requires c = let b = c.open_both.ensures.at _ _ c.in_ok-one.was in
    let loaded = c.load.ensures in
    standings c.requires loaded.0 loaded.1 loaded.2 loaded.3 (search (b.0, b.1)) (search (b.0, b.1))

pub returns : goal.returns
returns c = let b = c.open_both.ensures.at _ _ c.in_ok-one.was in
    let x = c.compare_subtrees.ensures in
    (answered c.requires c.load.ensures.0 c.load.ensures.1 c.load.ensures.2 c.load.ensures.3 b.0 b.1 _ x.0, within_both c.load.ensures.3 x.1)

pub returns-in_err-one : goal.returns-in_err-one
returns-in_err-one c = rw (handed-on c.from_residual.result c.from_residual.ensures.1) ((turned_down_lem c.requires c.load.ensures.0 c.load.ensures.1 c.load.ensures.2 c.load.ensures.3 _ c.open_both.ensures c.in_err-one.was, c.load.ensures.3))
