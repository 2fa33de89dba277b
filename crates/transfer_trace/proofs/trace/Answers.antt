-- The rows are filled in the work, the trees are written behind what is known, and the place is traced there. Assumes nothing.
use mathlib.Core.Path.{sym}
use Rattle.transfer_trace.proofs.Tracing.{arrangeable, ready, prefix-long, climbable, origins-on, within_all}
use Rattle.transfer_trace.proofs.trace.Goals as goal

pub load-requires : goal.load-requires
load-requires c = let entry = c in
    arrangeable entry.requires

pub tops_rows-requires : goal.tops_rows-requires
tops_rows-requires c = let past-load = c in
    let loaded = past-load.load.ensures in
    let entry = past-load in
    ready entry.requires loaded.1 loaded.2 loaded.3

pub slice_bounds-rows-end-2 : goal.slice_bounds-rows-end-2
slice_bounds-rows-end-2 c = let past-tops = c in
    let past-load = past-tops in
    let loaded = past-load.load.ensures in
    let entry = past-load in
    sym (prefix-long entry.requires loaded.1 loaded.2 loaded.3 loaded.0 past-tops.tops_rows.ensures)

pub trace_rows-requires : goal.trace_rows-requires
trace_rows-requires c = let past-tops = c in
    let past-load = past-tops in
    let loaded = past-load.load.ensures in
    let entry = past-load in
    climbable entry.requires loaded.1 loaded.2 loaded.3 loaded.0 past-tops.tops_rows.ensures

pub returns : goal.returns
returns c = let past-trace = c in
    let past-tops = past-trace in
    let past-load = past-tops in
    let loaded = past-load.load.ensures in
    let entry = past-load in (
      origins-on entry.requires loaded.1 loaded.2 loaded.3 loaded.0 past-tops.tops_rows.ensures past-trace.trace_rows.ensures,
      within_all entry.requires loaded.1 loaded.2 loaded.3 loaded.0 past-tops.tops_rows.ensures,
    )
