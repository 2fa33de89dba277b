-- The stored place is opened; then the letters are taken from it and the place that they lead to is stored. Assumes nothing.
use Rattle.place_open.proofs.Places.{head-lies}
use Rattle.walk_place.proofs.Places.{refused-walks, fillable, ready, arrived-lies, begun-lies, arrived}
use Rattle.refusal.proofs.Passed.{handed-on}
use Rattle.walk_place.proofs.travel.Goals as goal

pub read-head-requires : goal.read-head-requires
read-head-requires c = head-lies c.requires.place

pub fill-requires : goal.fill-requires
fill-requires c = fillable c.requires (c.open.ensures.at _ _ c.in_ok-walked.was)

pub run-used-requires : goal.run-used-requires
run-used-requires c = (ready c.requires (c.open.ensures.at _ _ c.in_ok-walked.was) c.fill.ensures, c.requires.answerable)

pub store-requires : goal.store-requires
store-requires c =
    let j = c.requires in
    let o = c.open.ensures.at _ _ c.in_ok-walked.was in
    search (arrived-lies j o c.fill.ensures c.run-used.ensures, begun-lies j o c.fill.ensures c.run-used.ensures)

pub returns : goal.returns
returns c =
    let o = c.open.ensures.at _ _ c.in_ok-walked.was in
    arrived c.requires o c.fill.ensures c.run-used.ensures c.read-head.ensures c.store.ensures

pub returns-in_err-walked : goal.returns-in_err-walked
returns-in_err-walked c = rw (handed-on c.from_residual.result c.from_residual.ensures.1) (refused-walks _ _ _ _ _ (c.open.ensures.refused _ c.in_err-walked.was))
