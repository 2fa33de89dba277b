-- One call more, and the page of its answers. Assumes nothing.
use native.Mathlib.Omega.{arith}
use mathlib.Core.Path.{ap}
use Rattle.decimal.proofs.Puts.{put_as}
use Rattle.page_line.specs.Page.{page_text}
use Rattle.page_output.proofs.Walks.{went}
use Rattle.page_output.proofs.page.Goals as goal

pub put_page-requires : goal.put_page-requires
put_page-requires c = let past-walk = c in
    let past-share = past-walk in
    let entry = past-share in
    let R = entry.requires.0 in
    let W = went R.walking entry.args.letters.now R.few R.every_letter past-walk.walk_part.ensures.0 past-walk.walk_part.ensures.1 in
    (R.few, omega (arith, R.few), R.numbers, W.short, entry.requires.1)

pub returns : goal.returns
returns c = λ n start path W.
    let past-page = c in
    let past-walk = past-page in
    let past-share = past-walk in
    let entry = past-share in
    let R = entry.requires.0 in
    let letters = entry.args.letters.now in
    let done = went W letters R.few R.every_letter past-walk.walk_part.ensures.0 past-walk.walk_part.ensures.1 in
    (put_as (ap (page_text entry.args.first letters) done.said) past-page.put_page.ensures.0, done.walking)
