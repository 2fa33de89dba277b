-- Each test is one of `headed`. Assumes nothing.
use Prim.Native.Nat.{◌+◌, ◌*◌}
use mathlib.Core.Path.{ap}
use mathlib.Core.Bool.{◌&&◌}
use lib.Dec.{eqb, leb}
use Rattle.forest.specs.Walk.{headed, used_cells, cursor_words}
use Rattle.place_store.specs.declared.Head.{Head}
use Rattle.place_store.proofs.headed.Goals as goal

pub returns : goal.returns
unfolding headed used_cells cursor_words
returns c = ap (λ (y : Head). eqb y.two 0 && (eqb y.three 0 && leb (4 * (y.used + 1)) (16 * (c.args.n + 1)))) c.read-head.ensures
