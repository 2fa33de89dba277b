-- A mark and a word are written (`placed`). Assumes nothing.
use Prim.Native.Nat.{ℕ}
use mathlib.Core.List.{List}
use mathlib.Core.Path.{sym, ap, subst, ◌∙◌}
use native.Mathlib.Omega.{arith}
use Rattle.words.specs.Put.{put}
use Rattle.reach_order.specs.Room.{Placed}
use Rattle.reach_order.proofs.Placing.{placed}
use Rattle.reach_order.proofs.place.Goals as goal

pub returns : goal.returns
returns c = let a = c.args in let p = c.requires in subst (Placed a.n a.k a.v a.at a.room.now) (sym (c.write16-2.ensures ∙ ap (λ (l : List ℕ). put 2 l a.at a.k) c.write16.ensures)) (placed a.n a.k a.v a.at a.room.now p.0 p.1 p.2 p.3 (omega arith) (omega arith))
