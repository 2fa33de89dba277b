-- What a rule of another kind is not: every other kind is a clause.
-- Assumes nothing.
use Prim.Native.Nat.{ℕ}
use mathlib.Core.Path.{◌≡◌, refl}
use mathlib.Core.Bool.{false}
use Rattle.std.specs.Prelude.{Option, None}
use Rattle.rule.specs.declared.Rule.{Rule}
use Rattle.forest.specs.Place.{Cells, Side}
use Rattle.model.specs.Facts.{Facts}
use Rattle.model.specs.Stored.{row_under, spine_at, is_node}
use Rattle.model.specs.Walk.{label}
use Rattle.model.specs.Model.{Node, outer_of, inner_of, is_part, child_of, beside_hole}

-- no node, no fill, no part
abbrev pub NoNode : Rule → Type 0
NoNode x = (a c : ℕ) → x ≡ Rule.Node a c → ⊥

abbrev pub NoFill : Rule → Type 0
NoFill x = (b c : ℕ) → x ≡ Rule.Fill b c → ⊥

abbrev pub NoPart : Rule → Type 0
NoPart x = (a b c : ℕ) → x ≡ Rule.Part a b c → ⊥

pub other_outer : (x : Rule) (a : ℕ) → NoFill x → outer_of x a ≡ a
unfolding outer_of
other_outer Rule.Empty a hf = refl
other_outer (Rule.Pair b c) a hf = refl
other_outer (Rule.Node x c) a hf = refl
other_outer (Rule.Fill b c) a hf = absurd (hf b c refl)
other_outer (Rule.Part x b c) a hf = refl
other_outer (Rule.Join b c) a hf = refl

pub other-inner : (x : Rule) → NoFill x → inner_of x ≡ None
unfolding inner_of
other-inner Rule.Empty hf = refl
other-inner (Rule.Pair b c) hf = refl
other-inner (Rule.Node x c) hf = refl
other-inner (Rule.Fill b c) hf = absurd (hf b c refl)
other-inner (Rule.Part x b c) hf = refl
other-inner (Rule.Join b c) hf = refl

pub other-part : (x : Rule) → NoPart x → is_part x ≡ false
unfolding is_part
other-part Rule.Empty hp = refl
other-part (Rule.Pair b c) hp = refl
other-part (Rule.Node x c) hp = refl
other-part (Rule.Fill b c) hp = refl
other-part (Rule.Part x b c) hp = absurd (hp x b c refl)
other-part (Rule.Join b c) hp = refl

pub other-hole : (F : Facts) (s : Side) (x : Rule) (cs : Cells) → NoPart x → beside_hole F s x cs ≡ None
unfolding beside_hole
other-hole F s Rule.Empty cs hp = refl
other-hole F s (Rule.Pair b c) cs hp = refl
other-hole F s (Rule.Node x c) cs hp = refl
other-hole F s (Rule.Fill b c) cs hp = refl
other-hole F s (Rule.Part x b c) cs hp = absurd (hp x b c refl)
other-hole F s (Rule.Join b c) cs hp = refl

pub other-child : (F : Facts) (s : Side) (x : Rule) (cs : Cells) → NoNode x → NoPart x → child_of F s x cs ≡ None
unfolding child_of
other-child F s Rule.Empty cs hn hp = refl
other-child F s (Rule.Pair b c) cs hn hp = refl
other-child F s (Rule.Node x c) cs hn hp = absurd (hn x c refl)
other-child F s (Rule.Fill b c) cs hn hp = refl
other-child F s (Rule.Part x b c) cs hn hp = absurd (hp x b c refl)
other-child F s (Rule.Join b c) cs hn hp = refl

pub other-label : (x : Rule) → NoNode x → NoPart x → label x ≡ 0
unfolding label
other-label Rule.Empty hn hp = refl
other-label (Rule.Pair b c) hn hp = refl
other-label (Rule.Node x c) hn hp = absurd (hn x c refl)
other-label (Rule.Fill b c) hn hp = refl
other-label (Rule.Part x b c) hn hp = absurd (hp x b c refl)
other-label (Rule.Join b c) hn hp = refl

pub other_row : (x : Rule) (k d : ℕ) → NoNode x → NoPart x → row_under x k d ≡ None
unfolding row_under
other_row Rule.Empty k d hn hp = refl
other_row (Rule.Pair b c) k d hn hp = refl
other_row (Rule.Node x c) k d hn hp = absurd (hn x c refl)
other_row (Rule.Fill b c) k d hn hp = refl
other_row (Rule.Part x b c) k d hn hp = absurd (hp x b c refl)
other_row (Rule.Join b c) k d hn hp = refl

pub other-spine : (x : Rule) (p k : ℕ) (o : Option ℕ) (a : ℕ) → NoNode x → NoFill x → NoPart x → spine_at x p k o a ≡ false
unfolding spine_at
other-spine Rule.Empty p k o a hn hf hp = refl
other-spine (Rule.Pair b c) p k o a hn hf hp = refl
other-spine (Rule.Node x c) p k o a hn hf hp = absurd (hn x c refl)
other-spine (Rule.Fill b c) p k o a hn hf hp = absurd (hf b c refl)
other-spine (Rule.Part x b c) p k o a hn hf hp = absurd (hp x b c refl)
other-spine (Rule.Join b c) p k o a hn hf hp = refl

pub other-node : (x : Rule) (k : ℕ) → NoNode x → NoPart x → is_node x k ≡ false
unfolding is_node
other-node Rule.Empty k hn hp = refl
other-node (Rule.Pair b c) k hn hp = refl
other-node (Rule.Node x c) k hn hp = absurd (hn x c refl)
other-node (Rule.Fill b c) k hn hp = refl
other-node (Rule.Part x b c) k hn hp = absurd (hp x b c refl)
other-node (Rule.Join b c) k hn hp = refl
