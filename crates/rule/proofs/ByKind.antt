-- What a record of each kind means, read off the table of kinds. Assumes nothing.
use Rattle.std.specs.Prelude.{None}
use Prim.Native.Nat.{ℕ}
use mathlib.Core.Bool.{◌&&◌}
use mathlib.Core.Path.{◌≡◌}
use lib.Dec.{leb, eqb}
use borrow.Author.Tests.{ne_eqb}
use Rattle.record.specs.declared.Format.{Format}
use Rattle.record.specs.declared.Record.{Record}
use Rattle.record.specs.Format.{most_label}
use Rattle.rule.specs.declared.Rule.{Rule}
use Rattle.rule.specs.Rule.{label_in, kind_empty, kind_pair, kind_node, kind_fill, kind_part, kind_join, whole, decode}

module _ (f : Format) (w : Record) where
  pub decode-empty : w.kind ≡ kind_empty → decode f w ≡ whole (eqb w.one 0 && eqb w.two 0 && eqb w.three 0 && eqb w.high 0) Rule.Empty
  unfolding decode
  decode-empty e = rw e

  pub decode-pair : w.kind ≡ kind_pair → decode f w ≡ whole (eqb w.three 0 && eqb w.high 0) (Rule.Pair w.one w.two)
  unfolding decode
  decode-pair e = rw e

  pub decode-node : w.kind ≡ kind_node → decode f w ≡ whole (leb (label_in w) (most_label f) && eqb w.three 0) (Rule.Node (label_in w) w.two)
  unfolding decode
  decode-node e = rw e

  pub decode-fill : w.kind ≡ kind_fill → decode f w ≡ whole (eqb w.three 0 && eqb w.high 0) (Rule.Fill w.one w.two)
  unfolding decode
  decode-fill e = rw e

  pub decode-part : w.kind ≡ kind_part → decode f w ≡ whole (leb (label_in w) (most_label f)) (Rule.Part (label_in w) w.two w.three)
  unfolding decode
  decode-part e = rw e

  pub decode-join : w.kind ≡ kind_join → decode f w ≡ whole (eqb w.three 0 && eqb w.high 0) (Rule.Join w.one w.two)
  unfolding decode
  decode-join e = rw e

  pub decode-none : (w.kind ≡ kind_empty → ⊥) → (w.kind ≡ kind_pair → ⊥) → (w.kind ≡ kind_node → ⊥) → (w.kind ≡ kind_fill → ⊥) → (w.kind ≡ kind_part → ⊥) → (w.kind ≡ kind_join → ⊥) → decode f w ≡ None
  unfolding decode
  decode-none a b c d e g = rw (ne_eqb _ _ a, ne_eqb _ _ b, ne_eqb _ _ c, ne_eqb _ _ d, ne_eqb _ _ e, ne_eqb _ _ g)
