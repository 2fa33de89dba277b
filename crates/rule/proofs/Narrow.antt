-- A narrow plan means what it meant before wide ones came: its records have no fifth word, and what they mean is document 01's table.
-- Assumes nothing.
use Rattle.std.specs.Prelude.{Option, None}
use Prim.Native.Nat.{ℕ, ◌+◌, ◌*◌}
use mathlib.Core.Bool.{cond, ◌&&◌, and-true}
use mathlib.Core.List.{List}
use mathlib.Core.Path.{◌≡◌, refl}
use native.Mathlib.Nat.{add-zero, mul-zero}
use lib.Dec.{leb, eqb}
use Rattle.words.specs.Number.{number}
use Rattle.record.specs.declared.Format.{Format}
use Rattle.record.specs.declared.Record.{Record}
use Rattle.record.specs.Format.{high_length, most_label}
use Rattle.record.specs.Record.{record_at}
use Rattle.rule.specs.declared.Rule.{Rule}
use Rattle.rule.specs.Rule.{label_in, kind_empty, kind_pair, kind_node, kind_fill, kind_part, kind_join, whole, decode}

-- "Words 1, 2, 3" of each kind, "unused words are 0. A label is 0 to 255."
pub decode_before : Record → Option Rule
decode_before w =
    cond (eqb w.kind kind_empty) (whole (eqb w.one 0 && eqb w.two 0 && eqb w.three 0) Rule.Empty)
    (cond (eqb w.kind kind_pair) (whole (eqb w.three 0) (Rule.Pair w.one w.two))
    (cond (eqb w.kind kind_node) (whole (leb w.one 255 && eqb w.three 0) (Rule.Node w.one w.two))
    (cond (eqb w.kind kind_fill) (whole (eqb w.three 0) (Rule.Fill w.one w.two))
    (cond (eqb w.kind kind_part) (whole (leb w.one 255) (Rule.Part w.one w.two w.three))
    (cond (eqb w.kind kind_join) (whole (eqb w.three 0) (Rule.Join w.one w.two))
    None)))))

pub narrow-as-before : (s : List ℕ) (at : ℕ) → decode Format.Narrow (record_at Format.Narrow s at) ≡ decode_before (record_at Format.Narrow s at)
unfolding decode decode_before label_in most_label record_at high_length number
narrow-as-before s at = simp (and-true, mul-zero, add-zero)
