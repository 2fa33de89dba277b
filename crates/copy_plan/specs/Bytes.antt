-- Document 02, Note 6: the client's copy as a plan's bytes.
use Rattle.std.specs.Prelude.{ℕ, ◌+◌, ◌*◌, List, map}
use Rattle.record.specs.declared.Format.{Format}
use Rattle.rule.specs.declared.Rule.{Rule}
use Rattle.rule.specs.Rule.{encode}
use Rattle.plan.specs.Check.{trailer_length, plan_bytes}
pub use Rattle.copy_variants.specs.Visible.{most_copied}

-- "output needs 40 × n + 10 bytes": those for each rule, and the trailer's
abbrev pub copy_length : ℕ
copy_length = 40

abbrev pub copy_room : ℕ → ℕ
copy_room n = copy_length * n + trailer_length

-- "a new wide plan without cover", of rules C with start rule top
unfoldable pub copy_bytes : List Rule → ℕ → List ℕ
unfolding plan_bytes encode
copy_bytes C top = plan_bytes Format.Wide (map encode C) top
