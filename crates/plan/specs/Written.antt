-- What an operation leaves that writes bytes (document 01, "Seal" and "Spread").
use Rattle.std.specs.Prelude.{ℕ, List, Result, Ok, Err}
use Rattle.refusal.specs.declared.Refusal.{Refusal}
use Rattle.words.specs.Front.{in_front}

-- the output at exit: the bytes at its front if accepted. "Refused, it writes nothing."
unfoldable pub output_after : Result ℕ Refusal → List ℕ → List ℕ → List ℕ
unfolding in_front
output_after (Ok n) bs out = in_front bs out
output_after (Err r) bs out = out
