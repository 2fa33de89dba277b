-- What a `?` hands on is the refusal that it met. Assumes nothing.
use Rattle.std.proofs.Common.{◌≡◌, ap}
use Rattle.std.specs.Prelude.{Result, Ok, Err, IsErrAnd}
use Rattle.refusal.specs.declared.Refusal.{Refusal}

pub handed-on : {T : Type 0} {why : Refusal} (r : Result T Refusal) → IsErrAnd r (λ x. x ≡ why) → r ≡ Err why
handed-on (Ok x) h = absurd h
handed-on (Err x) h = ap Err h
