-- How a call is left early by `?`. Assumes nothing.
use Rattle.std.proofs.Common.{◌≡◌, Ok, Err, Result, ap}
use Rattle.std.specs.Result.{IsErrAnd}

-- what `?` returns is the refusal that it met
pub met : {T E : Type 0} (r : Result T E) (x : E) → IsErrAnd r (λ y. y ≡ x) → r ≡ Err x
met (Ok t) x h = absurd h
met (Err y) x h = ap Err h
