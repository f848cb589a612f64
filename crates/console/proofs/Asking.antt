-- What is expected of a line that says nothing. Assumes nothing.
use Rattle.std.proofs.Common.{◌≡◌, ℕ, List, [], ◌∷◌, Some, None, Err, Option}
use Rattle.console.specs.Fields.{at}
use Rattle.console.specs.Forms.{Asked, asked, form_of, in_form, or_expected}
use Rattle.console.specs.declared.forms.Expected.{Expected}

expected-or : (first form : Expected) (what : Option Asked) → Err form ≡ or_expected first what → form ≡ first
expected-or first form None e = cc
expected-or first form (Some what) e = cc

-- it is the form of the line's first word
pub expected_by : (given : List (List ℕ)) (form : Expected) → Err form ≡ asked given → form ≡ form_of (at 0 given)
expected_by [] form e = cc
expected_by (word ∷ given) form e = expected-or (form_of word) form (in_form (form_of word) given) e
