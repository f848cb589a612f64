-- What a unit can be asked, and what is compared of its answer. Assumes nothing.
--   Request   a call's arguments; of a work block its length, of a buffer what it holds
--   Reply     the number replied, if there is one, or the refusal; and the buffer afterwards
use Rattle.std.specs.Prelude.{ℕ, List, Option, Result}
use Rattle.refusal.specs.declared.Refusal.{Refusal}
use Rattle.model.specs.declared.state.NameKind.{NameKind}

pub data Request : Type 0 where
  -- year, month, day
  set_date : ℕ → ℕ → ℕ → Request
  -- work block, volume name, directory blocks, blocks
  initialise : ℕ → List ℕ → ℕ → ℕ → Request
  -- work block
  take_up : ℕ → Request
  -- work block, kind of name, name, buffer
  find : ℕ → NameKind → List ℕ → List ℕ → Request
  -- work block, entry, buffer
  show : ℕ → ℕ → List ℕ → Request

-- A call without a buffer leaves an empty one.
pub record Reply : Type 0 where
  pub answer : Result (Option ℕ) Refusal
  pub buffer : List ℕ
