-- What one call, as a value, does to a unit. Assumes nothing.
--   Performed   what is promised of it
use Rattle.std.specs.Prelude.{◌≡◌, true}
use Rattle.blocks.specs.Devices.{Device}
use Rattle.model.specs.Models.{model_of}
use Rattle.model.specs.Represents.{Decided, Turns}
use Rattle.model.specs.Requests.{Reply, Request}
use Rattle.model.specs.Runs.{device_after, opens}
use Rattle.model.specs.declared.state.State.{State}

pub record Performed (st : State) (d : Device) (request : Request) (reply : Reply) (st' : State) (d' : Device) : Type 0 where
  pub turn : Turns st d request reply st' d'
  pub decided : opens request ≡ true → Decided st d request reply st' d'
  pub device : d' ≡ device_after (model_of st d) d request
