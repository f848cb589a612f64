-- The law over every list of calls. Assumes nothing.
--   Ran        replies, state and device are those of a model that is fed the same calls
--   Begins     a list begins with an initialise or a take up that is granted
--   RunLaw     the law
--   Composes   a list in two parts is one list
use Rattle.std.specs.Prelude.{◌≡◌, true, false, List, ◌∷◌, ◌++◌}
use Rattle.blocks.specs.Devices.{Device}
use Rattle.directory.specs.Layouts.{Follows}
use Rattle.model.specs.Models.{Model, model_of}
use Rattle.model.specs.Represents.{Represents}
use Rattle.model.specs.Requests.{Reply, Request}
use Rattle.model.specs.Runs.{Origin, Standing, answers, first_origin, is_refused, last_device, last_model, last_origin, opens}
use Rattle.model.specs.declared.state.State.{State}

-- The replies are the model's, in order; state and device represent the model after the list; and the device is what
-- the granted calls made of it.
pub record Ran (m : Model) (d : Device) (requests : List Request) (replies : List Reply) (st : State) (d' : Device) : Type 0 where
  pub replied : replies ≡ answers m requests
  pub represents : Represents (last_model m requests) st d'
  pub device : d' ≡ last_device m d requests

pub record Begins (st : State) (d : Device) (requests : List Request) : Type 0 where
  pub first : Request
  pub rest : List Request
  pub is : requests ≡ first ∷ rest
  pub opening : opens first ≡ true
  pub granted : is_refused (model_of st d) first ≡ false

-- From any unit and device, whatever was up or open: where the list begins with a granted initialise or take up, it
-- runs as the model that begins there; at the end the pack follows the layout, its blocks add up, its rooms lie apart
-- and what is outside them is untouched, counted from the latest granted initialise, or else from the first call.
-- The same from any model that is represented, and from any origin that holds of it.
pub record RunLaw (st : State) (d : Device) (requests : List Request) (replies : List Reply) (st' : State) (d' : Device) : Type 0 where
  pub begun : Begins st d requests → Ran (model_of st d) d requests replies st' d'
  pub follows : Begins st d requests → Follows d'
  pub counted : Begins st d requests → Standing (last_model (model_of st d) requests) d' (last_origin (model_of st d) d (first_origin (model_of st d) d) requests)
  pub from : (m : Model) → Represents m st d → Ran m d requests replies st' d'
  pub stands : (m : Model) → Represents m st d → (o : Origin) → Standing m d o → Standing (last_model m requests) d' (last_origin m d o requests)

pub record Composes : Type 0 where
  pub replies : (m : Model) (one two : List Request) → answers m (one ++ two) ≡ answers m one ++ answers (last_model m one) two
  pub model : (m : Model) (one two : List Request) → last_model m (one ++ two) ≡ last_model (last_model m one) two
  pub device : (m : Model) (d : Device) (one two : List Request) → last_device m d (one ++ two) ≡ last_device (last_model m one) (last_device m d one) two
  pub origin : (m : Model) (d : Device) (o : Origin) (one two : List Request)
      → last_origin m d o (one ++ two) ≡ last_origin (last_model m one) (last_device m d one) (last_origin m d o one) two
