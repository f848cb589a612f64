-- What a call and a reply, as values, are to the model. Assumes nothing.
use Rattle.std.specs.Prelude.{length, vec_items}
use Rattle.model.specs.Requests as model
use Rattle.requests.specs.declared.values.Reply.{Reply}
use Rattle.requests.specs.declared.values.Request.{Request}
use Rattle.requests.specs.declared.values.Request.TheVariants.{SetDate, Initialise, TakeUp, Find, Show}

abbrev pub meant : Request → model.Request
meant (SetDate year month day) = model.set_date year month day
meant (Initialise name directory blocks work) = model.initialise (length (vec_items work)) (vec_items name) directory blocks
meant (TakeUp work) = model.take_up (length (vec_items work))
meant (Find kind name buffer work) = model.find (length (vec_items work)) kind (vec_items name) (vec_items buffer)
meant (Show entry buffer work) = model.show (length (vec_items work)) entry (vec_items buffer)

abbrev pub told : Reply → model.Reply
told reply = record { answer = reply.answer; buffer = vec_items reply.buffer }
