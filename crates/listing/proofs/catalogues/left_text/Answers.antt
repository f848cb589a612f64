use Rattle.std.proofs.Common.{rules}
use Rattle.listing.proofs.catalogues.left_text.Goals as goal

pub returns : goal.returns
returns c = rw (← c.room-room.ensures, ← c.first_block-first.ensures) (search rules)
