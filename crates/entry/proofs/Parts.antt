-- A byte of a part of an entry or a block. Assumes nothing.
use Rattle.std.proofs.Common.{◌≡◌, ℕ, ◌+◌, ◌<◌, List, get_or, drop, ◌∙◌}
use Rattle.std.proofs.lemmas.List.{get_or-take, get_or-drop}
use Rattle.parts.specs.Parts.{part}

-- the byte at place i of a part
pub get_or-part : (xs : List ℕ) (at count i : ℕ) → i < count → get_or (part at count xs) i 0 ≡ get_or xs (at + i) 0
get_or-part xs at count i h = get_or-take count (drop at xs) i 0 h ∙ get_or-drop at xs i 0
