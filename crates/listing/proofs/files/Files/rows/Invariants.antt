use Rattle.std.proofs.Common.{◌≡◌, ◌-◌, ◌++◌, string_bytes}
use Rattle.std.specs.List.{concat}
use Rattle.listing.specs.Catalogues.{rows_text}
use Rattle.listing.proofs.files.Files.rows.Given as goal

-- what is written and what is left to write are the whole
abbrev pub invariant-loop-number : goal.invariant-loop-number
invariant-loop-number l =
    string_bytes l.out ++ rows_text (concat l.self.directory.blocks.items) l.number (l.self.left - l.number)
    ≡ rows_text (concat l.self.directory.blocks.items) 3 (l.self.left - 3)
