use Rattle.std.proofs.Common.{◌≡◌, ◌+◌, ◌-◌, ◌≤◌}
use Rattle.std.specs.List.{concat}
use Rattle.listing.specs.Catalogues.{count_that}
use Rattle.listing.specs.Walks.{is_deleted}
use Rattle.listing.proofs.files.Files.count_deleted.Given as goal

-- what is counted and what is left to count are the whole
abbrev pub invariant-loop-number : goal.invariant-loop-number
invariant-loop-number l =
    (l.count + count_that is_deleted (concat l.self.directory.blocks.items) l.number (l.self.left - l.number)
    ≡ count_that is_deleted (concat l.self.directory.blocks.items) 3 (l.self.left - 3))
    × (l.count ≤ l.number)
