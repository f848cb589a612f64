use Rattle.std.proofs.Common.{ℕ, ◌≤◌, ◌<◌, false}
use Rattle.std.specs.Fn.{FnReturnsAt}
use Rattle.std.specs.List.{concat}
use Rattle.listing.specs.Walks.{entry_at, entry_of}
use Rattle.listing.proofs.directory.Directory.first.Given as goal

-- no entry before this one passes
abbrev pub invariant-loop-number : goal.invariant-loop-number
invariant-loop-number g l =
    (k : ℕ) → k < l.number → l.from ≤ k → FnReturnsAt g.F.Fn l.test (entry_of (entry_at (concat l.self.blocks.items) k)) false
