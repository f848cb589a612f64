use Rattle.std.proofs.Common.{◌≡◌, ◌-◌}
use Rattle.directory.specs.Seen.{seen_from}
use Rattle.directory.proofs.seen.Seen.see_block.Given as goal

-- what is left gives what the whole gives
abbrev pub invariant-loop-number : goal.invariant-loop-number
invariant-loop-number l =
    seen_from l.block l.self l.number-iterator.start (l.number-iterator.end - l.number-iterator.start)
    ≡ seen_from l.block l.initial.self l.fn.numbers.start (l.fn.numbers.end - l.fn.numbers.start)
