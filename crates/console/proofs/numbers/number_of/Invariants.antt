use Rattle.std.proofs.Common.{◌≡◌, drop, Some}
use Rattle.console.specs.Numbers.{number_of, with_digits}
use Rattle.console.proofs.numbers.number_of.Given as goal

-- what is left gives what the whole gives
abbrev pub invariant-loop-digit : goal.invariant-loop-digit
invariant-loop-digit l = with_digits (Some l.number) (drop l.digit-index l.field) ≡ number_of l.field
