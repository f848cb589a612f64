use Rattle.std.proofs.Common.{arith}
use Rattle.std.proofs.lemmas.Bool.Decides.{nat_tests}
use Rattle.console.proofs.Splitting.{none_later}
use Rattle.console.proofs.forms.take_up_of.Goals as goal

pub returns : goal.returns
returns c = let none = none_later c.args.left.now in grind (arith, nat_tests, none, c.then_some.ensures, c.is_empty.ensures)
