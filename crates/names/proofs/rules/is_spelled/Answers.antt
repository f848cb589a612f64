use Rattle.std.proofs.Common.{arith, rules, tests}
use Rattle.std.proofs.lemmas.Iterator.{YieldsList-from_slice}
use Rattle.std.proofs.lemmas.Iterator.Search.{all_from_yields_List}
use Rattle.std.proofs.lemmas.Bool.Decides.{nat_tests}
use Rattle.names.specs.Names.{printable}
use Rattle.names.proofs.rules.is_spelled.Goals as goal

pub returns-then-contains : goal.returns-then-contains
returns-then-contains c =
    let all = all_from_yields_List printable _ _ c.all.result c.all.ensures.ran (YieldsList-from_slice c.args.name.now c.iter.ensures.rest) (λ x b q k. search (rules, tests)) in
    grind (arith, nat_tests)
