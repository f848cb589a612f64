use Rattle.std.proofs.Common.{◌≡◌, [], arith, rules}
use Rattle.std.proofs.lemmas.List.{nil_from_length}
use Rattle.console.proofs.replies.done_line.Goals as goal

pub returns-in-Some-empty : goal.returns-in-Some-empty
returns-in-Some-empty c =
    let none : c.args.buffer.now ≡ [] = nil_from_length c.args.buffer.now (omega arith) in
    rw (none, c.in-Some-empty.is-0) (search rules)
