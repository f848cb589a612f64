use Rattle.std.proofs.Common.{decimal, arith}
use Rattle.std.proofs.lemmas.Fmt.{IsAscii-decimal}
use Rattle.lines.proofs.Padding.{text-ascii}
use Rattle.lines.proofs.files.length_text.Goals as goal

pub returns-in-Some-clause-ascii : goal.returns-in-Some-clause-ascii
returns-in-Some-clause-ascii c = text-ascii c.format.result (decimal c.in-Some.length) (IsAscii-decimal c.in-Some.length (omega arith)) c.format.ensures.ok
