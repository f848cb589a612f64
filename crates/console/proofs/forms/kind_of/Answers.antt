-- As in `form_of`: found alone, but near the limits of the search.
use Rattle.std.proofs.Common.{codes, arith}
use Rattle.std.proofs.lemmas.Slice.Eq.{text_from_reads}
use Rattle.console.proofs.forms.kind_of.Goals as goal

pub returns-in-whole : goal.returns-in-whole
returns-in-whole c = rw (text_from_reads c.args.word.now (codes "whole") (omega arith) (omega arith, (omega arith, (omega arith, (omega arith, (omega arith, tt))))))
