-- Each word is read back from its bytes. The check finds this alone, but near the limits of its search.
use Rattle.std.proofs.Common.{codes, arith}
use Rattle.std.proofs.lemmas.Slice.Eq.{text_from_reads}
use Rattle.console.proofs.forms.form_of.Goals as goal

pub returns-in-date : goal.returns-in-date
returns-in-date c = rw (text_from_reads c.args.word.now (codes "date") (omega arith) (omega arith, (omega arith, (omega arith, (omega arith, tt)))))

pub returns-in-init : goal.returns-in-init
returns-in-init c = rw (text_from_reads c.args.word.now (codes "init") (omega arith) (omega arith, (omega arith, (omega arith, (omega arith, tt)))))

pub returns-in-takeup : goal.returns-in-takeup
returns-in-takeup c = rw (text_from_reads c.args.word.now (codes "takeup") (omega arith) (omega arith, (omega arith, (omega arith, (omega arith, (omega arith, (omega arith, tt)))))))

pub returns-in-find : goal.returns-in-find
returns-in-find c = rw (text_from_reads c.args.word.now (codes "find") (omega arith) (omega arith, (omega arith, (omega arith, (omega arith, tt)))))

pub returns-in-show : goal.returns-in-show
returns-in-show c = rw (text_from_reads c.args.word.now (codes "show") (omega arith) (omega arith, (omega arith, (omega arith, (omega arith, tt)))))

pub returns-in-work : goal.returns-in-work
returns-in-work c = rw (text_from_reads c.args.word.now (codes "work") (omega arith) (omega arith, (omega arith, (omega arith, (omega arith, tt)))))
