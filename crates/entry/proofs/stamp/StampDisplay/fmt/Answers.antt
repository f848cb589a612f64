use Rattle.std.proofs.Common.{◌++◌, codes, decimal, subst, refl, arith}
use Rattle.std.specs.Fmt.{HasWritten}
use Rattle.entry.proofs.Digits.{two-digits}
use Rattle.entry.proofs.stamp.StampDisplay.fmt.Goals as goal

pub returns-clause-writes : goal.returns-clause-writes
returns-clause-writes g c plain ok =
    let stamp = c.args.self.now in
    let month = two-digits stamp.month stamp.month _ c.laid_out.ensures (omega arith) refl in
    let day = two-digits stamp.day stamp.day _ c.laid_out-2.ensures (omega arith) refl in
    subst (λ text. HasWritten {W = g.row.W.Denot} g.W.Write.write_str_gives c.args.f.now text c.write.new.self)
    (λ i. decimal stamp.year ++ (codes "-" ++ (month i ++ (codes "-" ++ day i)))) (c.write.ensures.writes plain ok)
