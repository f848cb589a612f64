use Rattle.std.proofs.Common.{rules, length, sym}
use Rattle.unit.proofs.Asking.{left-file, left-front, left-work, show-asks, shown}
use Rattle.unit.proofs.units.PackUnit.show.Goals as goal

pub returns-in_err-work-clause-turn : goal.returns-in_err-work-clause-turn
returns-in_err-work-clause-turn g c =
    left-work (show-asks c.args.self.now.state (g.D.BlockDevice.meaning c.args.self.now.device) (g.met.D.BlockDevice.wide c.args.self.now.device) (length c.args.work.now) c.args.buffer.now c.args.entry)
    c.from_residual.result c.as_mut_array.ensures.variant.1 c.in_err-work.ensures.ok_part c.in_err-work.ensures.value c.from_residual.ensures.1

pub returns-in_err-front-clause-turn : goal.returns-in_err-front-clause-turn
returns-in_err-front-clause-turn g c =
    left-front (show-asks c.args.self.now.state (g.D.BlockDevice.meaning c.args.self.now.device) (g.met.D.BlockDevice.wide c.args.self.now.device) (length c.args.work.now) c.args.buffer.now c.args.entry)
    c.from_residual-in_err-front.result (c.as_mut_array.ensures.variant.0 (sym c.in_ok-work.ensures.variant))
    c.first_chunk_mut.ensures.variant.1 c.in_err-front.ensures.ok_part c.in_err-front.ensures.value c.from_residual-in_err-front.ensures.1

pub returns-in_err-file-clause-turn : goal.returns-in_err-file-clause-turn
returns-in_err-file-clause-turn g c =
    left-file (show-asks c.args.self.now.state (g.D.BlockDevice.meaning c.args.self.now.device) (g.met.D.BlockDevice.wide c.args.self.now.device) (length c.args.work.now) c.args.buffer.now c.args.entry)
    c.from_residual-in_err-file.result c.in_ok-front.front.now (c.as_mut_array.ensures.variant.0 (sym c.in_ok-work.ensures.variant))
    (c.first_chunk_mut.ensures.variant.0 (sym c.in_ok-front.ensures.variant)) (search rules) c.in_err-file.ensures c.from_residual-in_err-file.ensures.1

pub returns-clause-turn : goal.returns-clause-turn
returns-clause-turn g c =
    rw c.put_front.ensures.number (shown (show-asks c.args.self.now.state (g.D.BlockDevice.meaning c.args.self.now.device) (g.met.D.BlockDevice.wide c.args.self.now.device) (length c.args.work.now) c.args.buffer.now c.args.entry)
    c.in_ok-file.file _ (c.as_mut_array.ensures.variant.0 (sym c.in_ok-work.ensures.variant))
    (c.first_chunk_mut.ensures.variant.0 (sym c.in_ok-front.ensures.variant)) c.put_front.ensures.front c.in_ok-file.ensures)
