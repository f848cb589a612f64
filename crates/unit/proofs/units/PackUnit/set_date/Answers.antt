use Rattle.std.proofs.Common.{sym, subst}
use Rattle.model.specs.Represents.{Turns}
use Rattle.model.specs.Requests.{set_date}
use Rattle.unit.specs.Calls.{done}
use Rattle.unit.proofs.Changing.{dated-turn, undated-turn}
use Rattle.unit.proofs.Exits.{met}
use Rattle.unit.proofs.units.PackUnit.set_date.Goals as goal

pub returns-in_err-date-clause-turn : goal.returns-in_err-date-clause-turn
returns-in_err-date-clause-turn g c =
    let d = g.D.BlockDevice.meaning c.args.self.now.device in
    let st = c.args.self.now.state in
    let told = c.in_err-date.ensures in
    let left = met c.from_residual.result _ c.from_residual.ensures.1 in
    subst (λ r. Turns st d (set_date c.args.year c.args.month c.args.day) (done r) st d) (sym left)
    (undated-turn st d (g.met.D.BlockDevice.wide c.args.self.now.device) c.args.year c.args.month c.args.day c.in_err-date.field-0.0 told.0 told.1)

pub returns-clause-turn : goal.returns-clause-turn
returns-clause-turn g c =
    let d = g.D.BlockDevice.meaning c.args.self.now.device in
    let st = c.args.self.now.state in
    let told = c.in_ok-date.ensures in
    dated-turn st d (g.met.D.BlockDevice.wide c.args.self.now.device) c.args.year c.args.month c.args.day c.in_ok-date.date told.0 told.1 told.2 told.3
