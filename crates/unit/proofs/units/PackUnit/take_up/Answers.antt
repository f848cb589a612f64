use Rattle.std.proofs.Common.{rules, ◌≡◌, false, true, sym, List, length, Some, None, Ok, Err, Option, refl, ap, ◌∙◌}
use Rattle.std.specs.Option.{ok_or}
use Rattle.refusal.specs.declared.Refusal.TheVariants.{OutOfRange}
use Rattle.directory.specs.Judgements.{judged}
use Rattle.model.specs.declared.state.OpenFile.{OpenFile}
use Rattle.unit.specs.Calls.{done}
use Rattle.unit.proofs.Changing.{not_taken, taken-up}
use Rattle.unit.proofs.Exits.{met}
use Rattle.unit.proofs.units.PackUnit.take_up.Goals as goal

pub returns-in_err-work : goal.returns-in_err-work
returns-in_err-work g c =
    let d = g.D.BlockDevice.meaning c.args.self.now.device in
    let work = length c.args.work.now in
    let other : work ≡ 1024 → ⊥ = λ q. let never : false ≡ true = c.in_err-work.ensures.variant ∙ c.as_mut_array.ensures.variant.1 q in cc in
    let is : c.in_err-work.field-0.0 ≡ OutOfRange = (let h = c.in_err-work.ensures.value ∙ ap (λ o. ok_or o OutOfRange) c.in_err-work.ensures.ok_part in cc) in
    let up = not_taken c.args.self.now.state d (g.met.D.BlockDevice.wide c.args.self.now.device) work other (done c.from_residual.result)
    (ap done (met c.from_residual.result _ c.from_residual.ensures.1 ∙ ap Err is)) in
    record { decided = up.decided; turn = up.turn; state = up.state; device = refl; work = refl }

pub returns-in_err-pack : goal.returns-in_err-pack
returns-in_err-pack g c =
    let d = g.D.BlockDevice.meaning c.args.self.now.device in
    let st = c.args.self.now.state in
    let work = length c.args.work.now in
    let full : work ≡ 1024 = c.as_mut_array.ensures.variant.0 (sym c.in_ok-work.ensures.variant) in
    let long : length c.in_ok-work.work.now ≡ 1024 = search rules in
    let left = c.from_residual-in_err-pack.result in
    let up = taken-up st d (g.met.D.BlockDevice.wide c.args.self.now.device) work full (Err c.in_err-pack.field-0.0) (done left) (record { pack = None; date = st.date; table = c.free-self.result })
    (c.in_err-pack.ensures.reply ∙ ap (judged d) long) (ap done (met left _ c.from_residual-in_err-pack.ensures.1))
    (ap (λ (records : List (Option OpenFile)). record { pack = None; date = st.date; table = record { records = records } }) c.free-self.ensures) in
    record { decided = up.decided; turn = up.turn; state = up.state; device = refl; work = c.judge.ensures.work ∙ long ∙ sym full }

pub returns : goal.returns
returns g c =
    let d = g.D.BlockDevice.meaning c.args.self.now.device in
    let st = c.args.self.now.state in
    let work = length c.args.work.now in
    let full : work ≡ 1024 = c.as_mut_array.ensures.variant.0 (sym c.in_ok-work.ensures.variant) in
    let long : length c.in_ok-work.work.now ≡ 1024 = search rules in
    let pack = c.in_ok-pack.pack in
    let up = taken-up st d (g.met.D.BlockDevice.wide c.args.self.now.device) work full (Ok pack) (done (Ok tt)) (record { pack = Some pack; date = st.date; table = c.free-self.result })
    (c.in_ok-pack.ensures.reply ∙ ap (judged d) long) refl
    (ap (λ (records : List (Option OpenFile)). record { pack = Some pack; date = st.date; table = record { records = records } }) c.free-self.ensures) in
    record { decided = up.decided; turn = up.turn; state = up.state; device = refl; work = c.judge.ensures.work ∙ long ∙ sym full }
