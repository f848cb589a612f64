use Rattle.std.proofs.Common.{Err, true, false, ◌≡◌, ◌-◌, length, None, sym, ap, ◌∙◌}
use Rattle.std.specs.Option.{ok_or, option_map}
use Rattle.refusal.specs.declared.Refusal.TheVariants.{OutOfRange}
use Rattle.model.specs.Models.{stamp_of_date}
use Rattle.unit.specs.Calls.{done, cleared, refusal_on}
use Rattle.model.proofs.Stages.{facts}
use Rattle.unit.proofs.Exits.{met}
use Rattle.unit.proofs.Making.{unfit, refused-decided, refused-turn, device-is, initialise-decided, initialise-turn, state-is, write-first}
use Rattle.unit.proofs.units.PackUnit.initialise.Goals as goal

pub returns-in_err-work-clause-turn : goal.returns-in_err-work-clause-turn
returns-in_err-work-clause-turn g c =
    let d = g.D.BlockDevice.meaning c.args.self.now.device in
    let other : length c.args.work.now ≡ 1024 → ⊥ = λ q. let never : false ≡ true = c.in_err-work.ensures.variant ∙ c.as_mut_array.ensures.variant.1 q in cc in
    let is : c.in_err-work.field-0.0 ≡ OutOfRange = (let h = c.in_err-work.ensures.value ∙ ap (λ o. ok_or o OutOfRange) c.in_err-work.ensures.ok_part in cc) in
    refused-turn c.args.self.now.state d (g.met.D.BlockDevice.wide c.args.self.now.device) (length c.args.work.now) c.args.name.now c.args.directory c.args.blocks OutOfRange
    (unfit d (length c.args.work.now) c.args.name.now c.args.directory c.args.blocks other) _ (ap done (met c.from_residual.result _ c.from_residual.ensures.1 ∙ ap Err is))

pub returns-in_err-shape-clause-decided : goal.returns-in_err-shape-clause-decided
returns-in_err-shape-clause-decided g c =
    let d = g.D.BlockDevice.meaning c.args.self.now.device in
    let full : length c.args.work.now ≡ 1024 = c.as_mut_array.ensures.variant.0 (sym c.in_ok-work.ensures.variant) in
    refused-decided c.args.self.now.state d (g.met.D.BlockDevice.wide c.args.self.now.device) (length c.args.work.now) c.args.name.now c.args.directory c.args.blocks c.in_err-shape.field-0.0
    (ap (λ n. refusal_on d n c.args.name.now c.args.directory c.args.blocks) full ∙ c.in_err-shape.ensures) _ (ap done (met c.from_residual-in_err-shape.result _ c.from_residual-in_err-shape.ensures.1))

pub returns-in_err-shape-clause-turn : goal.returns-in_err-shape-clause-turn
returns-in_err-shape-clause-turn g c =
    let d = g.D.BlockDevice.meaning c.args.self.now.device in
    let full : length c.args.work.now ≡ 1024 = c.as_mut_array.ensures.variant.0 (sym c.in_ok-work.ensures.variant) in
    refused-turn c.args.self.now.state d (g.met.D.BlockDevice.wide c.args.self.now.device) (length c.args.work.now) c.args.name.now c.args.directory c.args.blocks c.in_err-shape.field-0.0
    (ap (λ n. refusal_on d n c.args.name.now c.args.directory c.args.blocks) full ∙ c.in_err-shape.ensures) _ (ap done (met c.from_residual-in_err-shape.result _ c.from_residual-in_err-shape.ensures.1))

pub write_block-requires : goal.write_block-requires
write_block-requires g c =
    let d = g.D.BlockDevice.meaning c.args.self.now.device in
    let a = c.in_ok-shape.ensures in
    write-first d (g.D.BlockDevice.meaning c.zero_blocks.new.device) 1024 c.args.directory c.args.blocks c.args.name.now
    (facts c.args.self.now.state d 1024 c.args.name.now c.args.directory c.args.blocks a.none) (c.zero_blocks.ensures ∙ ap (λ k. cleared d 2 (k - 1)) a.counted)

pub returns : goal.returns
returns g c =
    let d = g.D.BlockDevice.meaning c.args.self.now.device in
    let st = c.args.self.now.state in
    let work = length c.args.work.now in
    let name = c.args.name.now in
    let shape = c.in_ok-shape.shape in
    let a = c.in_ok-shape.ensures in
    let small = (g.met.D.BlockDevice.sized c.args.self.now.device).1 in
    let full : work ≡ 1024 = c.as_mut_array.ensures.variant.0 (sym c.in_ok-work.ensures.variant) in
    let none : refusal_on d work name c.args.directory c.args.blocks ≡ None = ap (λ n. refusal_on d n name c.args.directory c.args.blocks) full ∙ a.none in
    let state = state-is st c.pack.result shape.directory shape.blocks c.args.directory c.args.blocks c.free-self.result.records c.pack.ensures a.counted a.sized c.free-self.ensures in
    let device = device-is d (g.D.BlockDevice.meaning c.zero_blocks.new.device) (g.D.BlockDevice.meaning c.write_block.new.device) name shape.name.field
    c.fill_first.new.work shape.directory shape.blocks c.args.directory c.args.blocks (option_map stamp_of_date st.date) c.zero_blocks.ensures a.counted a.sized
    a.field c.fill_first.ensures c.write_block.ensures in
    record {
      decided = initialise-decided st d work name c.args.directory c.args.blocks none small _ _ state device;
      turn = initialise-turn st d work name c.args.directory c.args.blocks none small _ _ state device;
      after = (state, device);
      work = c.fill_first.array_long ∙ sym full;
    }
