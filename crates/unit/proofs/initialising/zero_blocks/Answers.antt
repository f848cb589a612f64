use Rattle.std.proofs.Common.{◌≡◌, ℕ, suc, ◌+◌, ◌-◌, List, replicate, None, ap, ◌∙◌, arith}
use Rattle.blocks.specs.Devices.{Device, written}
use Rattle.model.specs.Steps.{first_bad}
use Rattle.unit.specs.Calls.{cleared}
use Rattle.unit.proofs.Clearing.{can_write, clear-on, same-marks}
use Rattle.unit.proofs.initialising.zero_blocks.Goals as goal

pub write_block-requires : goal.write_block-requires
write_block-requires g c =
    let d = g.D.BlockDevice.meaning c.loop-block.device in
    let old = g.D.BlockDevice.meaning c.args.device.now in
    let dir = c.args.directory in
    let b = c.loop-block.block in
    let same = same-marks d old 2 b (dir + 1 - b) (dir - 1) c.loop-block.invariant in
    can_write d dir b (same.1 ∙ c.requires.off) (omega (arith, same.2, c.requires.within))
    (ap (λ marks. first_bad marks 1 dir) same.0 ∙ c.requires.sound) (omega (arith, c.loop-block.auto.block)) (omega (arith, c.loop-block-test.true, c.from-block-end.ensures))

-- a block of zeros on, where `m` are left: what is left makes what the whole makes
one-on : (d old : Device) (b directory m : ℕ) {d' : Device} {len : ℕ} {zeros : List ℕ} → directory + 1 - b ≡ suc m → zeros ≡ replicate len 0 → len ≡ 1024 → d' ≡ written None d b zeros
    → cleared d b (directory + 1 - b) ≡ cleared old 2 (directory - 1) → cleared d' (b + 1) m ≡ cleared old 2 (directory - 1)
one-on d old b directory m {d' = d'} {zeros = zeros} more filled full made sofar =
    clear-on d d' b (directory + 1 - b) m zeros more (filled ∙ ap (λ n. replicate n 0) full) made ∙ sofar

pub loop-block-preserved : goal.loop-block-preserved
loop-block-preserved g c =
    let b = c.loop-block.block in
    let dir = c.args.directory in
    one-on (g.D.BlockDevice.meaning c.loop-block.device) (g.D.BlockDevice.meaning c.args.device.now) b dir (dir + 1 - (b + 1)) (omega (arith, c.loop-block-test.true, c.from-block-end.ensures))
    (c.fill.ensures.after (λ y h. h)) c.told-work c.write_block.ensures c.loop-block.invariant

pub returns-2 : goal.returns-2
returns-2 g c =
    one-on (g.D.BlockDevice.meaning c.loop-block.device) (g.D.BlockDevice.meaning c.args.device.now) c.loop-block.block c.args.directory 0 (omega (arith, c.loop-block-test.true, c.from-block-end.ensures))
    (c.fill.ensures.after (λ y h. h)) c.told-work c.write_block.ensures c.loop-block.invariant
