use Rattle.std.proofs.Common.{◌+◌, ◌-◌, length, ◌∙◌, arith}
use Rattle.unit.proofs.Clearing.{bad-on}
use Rattle.unit.proofs.initialising.check_blocks.Goals as goal

pub loop-block-preserved : goal.loop-block-preserved
loop-block-preserved g c =
    let d = g.D.BlockDevice.meaning c.args.device.now in
    let b = c.loop-block.block in (
      bad-on d b (length c.loop-block.work) (c.args.directory + 1 - b) (c.args.directory + 1 - (b + 1)) (omega (arith, c.loop-block-test.true, c.requires.within))
          c.loop-block.invariant.1 (omega (arith, c.loop-block-test.true)) c.in_ok-read.ensures.reply
          ∙ c.loop-block.invariant.0,
      c.read.auto.buffer ∙ c.loop-block.invariant.1,
    )
