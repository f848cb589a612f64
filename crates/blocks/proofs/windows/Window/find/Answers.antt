use Rattle.std.proofs.Common.{ap, ◌+◌}
use Rattle.blocks.specs.Layers.{windowed}
use Rattle.blocks.specs.Ranges.{passed-range}
use Rattle.blocks.proofs.windows.Window.find.Goals as goal

pub returns : goal.returns
returns g c =
    let x = c.args.self.now in
    let within = passed-range (windowed x.first x.count (g.D.BlockDevice.meaning x.inner)) c.args.block c.span-first.result.1 c.args.len c.span-first.ensures.size c.in_ok-check_range.ensures in
    (within, ap (λ first. first + c.args.block) c.span-first.ensures.first)
