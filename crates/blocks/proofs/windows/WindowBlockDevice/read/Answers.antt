use Rattle.std.proofs.Common.{◌≡◌, length, ap, ◌∙◌, rules}
use Rattle.blocks.specs.Layers.{passed_up}
use Rattle.blocks.specs.Through.{window-read}
use Rattle.blocks.proofs.windows.WindowBlockDevice.read.Goals as goal

pub returns : goal.returns
returns g c =
    let x = c.args.self.now in
    let low = g.D.BlockDevice.meaning x.inner in
    let found = c.in_ok-below.ensures in
    let through = window-read low x.first x.count c.args.block (length c.args.buffer.now) _ found.1 found.0 in
    let up : c.map_err.result ≡ passed_up c.read.result = search rules in
    record {
      reply = up ∙ ap passed_up c.read.ensures.reply ∙ through.0;
      filled = c.read.ensures.filled ∙ through.1 c.args.buffer.now;
    }
