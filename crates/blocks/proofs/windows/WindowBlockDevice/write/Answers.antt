use Rattle.std.proofs.Common.{◌≡◌, length, ap, ◌∙◌, rules}
use Rattle.blocks.specs.Layers.{passed_up, windowed}
use Rattle.blocks.specs.Through.{window-write}
use Rattle.blocks.proofs.windows.WindowBlockDevice.write.Goals as goal

pub returns : goal.returns
returns g c =
    let x = c.args.self.now in
    let low = g.D.BlockDevice.meaning x.inner in
    let found = c.in_ok-below.ensures in
    let through = window-write low x.first x.count c.args.block (length c.args.buffer.now) _ c.args.buffer.now found.1 found.0 in
    let up : c.map_err.result ≡ passed_up c.write.result = search rules in
    record {
      reply = up ∙ ap passed_up c.write.ensures.reply ∙ through.0;
      after = ap (windowed x.first x.count) c.write.ensures.after ∙ through.1;
    }
