use Rattle.std.proofs.Common.{◌≡◌, suc, ◌+◌, ◌-◌, [], ◌∷◌, length, sym, ap, ◌∙◌, subst, arith}
use Rattle.std.proofs.lemmas.List.{length-append}
use Rattle.std.proofs.lemmas.List.Elements.{All-push}
use Rattle.std.proofs.lemmas.Result.{err_from_is_err_and}
use Rattle.std.specs.List.{All, concat}
use Rattle.listing.specs.Loads.{more}
use Rattle.listing.proofs.Joining.{IsBlock, joined-push}
use Rattle.listing.proofs.Loading.{block-long, more-ends, more-on}
use Rattle.listing.proofs.load.load_more.Goals as goal

pub returns-in_err-read_block-clause-value : goal.returns-in_err-read_block-clause-value
returns-in_err-read_block-clause-value g c =
    let p = err_from_is_err_and c.from_residual.result c.from_residual.ensures.1 in
    let left : c.args.count + 1 - c.loop-block.block ≡ suc (c.args.count - c.loop-block.block) = omega arith in
    rw (p.1, p.2)
    (more-ends (g.D.BlockDevice.meaning c.args.device.now) c.loop-block.block (concat c.loop-block.blocks.items) _
    (c.args.count + 1 - c.loop-block.block) (c.args.count - c.loop-block.block) left c.in_err-read_block.ensures ∙ c.loop-block.invariant.rest)

pub loop-block-preserved : goal.loop-block-preserved
loop-block-preserved g c =
    let d = g.D.BlockDevice.meaning c.args.device.now in
    let at = c.loop-block.block in
    let xs = c.loop-block.blocks.items in
    let block = c.in_ok-read_block.field-0 in
    let rest = c.args.count + 1 - (at + 1) in
    let left : c.args.count + 1 - at ≡ suc rest = omega arith in
    record {
      rest =
          ap (more d (at + 1) rest) (ap concat c.in_ok-push.ensures.items ∙ joined-push xs block)
          ∙ more-on d at (concat xs) block (c.args.count + 1 - at) rest left c.in_ok-read_block.ensures ∙ c.loop-block.invariant.rest;
      read = omega (arith, ap length c.in_ok-push.ensures.items, length-append xs (block ∷ []), c.loop-block.invariant.read);
      whole =
          subst (All IsBlock) (sym c.in_ok-push.ensures.items)
          (All-push IsBlock xs block c.loop-block.invariant.whole (block-long d (g.met.D.BlockDevice.wide c.args.device.now) at block c.in_ok-read_block.ensures));
    }
