use Rattle.std.proofs.Common.{◌≡◌, ◌-◌, true, false, Ok, length, ap, ◌∙◌, append-nil, arith}
use Rattle.std.proofs.lemmas.Result.{err_from_is_err_and}
use Rattle.std.specs.List.{concat}
use Rattle.blocks.specs.Devices.{size_of}
use Rattle.entry.specs.Fields.{directory_of}
use Rattle.refusal.specs.declared.Refusal.TheVariants.{BrokenLayout}
use Rattle.listing.specs.Loads.{counted, more}
use Rattle.listing.specs.Walks.{entry_at}
use Rattle.listing.proofs.Loading.{block-long, entry-first, first-joined, refused, volume-broken, volume-ends, volume-on, volume-some, volume-told}
use Rattle.listing.proofs.load.load.Goals as goal

pub returns-then-not-volume_holds : goal.returns-then-not-volume_holds
returns-then-not-volume_holds g c =
    let d = g.D.BlockDevice.meaning c.args.device.now in
    let first = c.in_ok-first.first in
    let volume = c.from_block-volume.ensures ∙ entry-first first (block-long d (g.met.D.BlockDevice.wide c.args.device.now) 1 first c.in_ok-first.ensures) in
    let broken = volume-told d c.size-2.result c.from_block-volume.result.bytes first c.volume_holds.result false c.size-2.ensures volume c.volume_holds.ensures c.if-not-volume_holds.true in
    refused c.into-then-not-volume_holds.result (BrokenLayout 0) _ c.into-then-not-volume_holds.ensures
    (volume-broken d first (omega (arith, c.size.ensures)) c.in_ok-first.ensures broken)

pub returns-in_err-load_more : goal.returns-in_err-load_more
returns-in_err-load_more g c =
    let d = g.D.BlockDevice.meaning c.args.device.now in
    let first = c.in_ok-first.first in
    let volume = c.from_block-volume.ensures ∙ entry-first first (block-long d (g.met.D.BlockDevice.wide c.args.device.now) 1 first c.in_ok-first.ensures) in
    let holds = volume-told d c.size-2.result c.from_block-volume.result.bytes first c.volume_holds.result true c.size-2.ensures volume c.volume_holds.ensures c.if-not-volume_holds.false in
    let count = c.from-count.ensures ∙ c.directory_blocks.ensures ∙ ap directory_of volume in
    let only = first-joined c.push.new.self.items c.in_ok-blocks.blocks.items first c.in_ok-push.ensures.items c.in_ok-blocks.ensures.items in
    let joined = ap concat only ∙ append-nil first in
    let p = err_from_is_err_and c.from_residual-in_err-load_more.result c.from_residual-in_err-load_more.ensures.1 in
    rw (p.1, p.2)
    (volume-ends d first (omega (arith, c.size.ensures)) c.in_ok-first.ensures _ _ _ c.from-count.result holds count joined c.in_err-load_more.ensures.value)

pub returns : goal.returns
returns g c =
    let d = g.D.BlockDevice.meaning c.args.device.now in
    let first = c.in_ok-first.first in
    let volume = c.from_block-volume.ensures ∙ entry-first first (block-long d (g.met.D.BlockDevice.wide c.args.device.now) 1 first c.in_ok-first.ensures) in
    let holds = volume-told d c.size-2.result c.from_block-volume.result.bytes first c.volume_holds.result true c.size-2.ensures volume c.volume_holds.ensures c.if-not-volume_holds.false in
    let count = c.from-count.ensures ∙ c.directory_blocks.ensures ∙ ap directory_of volume in
    let only = first-joined c.push.new.self.items c.in_ok-blocks.blocks.items first c.in_ok-push.ensures.items c.in_ok-blocks.ensures.items in
    let joined = ap concat only ∙ append-nil first in
    let blocks = c.load_more.new.blocks.items in
    let one : length c.push.new.self.items ≡ 1 = ap length only in
    let long : length blocks ≡ c.from-count.result = omega (arith, one, c.in_ok-load_more.ensures.count, count, volume-some (size_of d) (entry_at first 0) holds) in
    ap (λ n. counted n (Ok (concat blocks))) long
    ∙ ap (counted c.from-count.result) (c.in_ok-load_more.ensures.value ∙ ap (more d 2 (c.from-count.result - 1)) joined)
    ∙ volume-on d first (omega (arith, c.size.ensures)) c.in_ok-first.ensures c.from-count.result holds count
