use Rattle.std.proofs.Common.{◌≡◌, true, false, Err, ◌-◌, ◌*◌, ◌<◌, length, max, sym, ap, ◌∙◌, subst, arith}
use Rattle.std.proofs.lemmas.Option.{MatchOption-at_some}
use Rattle.std.proofs.lemmas.Result.{err_from_is_err_and}
use Rattle.std.specs.Array.{IsWholeChunk}
use Rattle.std.specs.Option.{ok_or}
use Rattle.refusal.specs.declared.Refusal.TheVariants.{OutOfRange as Refused}
use Rattle.blocks.specs.declared.faults.Fault.TheVariants.{OutOfRange}
use Rattle.blocks.specs.Devices.{read_fault}
use Rattle.directory.proofs.Carrying.{IsRead, entry-read, held, no-block, passed-on, refused}
use Rattle.directory.proofs.Matching.{Ahead, at-blocks-left, at-fault, at_last, at-match, past, lookup-law}
use Rattle.directory.proofs.lookups.lookup.Given.{Over}
use Rattle.directory.proofs.lookups.lookup.Goals.{After-from_block-entry, After-read}
use Rattle.directory.proofs.lookups.lookup.Goals as goal

-- the block in hand is as long as the work block
as_long : (g : Over) (c : After-read g) → length c.in_ok-held.held.now ≡ length c.args.work.now
as_long g c =
    let whole : IsWholeChunk c.loop-block.work c.in_ok-held.held.now 1024 = MatchOption-at_some _ _ c.in_ok-held.held c.in_ok-held.ensures.ok_part c.as_mut_array.ensures.cases in
    ap length whole.same ∙ c.loop-block.auto.work

within : (g : Over) (c : After-from_block-entry g) → c.loop-number.number < 39 * c.args.directory
within g c = omega (arith, c.loop-number-test.true, c.loop-block-test.true, c.from-block-end.ensures)

-- the entry in hand is the directory's
in-hand : (g : Over) (c : After-from_block-entry g) → length c.in_ok-held.held.now ≡ length c.args.work.now
    → IsRead (g.D.BlockDevice.meaning c.args.device.now) c.loop-number.number (length c.args.work.now) c.from_block-entry.result.bytes
in-hand g c long =
    let d = g.D.BlockDevice.meaning c.args.device.now in
    let before = c.in_ok-held.held.now in
    let after = c.read.new.buffer in
    let b = c.loop-block.block in
    let h = held d b before after c.in_ok-read.field-0 (g.met.D.BlockDevice.wide c.args.device.now) c.in_ok-read.ensures.reply c.in_ok-read.ensures.filled in
    entry-read d c.loop-number.number b (length c.args.work.now) before after c.from_block-entry.result.bytes
    (omega (arith, c.loop-number-test.true, c.loop-number.auto.number, c.max-first.ensures, c.loop-block.auto.block)) h long
    c.from_block-entry.ensures

pub returns-in_err-held : goal.returns-in_err-held
returns-in_err-held g c =
    let d = g.D.BlockDevice.meaning c.args.device.now in
    let fits = g.K.Key.meaning c.args.key.now in
    let len = length c.args.work.now in
    let b = c.loop-block.block in
    let exit = err_from_is_err_and c.from_residual.result c.from_residual.ensures.1 in
    let other : length c.loop-block.work ≡ 1024 → ⊥ = λ q. let never : false ≡ true = c.in_err-held.ensures.variant ∙ c.as_mut_array.ensures.variant.1 q in cc in
    let is : c.in_err-held.field-0.0 ≡ Refused = (let h = c.in_err-held.ensures.value ∙ ap (λ o. ok_or o Refused) c.in_err-held.ensures.ok_part in cc) in
    let reply = exit.1 ∙ ap Err (exit.2 ∙ is)
    ∙ at-fault fits d c.args.directory len (max (39 * (b - 1)) 3) c.loop-block.invariant (omega (arith, c.loop-block-test.true, c.from-block-end.ensures, c.loop-block.auto.block))
    (OutOfRange b) b (omega (arith, c.loop-block.auto.block)) (no-block d b len (λ q. other (c.loop-block.auto.work ∙ q))) in
    record { reply = reply; law = lookup-law fits d c.args.directory len _ reply; work = c.loop-block.auto.work }

pub returns-in_err-read : goal.returns-in_err-read
returns-in_err-read g c =
    let d = g.D.BlockDevice.meaning c.args.device.now in
    let fits = g.K.Key.meaning c.args.key.now in
    let len = length c.args.work.now in
    let b = c.loop-block.block in
    let e = max (39 * (b - 1)) 3 in
    let f = c.in_err-read.field-0.0 in
    let long = as_long g (goal.at.returns-in_err-read g c).After-read in
    let met = ap (read_fault d b) (sym long) ∙ refused (read_fault d b (length c.in_ok-held.held.now)) f c.in_err-read.ensures.reply in
    let reply = passed-on c.from_residual-in_err-read.result f c.from_residual-in_err-read.ensures.1
    ∙ at-fault fits d c.args.directory len e c.loop-block.invariant (omega (arith, c.loop-block-test.true, c.from-block-end.ensures, c.loop-block.auto.block))
    f b (omega (arith, c.loop-block.auto.block)) met in
    record { reply = reply; law = lookup-law fits d c.args.directory len _ reply; work = c.read.auto.buffer ∙ long }

pub loop-number-preserved : goal.loop-number-preserved
loop-number-preserved g c =
    let here = (goal.at.loop-number-preserved g c).After-from_block-entry in
    let long = as_long g (goal.at.loop-number-preserved g c).After-read in
    past (g.K.Key.meaning c.args.key.now) (g.D.BlockDevice.meaning c.args.device.now) c.args.directory (length c.args.work.now) c.loop-number.number c.loop-number.invariant
    (within g here) c.from_block-entry.result.bytes (in-hand g here long) (sym c.is_blocks_left.ensures ∙ c.if-is_blocks_left.false) (sym c.is_match.ensures ∙ c.if-is_match.false)

pub returns-then-is_blocks_left : goal.returns-then-is_blocks_left
returns-then-is_blocks_left g c =
    let d = g.D.BlockDevice.meaning c.args.device.now in
    let fits = g.K.Key.meaning c.args.key.now in
    let len = length c.args.work.now in
    let here = (goal.at.returns-then-is_blocks_left g c).After-from_block-entry in
    let long = as_long g (goal.at.returns-then-is_blocks_left g c).After-read in
    let reply = at-blocks-left fits d c.args.directory len c.loop-number.number c.loop-number.invariant
    (within g here) c.from_block-entry.result.bytes (in-hand g here long) (sym c.is_blocks_left.ensures ∙ c.if-is_blocks_left.true) in
    record { reply = reply; law = lookup-law fits d c.args.directory len _ reply; work = c.read.auto.buffer ∙ long }

pub returns-then-is_match : goal.returns-then-is_match
returns-then-is_match g c =
    let d = g.D.BlockDevice.meaning c.args.device.now in
    let fits = g.K.Key.meaning c.args.key.now in
    let len = length c.args.work.now in
    let here = (goal.at.returns-then-is_match g c).After-from_block-entry in
    let long = as_long g (goal.at.returns-then-is_match g c).After-read in
    let reply = at-match fits d c.args.directory len c.loop-number.number c.loop-number.invariant
    (within g here) c.from_block-entry.result.bytes (in-hand g here long) (sym c.is_blocks_left.ensures ∙ c.if-is_blocks_left.false) (sym c.is_match.ensures ∙ c.if-is_match.true) in
    record { reply = reply; law = lookup-law fits d c.args.directory len _ reply; work = c.read.auto.buffer ∙ long }

pub loop-block-preserved : goal.loop-block-preserved
loop-block-preserved g c =
    subst (Ahead (g.K.Key.meaning c.args.key.now) (g.D.BlockDevice.meaning c.args.device.now) c.args.directory (length c.args.work.now))
    (omega (arith, c.loop-number-test.false, c.loop-number.auto, c.max-first.ensures, c.loop-block.auto.block)) c.loop-number.invariant

pub returns : goal.returns
returns g c =
    let d = g.D.BlockDevice.meaning c.args.device.now in
    let fits = g.K.Key.meaning c.args.key.now in
    let len = length c.args.work.now in
    let reply = at_last fits d c.args.directory len (max (39 * (c.loop-block.block - 1)) 3) c.loop-block.invariant
    (omega (arith, c.loop-block-test.false, c.from-block-end.ensures)) in
    record { reply = reply; law = lookup-law fits d c.args.directory len _ reply; work = c.loop-block.auto.work }

pub returns-in_ok-read : goal.returns-in_ok-read
returns-in_ok-read g c =
    let d = g.D.BlockDevice.meaning c.args.device.now in
    let fits = g.K.Key.meaning c.args.key.now in
    let len = length c.args.work.now in
    let reply = at_last fits d c.args.directory len c.loop-number.number c.loop-number.invariant (omega (arith, c.loop-number-test.false, c.from-block-end.ensures)) in
    record { reply = reply; law = lookup-law fits d c.args.directory len _ reply; work = c.read.auto.buffer ∙ as_long g (goal.at.returns-in_ok-read g c).After-read }
