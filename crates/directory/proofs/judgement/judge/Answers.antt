use Rattle.std.proofs.Common.{◌≡◌, ◌-◌, true, false, length, Err, sym, refl, ap, ◌∙◌, ap₂, arith}
use Rattle.std.proofs.lemmas.Option.{MatchOption-at_some}
use Rattle.std.proofs.lemmas.Result.{err_from_is_err_and}
use Rattle.std.specs.Array.{IsWholeChunk}
use Rattle.std.specs.Option.{ok_or}
use Rattle.refusal.specs.declared.Refusal.TheVariants.{OutOfRange}
use Rattle.blocks.specs.Devices.{read_fault, size_of as blocks_of}
use Rattle.entry.specs.Fields.{directory_of, entry_in, size_of}
use Rattle.directory.specs.Entries.{entry_at}
use Rattle.directory.specs.Judgements.{first_unread, layout_fault, unless_fault, verdict, volume_holds}
use Rattle.directory.proofs.Carrying.{Held, held, passed-on, refused}
use Rattle.directory.proofs.Judging.{layout-law}
use Rattle.directory.proofs.Verdicts.{bad-volume, good-volume, judgement-law, one_block, unread-first, wrong-length}
use Rattle.directory.proofs.judgement.judge.Given.{Over}
use Rattle.directory.proofs.judgement.judge.Goals.{After-volume_holds, In_ok-block}
use Rattle.directory.proofs.judgement.judge.Goals as goal

-- the block in hand is the work block
chunk : (g : Over) (c : In_ok-block g) → IsWholeChunk c.args.work.now c.in_ok-block.block.now 1024
chunk g c = MatchOption-at_some _ _ c.in_ok-block.block c.in_ok-block.ensures.ok_part c.as_mut_array.ensures.cases

-- block 1 was read into it
block_1 : (g : Over) (c : After-volume_holds g) → Held (g.D.BlockDevice.meaning c.args.device.now) 1 c.in_ok-block.block.now c.read.new.buffer
block_1 g c =
    held (g.D.BlockDevice.meaning c.args.device.now) 1 c.in_ok-block.block.now c.read.new.buffer c.in_ok-read.field-0
    (g.met.D.BlockDevice.wide c.args.device.now) c.in_ok-read.ensures.reply c.in_ok-read.ensures.filled

-- the volume's entry, and its test
volume-is : (g : Over) (c : After-volume_holds g) → c.from_block-volume.result.bytes ≡ entry_at (g.D.BlockDevice.meaning c.args.device.now) 0
volume-is g c = c.from_block-volume.ensures ∙ ap (λ b. entry_in b 0) (block_1 g c).same

test-is : (g : Over) (c : After-volume_holds g)
    → volume_holds (blocks_of (g.D.BlockDevice.meaning c.args.device.now)) (entry_at (g.D.BlockDevice.meaning c.args.device.now) 0) ≡ c.volume_holds.result
test-is g c = sym (c.volume_holds.ensures ∙ ap₂ volume_holds c.size-2.ensures (volume-is g c))

pub returns-in_err-block : goal.returns-in_err-block
returns-in_err-block g c =
    let d = g.D.BlockDevice.meaning c.args.device.now in
    let len = length c.args.work.now in
    let exit = err_from_is_err_and c.from_residual.result c.from_residual.ensures.1 in
    let other : len ≡ 1024 → ⊥ = λ q. let never : false ≡ true = c.in_err-block.ensures.variant ∙ c.as_mut_array.ensures.variant.1 q in cc in
    let is : c.in_err-block.field-0.0 ≡ OutOfRange = (let h = c.in_err-block.ensures.value ∙ ap (λ o. ok_or o OutOfRange) c.in_err-block.ensures.ok_part in cc) in
    let reply = exit.1 ∙ ap Err (exit.2 ∙ is) ∙ wrong-length d len other in
    record { reply = reply; law = judgement-law d len _ reply; layout = layout-law d; work = refl }

pub returns-then-size-lt2 : goal.returns-then-size-lt2
returns-then-size-lt2 g c =
    let d = g.D.BlockDevice.meaning c.args.device.now in
    let len = length c.args.work.now in
    let whole = chunk g (goal.at.returns-then-size-lt2 g c).In_ok-block in
    let reply = one_block d len whole.long (omega (arith, c.size.ensures, c.if-size-lt2.true)) in
    record { reply = reply; law = judgement-law d len _ reply; layout = layout-law d; work = ap length whole.same }

pub returns-in_err-read : goal.returns-in_err-read
returns-in_err-read g c =
    let d = g.D.BlockDevice.meaning c.args.device.now in
    let len = length c.args.work.now in
    let whole = chunk g (goal.at.returns-in_err-read g c).In_ok-block in
    let f = c.in_err-read.field-0.0 in
    let full : length c.in_ok-block.block.now ≡ 1024 = ap length whole.same ∙ whole.long in
    let met = ap (read_fault d 1) (sym full) ∙ refused (read_fault d 1 (length c.in_ok-block.block.now)) f c.in_err-read.ensures.reply in
    let reply = passed-on c.from_residual-in_err-read.result f c.from_residual-in_err-read.ensures.1
    ∙ unread-first d len whole.long (omega (arith, c.size.ensures, c.if-size-lt2.false)) f met in
    record { reply = reply; law = judgement-law d len _ reply; layout = layout-law d; work = c.read.auto.buffer ∙ ap length whole.same }

pub returns-then-not-volume_holds : goal.returns-then-not-volume_holds
returns-then-not-volume_holds g c =
    let d = g.D.BlockDevice.meaning c.args.device.now in
    let len = length c.args.work.now in
    let whole = chunk g (goal.at.returns-then-not-volume_holds g c).In_ok-block in
    let here = (goal.at.returns-then-not-volume_holds g c).After-volume_holds in
    let h = block_1 g here in
    let reply = bad-volume d len whole.long (omega (arith, c.size.ensures, c.if-size-lt2.false)) (ap (read_fault d 1) (sym h.full) ∙ h.none) (test-is g here ∙ c.if-not-volume_holds.true) in
    record { reply = reply; law = judgement-law d len _ reply; layout = layout-law d; work = c.read.auto.buffer ∙ ap length whole.same }

pub judge_files-requires : goal.judge_files-requires
judge_files-requires g c =
    let here = (goal.at.judge_files-requires g c).After-volume_holds in
    let volume = volume-is g here in
    record {
      first = (block_1 g here).same;
      holds = test-is g here ∙ c.if-not-volume_holds.false;
      blocks = c.size-3.ensures ∙ ap size_of volume;
      directory = c.directory_blocks.ensures ∙ ap directory_of volume;
    }

pub returns-clause-reply : goal.returns-clause-reply
returns-clause-reply g c =
    let d = g.D.BlockDevice.meaning c.args.device.now in
    let len = length c.args.work.now in
    let whole = chunk g (goal.at.returns-clause-reply g c).In_ok-block in
    let here = (goal.at.returns-clause-reply g c).After-volume_holds in
    let h = block_1 g here in
    let directory = c.directory_blocks.ensures ∙ ap directory_of (volume-is g here) in
    c.judge_files.ensures ∙ ap (λ n. unless_fault (first_unread d 2 (n - 1)) (verdict d (layout_fault d))) directory
    ∙ good-volume d len whole.long (omega (arith, c.size.ensures, c.if-size-lt2.false)) (ap (read_fault d 1) (sym h.full) ∙ h.none) (test-is g here ∙ c.if-not-volume_holds.false)

pub returns-clause-law : goal.returns-clause-law
returns-clause-law g c = judgement-law (g.D.BlockDevice.meaning c.args.device.now) (length c.args.work.now) _ (returns-clause-reply g c)

pub returns-clause-layout : goal.returns-clause-layout
returns-clause-layout g c = layout-law (g.D.BlockDevice.meaning c.args.device.now)
