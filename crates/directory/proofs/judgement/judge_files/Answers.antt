use Rattle.std.proofs.Common.{◌≡◌, ℕ, ◌+◌, ◌-◌, ◌*◌, ◌<◌, ◌≤◌, List, length, Ok, Some, None, sym, refl, ap, ap₂, ◌∙◌, subst, arith}
use Rattle.blocks.specs.Devices.{Device, block_at, outcome, read_fault, read_out, size_of}
use Rattle.entry.specs.Fields.{entry_in}
use Rattle.directory.specs.Entries.{entry_at}
use Rattle.directory.specs.Judgements.{first_unread, layout_fault, verdict}
use Rattle.directory.specs.Layouts.{directory_blocks, end_of}
use Rattle.directory.specs.Seen.{seen_from}
use Rattle.directory.specs.declared.seen.Seen.{Seen}
use Rattle.directory.proofs.Carrying.{held, passed-on, refused}
use Rattle.directory.proofs.Passing.{SoFar, begins, head-is, seen-block, told_is, unread-ends, unread-none, unread-on}
use Rattle.directory.proofs.Testing.{volume-follows}
use Rattle.directory.proofs.judgement.judge_files.Goals as goal
use Rattle.directory.proofs.judgement.judge_files.Goals.{else-loop-place-test, then-loop-place-test+in_ok-read+else-place-place-end}

-- one block more is read and seen
module _ (d : Device) (wide : (b : ℕ) → b < size_of d → length (block_at d b) ≡ 1024) (b at : ℕ) (is : at ≡ b) (before after : List ℕ) (done : Unit {0})
    (reply : Ok done ≡ outcome (read_fault d at (length before))) (filled : after ≡ read_out (read_fault d at (length before)) (block_at d at) before) where
  seen_more : (s next : Seen) → 2 ≤ b → SoFar d (39 * (b - 1)) s → next ≡ seen_from after s (39 * (b - 1)) (39 * b - 39 * (b - 1)) → SoFar d (39 * b) next
  seen_more s next low h made =
      seen-block d b after (39 * (b - 1)) (39 * b) s next ((held d at before after done wide reply filled).same ∙ ap (block_at d) is)
      (omega arith) (omega arith) (omega arith) refl h made

  read_more : (directory : ℕ) → b ≤ directory → first_unread d (b + 1) (directory + 1 - (b + 1)) ≡ first_unread d b (directory + 1 - b)
  read_more directory le =
      let h = held d at before after done wide reply filled in
      unread-on d b (directory + 1 - b) (directory + 1 - (b + 1)) (omega arith) (ap₂ (read_fault d) (sym is) (sym h.full) ∙ h.none)

pub loop-place-init : goal.loop-place-init
loop-place-init g c =
    let d = g.D.BlockDevice.meaning c.args.device.now in
    let s : Seen = record { counts = c.args.counts; end = c.end_of.result; fault = None; left = None; room = 0 } in
    let end : c.end_of.result ≡ end_of (entry_at d 2) = c.end_of.ensures ∙ ap end_of (c.from_block.ensures ∙ ap (λ b. entry_in b 2) c.requires.first) in
    record {
      full = c.told-block;
      high = omega (arith, (volume-follows d c.requires.holds).some, c.requires.directory);
      seen = seen-block d 1 c.args.block.now 3 39 s c.see_block.new.self c.requires.first (omega arith) (omega arith) (omega arith) refl
          (begins d s c.requires.blocks c.requires.directory refl refl end) c.see_block.ensures;
      left = ap (first_unread d 2) (omega arith);
    }

pub returns-in_err-read : goal.returns-in_err-read
returns-in_err-read g c =
    let d = g.D.BlockDevice.meaning c.args.device.now in
    let b = c.loop-place.place in
    let f = c.in_err-read.field-0.0 in
    let met : read_fault d b 1024 ≡ Some f = ap₂ (read_fault d) (sym c.from.ensures) (sym c.loop-place.invariant.full)
    ∙ refused (read_fault d c.from.result (length c.loop-place.block)) f c.in_err-read.ensures.reply in
    passed-on c.from_residual.result f c.from_residual.ensures.1
    ∙ unread-ends d (verdict d (layout_fault d)) f b (c.args.counts.directory + 1 - b) (c.args.counts.directory - b) _
    (omega (arith, c.loop-place-test.true, c.from-place-end.ensures)) met c.loop-place.invariant.left

pub loop-place-preserved : goal.loop-place-preserved
loop-place-preserved g c =
    let d = g.D.BlockDevice.meaning c.args.device.now in
    let b = c.loop-place.place in
    let wide = g.met.D.BlockDevice.wide c.args.device.now in
    let reply = c.in_ok-read.ensures.reply in
    let filled = c.in_ok-read.ensures.filled in
    record {
      high = omega (arith, c.loop-place-test.true, c.from-place-end.ensures);
      full = (held d c.from.result c.loop-place.block c.read.new.buffer c.in_ok-read.field-0 wide reply filled).long;
      seen = subst (λ e. SoFar d e c.see_block-in-loop-place.new.self) (let z : 39 * b ≡ 39 * (b + 1 - 1) = omega arith in z)
          (seen_more d wide b c.from.result c.from.ensures c.loop-place.block c.read.new.buffer c.in_ok-read.field-0 reply filled
          c.loop-place.seen c.see_block-in-loop-place.new.self c.loop-place.auto.place c.loop-place.invariant.seen c.see_block-in-loop-place.ensures);
      left = read_more d wide b c.from.result c.from.ensures c.loop-place.block c.read.new.buffer c.in_ok-read.field-0 reply filled
          c.args.counts.directory (omega (arith, c.loop-place-test.true, c.from-place-end.ensures)) ∙ c.loop-place.invariant.left;
    }

pub returns : goal.returns
returns g c =
    let d = g.D.BlockDevice.meaning c.args.device.now in
    let wide = g.met.D.BlockDevice.wide c.args.device.now in
    let b = c.loop-place.place in
    let some = (volume-follows d c.requires.holds).some in
    let seen : SoFar d (39 * directory_blocks d) c.loop-place-test.seen × (first_unread d 2 (c.args.counts.directory - 1) ≡ None) =
    elim c.loop-place-test.branch [
      | else-loop-place-test w ↦
          (let end : b ≡ c.args.counts.directory + 1 = omega (arith, w.loop-place-test.false, c.from-place-end.ensures, c.loop-place.invariant.high) in (
            subst (λ s. SoFar d (39 * directory_blocks d) s) (sym w.seen-is)
                (subst (λ e. SoFar d e c.loop-place.seen) (let z : 39 * (b - 1) ≡ 39 * directory_blocks d = omega (arith, end, c.requires.directory) in z) c.loop-place.invariant.seen),
            sym c.loop-place.invariant.left ∙ ap (first_unread d b) (let z : c.args.counts.directory + 1 - b ≡ 0 = omega (arith, end) in z),
          ))
      | then-loop-place-test+in_ok-read+else-place-place-end w ↦ (
        subst (λ e. SoFar d e c.loop-place-test.seen) (let z : 39 * b ≡ 39 * directory_blocks d = omega (arith, w.loop-place-test.true, c.from-place-end.ensures, c.requires.directory) in z)
            (subst (SoFar d (39 * b)) (sym w.seen-is)
            (seen_more d wide b w.from.result w.from.ensures c.loop-place.block w.read.new.buffer w.in_ok-read.field-0 w.in_ok-read.ensures.reply w.in_ok-read.ensures.filled
            c.loop-place.seen w.see_block-in-loop-place.new.self c.loop-place.auto.place c.loop-place.invariant.seen w.see_block-in-loop-place.ensures)),
        sym (read_more d wide b w.from.result w.from.ensures c.loop-place.block w.read.new.buffer w.in_ok-read.field-0 w.in_ok-read.ensures.reply w.in_ok-read.ensures.filled
            c.args.counts.directory (omega (arith, w.loop-place-test.true, c.from-place-end.ensures)) ∙ c.loop-place.invariant.left)
            ∙ ap (first_unread d (b + 1)) (let z : c.args.counts.directory + 1 - (b + 1) ≡ 0 = omega (arith, w.loop-place-test.true, c.from-place-end.ensures) in z),
      )
    ] in
    c.tell.ensures
    ∙ told_is d c.loop-place-test.seen c.head_fault-head.result seen.0 some
    (c.head_fault-head.ensures ∙ head-is d c.args.block.now c.args.counts.directory c.requires.holds c.requires.first c.requires.directory)
    ∙ unread-none (verdict d (layout_fault d)) _ seen.1
