use Rattle.std.proofs.Common.{length, refl, ap, ◌∙◌}
use Rattle.runs.proofs.Serving.{asked-find, asked-show, served}
use Rattle.runs.proofs.performing.perform.Goals as goal

pub returns-in-Find : goal.returns-in-Find
returns-in-Find g c =
    served c.args.unit.now.state (g.D.BlockDevice.meaning c.args.unit.now.device) c.find-answer.result c.in-Find.buffer c.find-answer.new.buffer c.in-Find.is
    (asked-find c.in-Find.kind (ap length c.as_mut_slice-in-Find-2.ensures.value) c.as_slice-in-Find.ensures.value c.as_mut_slice-in-Find.ensures.value) refl refl
    (c.find-answer.auto.buffer ∙ ap length c.as_mut_slice-in-Find.ensures.value) c.numbered.ensures c.find-answer.ensures.turn

pub returns-in-Show : goal.returns-in-Show
returns-in-Show g c =
    served c.args.unit.now.state (g.D.BlockDevice.meaning c.args.unit.now.device) c.show-answer.result c.in-Show.buffer c.show-answer.new.buffer c.in-Show.is
    (asked-show c.in-Show.entry (ap length c.as_mut_slice-in-Show-2.ensures.value) c.as_mut_slice-in-Show.ensures.value) refl refl
    (c.show-answer.auto.buffer ∙ ap length c.as_mut_slice-in-Show.ensures.value) c.numbered-in-Show.ensures c.show-answer.ensures.turn
