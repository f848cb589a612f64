use Rattle.std.proofs.Common.{true, false, ◌++◌, string_bytes, ap, ◌∙◌, subst, sym, refl, arith}
use Rattle.std.proofs.lemmas.List.{take_all}
use Rattle.std.proofs.lemmas.Slice.{pushed}
use Rattle.std.specs.List.{flat_map}
use Rattle.std.specs.Str.{IsAscii}
use Rattle.entry.specs.declared.attributes.Attribute.TheVariants.{Locked}
use Rattle.lines.proofs.Lettering.{lettered, lettered-more, pushed-small, shown, shown-ascii, table, table-small}
use Rattle.lines.proofs.files.letters.Goals as goal
use Rattle.lines.proofs.files.letters.Goals.{then-has, else-has}

pub loop-attribute-preserved : goal.loop-attribute-preserved
loop-attribute-preserved c =
    let i = c.loop-attribute.attribute-index in
    let written = pushed {was = string_bytes c.loop-attribute.text} _ refl c.in_ok-push.was c.push.ensures.bytes in
    elim c.if-has.branch [
      | then-has w ↦ lettered-more c.args.of.byte i (Locked, 0) true c.if-has.push _ _ (omega arith) (sym w.if-has.true ∙ c.has.ensures) w.push-is c.loop-attribute.invariant
          (written ∙ ap (λ cs. string_bytes c.loop-attribute.text ++ cs) (c.push.ensures.ascii (pushed-small true i (Locked, 0) c.if-has.push (omega arith) w.push-is)))
      | else-has w ↦ lettered-more c.args.of.byte i (Locked, 0) false c.if-has.push _ _ (omega arith) (sym w.if-has.false ∙ c.has.ensures) w.push-is c.loop-attribute.invariant
          (written ∙ ap (λ cs. string_bytes c.loop-attribute.text ++ cs) (c.push.ensures.ascii (pushed-small false i (Locked, 0) c.if-has.push (omega arith) w.push-is)))
    ]

pub returns : goal.returns
returns c =
    let is = c.loop-attribute.invariant ∙ ap (flat_map (shown c.args.of.byte)) (take_all c.loop-attribute.attribute-index table (omega arith)) in
    record { value = is ∙ lettered c.args.of.byte; ascii = subst IsAscii (sym is) (shown-ascii c.args.of.byte table table-small) }
