use Rattle.std.proofs.Common.{sym, ap, ◌∙◌}
use Rattle.names.specs.Names.{name_field}
use Rattle.names.specs.Kept.{field-field}
use Rattle.names.proofs.name.Name.new.Goals as goal

-- a name field keeps the rule that its name keeps, and is its own name field
pub invariant_of-result : goal.invariant_of-result
invariant_of-result g c =
    let given = c.args.given.now in
    let field = c.to_field.result in
    record {
      kept = ap g.R.Rule.rule c.to_field.ensures ∙ g.met.R.Rule.same given ∙ sym c.if-not-holds.ensures;
      padded = c.to_field.ensures ∙ sym (field-field given) ∙ ap name_field (sym c.to_field.ensures);
    }
