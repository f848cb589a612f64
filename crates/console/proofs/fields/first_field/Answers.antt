use Rattle.std.proofs.Common.{false, ◌∷◌, take, drop, ap, ◌∙◌, ap₂}
use Rattle.console.specs.Fields.{later}
use Rattle.console.proofs.Splitting.{split}
use Rattle.console.proofs.fields.first_field.Goals as goal

pub returns : goal.returns
returns c =
    ap₂ (λ field rest. field ∷ later rest) c.split_at.ensures.front c.split_at.ensures.back
    ∙ ap (λ n. take n c.args.line.now ∷ later (drop n c.args.line.now)) c.field_length.ensures.value
    ∙ split false c.args.line.now
