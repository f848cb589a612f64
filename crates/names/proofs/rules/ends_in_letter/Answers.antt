use Rattle.std.proofs.Common.{sym, ◌∙◌}
use Rattle.names.proofs.Spelling.{last-letter}
use Rattle.names.proofs.rules.ends_in_letter.Goals as goal

pub returns-in-len1-up : goal.returns-in-len1-up
returns-in-len1-up c = c.is_ascii_alphabetic.ensures.value ∙ sym (last-letter c.args.name.now c.in-len1-up.len_at_least)
