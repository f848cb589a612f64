use Rattle.std.proofs.Common.{◌≡◌, take, sym, ap, ◌∙◌, rules, tests}
use Rattle.std.proofs.lemmas.Iterator.{YieldsList-from_slice}
use Rattle.std.proofs.lemmas.Iterator.Search.{position_from_yields_List}
use Rattle.names.proofs.Reading.{end_of, found, up_to_end}
use Rattle.names.proofs.given.characters.Goals as goal

pub returns : goal.returns
returns c =
    let name = c.args.given.now in
    let e : c.unwrap_or-end.result ≡ end_of name =
    c.unwrap_or-end.ensures
    ∙ found name _ (position_from_yields_List _ _ _ c.position.result c.position.ensures.ran (YieldsList-from_slice name c.iter.ensures.rest) (λ x b q k. search (rules, tests))) in
    ap (λ n. take n name) e ∙ sym (up_to_end name)
