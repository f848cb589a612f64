use Rattle.std.proofs.Common.{◌≡◌, map, ap, ◌∙◌, rules, tests}
use Rattle.std.proofs.lemmas.Iterator.{YieldsList-from_map, YieldsList-from_slice, items_from_collect}
use Rattle.console.specs.Titles.{hex_bytes}
use Rattle.console.proofs.Naming.{of_pair, of_pairs}
use Rattle.console.proofs.titles.hex_bytes.Goals as goal

pub returns : goal.returns
returns c =
    let e : map of_pair c.as_chunks.result.0.now ≡ hex_bytes c.args.digits.now = ap (map of_pair) c.as_chunks.ensures.front ∙ of_pairs c.args.digits.now in
    rw e at (items_from_collect _ c.collect.ensures.ran (YieldsList-from_map _ of_pair (YieldsList-from_slice c.as_chunks.result.0.now (cc)) c.map.ensures.closure (λ x r q k. search (rules, tests))))
