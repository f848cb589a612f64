use Rattle.std.proofs.Common.{◌*◌, length, None, arith, rules}
use Rattle.std.specs.List.{concat}
use Rattle.listing.specs.Walks.{is_left, is_unreadable}
use Rattle.listing.proofs.Walking.{first-is, left-found, left-missed}
use Rattle.listing.proofs.files.Files.of.Goals as goal

pub returns-in_default-clause-value : goal.returns-in_default-clause-value
returns-in_default-clause-value c =
    let bytes = concat c.args.directory.blocks.items in
    let end = 39 * c.size-end.result in
    let left = first-is _ is_left bytes 3 end c.first.result c.first.ensures (λ x b t. search rules) (omega (arith, c.size-end.ensures, c.args.directory.some)) in
    left-missed bytes (length c.args.directory.blocks.items) c.size-end.result c.first.result c.size-end.ensures left c.in_default.is

pub returns-in-None-clause-value : goal.returns-in-None-clause-value
returns-in-None-clause-value c =
    let bytes = concat c.args.directory.blocks.items in
    let count = length c.args.directory.blocks.items in
    let end = 39 * c.size-end.result in
    let left = first-is _ is_left bytes 3 end c.first.result c.first.ensures (λ x b t. search rules) (omega (arith, c.size-end.ensures, c.args.directory.some)) in
    let files = first-is _ is_unreadable bytes 3 c.in-Some.left c.first-2.result c.first-2.ensures (λ x b t. search rules) (search rules) in
    left-found bytes count c.size-end.result c.in-Some.left c.first.result c.first-2.result None c.size-end.ensures left c.in-Some.is files c.in-None.is

pub returns-in-Some-first-clause-value : goal.returns-in-Some-first-clause-value
returns-in-Some-first-clause-value c =
    let bytes = concat c.args.directory.blocks.items in
    let count = length c.args.directory.blocks.items in
    let end = 39 * c.size-end.result in
    let left = first-is _ is_left bytes 3 end c.first.result c.first.ensures (λ x b t. search rules) (omega (arith, c.size-end.ensures, c.args.directory.some)) in
    let files = first-is _ is_unreadable bytes 3 c.in-Some.left c.first-2.result c.first-2.ensures (λ x b t. search rules) (search rules) in
    left-found bytes count c.size-end.result c.in-Some.left c.first.result c.first-2.result _ c.size-end.ensures left c.in-Some.is files c.in-Some-first.is
