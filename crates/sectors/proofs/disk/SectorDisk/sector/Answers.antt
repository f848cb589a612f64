use Rattle.std.proofs.Common.{◌≡◌, ◌+◌, ◌-◌, take, drop, vec_items, ap, ap₂, ◌∙◌, arith}
use Rattle.sectors.proofs.disk.SectorDisk.sector.Goals as goal

pub returns-clause-bytes : goal.returns-clause-bytes
returns-clause-bytes c =
    let start = c.start-start.result in
    let size : start + 512 - start ≡ 512 = omega arith in
    ap₂ (λ n xs. take n (drop start xs)) size c.deref.ensures.value ∙ ap (λ at. take 512 (drop at (vec_items c.args.self.now.bytes))) c.start-start.ensures.value
