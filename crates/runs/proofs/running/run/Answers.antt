use Rattle.std.proofs.Common.{[], ◌∷◌, map, vec_items, sym, ap, ◌∙◌, arith}
use mathlib.Core.List.{map-append}
use Rattle.std.proofs.lemmas.List.{nil_from_length}
use Rattle.std.specs.Vec.Iter.{into_iter_items}
use Rattle.requests.specs.Values.{meant, told}
use Rattle.runs.proofs.Tracing.{composes, law-of, sofar-next}
use Rattle.runs.proofs.running.run.Goals as goal

pub returns-in_err-replies-clause-compose : goal.returns-in_err-replies-clause-compose
returns-in_err-replies-clause-compose g c = composes

pub loop-request-preserved : goal.loop-request-preserved
loop-request-preserved g c =
    let steps = c.in-Some.ensures.steps in
    record {
      going = tt;
      ends = tt;
      sofar = sofar-next c.args.unit.now.state (g.D.BlockDevice.meaning c.args.unit.now.device) (map meant (into_iter_items c.into_iter-request-iterator.result))
          (map meant (into_iter_items c.loop-request.request-iterator)) (map told (vec_items c.loop-request.replies)) (map told (vec_items c.push_reserved.new.self))
          c.loop-request.unit.state c.perform.new.unit.state (g.D.BlockDevice.meaning c.loop-request.unit.device) (g.D.BlockDevice.meaning c.perform.new.unit.device)
          (meant c.in-Some.request) (map meant (into_iter_items c.next.new.self)) (told c.perform.result) (g.met.D.BlockDevice.sized c.loop-request.unit.device).1
          (ap (map meant) steps.0) (ap (map told) c.push_reserved.ensures.items ∙ map-append told (vec_items c.loop-request.replies) (c.perform.result ∷ []))
          c.loop-request.invariant.sofar c.perform.ensures;
      room = omega (arith, c.loop-request.invariant.room, steps.1, c.push_reserved.ensures.len, c.push_reserved.ensures.capacity);
    }

pub returns : goal.returns
returns g c =
    record {
      law = law-of c.args.unit.now.state (g.D.BlockDevice.meaning c.args.unit.now.device) (map meant (into_iter_items c.into_iter-request-iterator.result))
          (map meant (vec_items c.args.requests)) (map meant (into_iter_items c.loop-request.request-iterator)) (map told (vec_items c.loop-request.replies))
          c.loop-request.unit.state (g.D.BlockDevice.meaning c.loop-request.unit.device)
          (ap (map meant) (nil_from_length (into_iter_items c.loop-request.request-iterator) (sym c.loop-request.request-iterator.rest.ok.0 ∙ c.in-None.ensures.steps.0))) (ap (map meant) c.into_iter-request-iterator.ensures.into_iter_gives.0) c.loop-request.invariant.sofar;
      compose = composes;
    }
