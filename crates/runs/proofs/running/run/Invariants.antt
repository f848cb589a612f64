use Rattle.std.proofs.Common.{◌+◌, ◌≤◌, map, vec_items, vec_len, vec_capacity}
use Rattle.std.specs.Vec.Iter.{into_iter_items, into_iter_len}
use Rattle.requests.specs.Values.{meant, told}
use Rattle.runs.proofs.Tracing.{Sofar}
use Rattle.runs.proofs.running.run.Given as goal

-- what is left to call gives what the whole gives, and there is room for its replies
abbrev pub invariant-loop-request : goal.invariant-loop-request
invariant-loop-request g l = record {
  going : (goal.iterator-loop-request g).can_next l.request-iterator;
  ends : (goal.iterator-loop-request g).is_finite l.request-iterator;
  sofar : Sofar l.initial.unit.state (g.D.BlockDevice.meaning l.initial.unit.device) (map meant (into_iter_items l.initial.request-iterator))
      (map meant (into_iter_items l.request-iterator)) (map told (vec_items l.replies)) l.unit.state (g.D.BlockDevice.meaning l.unit.device);
  room : vec_len l.replies + into_iter_len l.request-iterator ≤ vec_capacity l.replies;
}
