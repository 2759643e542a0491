use Rattle.std.proofs.Common.{arith}
use denote.Param.Send.{sendable}
use Rattle.std.proofs.Crossing.{crosses}
use Rattle.case_runs.proofs.Crossing.{ok_both, Answer-send}
use Rattle.case_runs.proofs.sharing.all_answers.Goals as goal

pub map_indices-requires-send-X : goal.map_indices-requires-send-X
map_indices-requires-send-X g c = search (Answer-send, sendable, crosses) depth 40

pub returns : goal.returns
returns g c = ok_both c.map_indices.result _ _ _ c.map_indices.ensures.len c.map_indices.ensures.each (λ v len each k d low. (each k d (omega (arith, len, low))).1.met)
