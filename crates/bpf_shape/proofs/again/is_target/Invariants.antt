use Rattle.std.proofs.Common.{◌≡◌, false}
use Rattle.std.specs.List.{list_any, range_with_len}
use Rattle.bpf_shape.specs.Again.{aims_at}
use Rattle.bpf_shape.proofs.again.is_target.Given as goal

abbrev pub invariant-loop-from : goal.invariant-loop-from
invariant-loop-from l = list_any (aims_at l.program l.slot) (range_with_len 0 l.from) ≡ false
