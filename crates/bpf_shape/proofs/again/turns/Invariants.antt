use Rattle.std.proofs.Common.{◌≡◌, ◌≤◌, ◌*◌, map}
use Rattle.std.specs.List.{sum, range_with_len}
use Rattle.bpf_shape.specs.Again.{turns_at}
use Rattle.bpf_shape.proofs.again.turns.Given as goal

abbrev pub invariant-loop-slot : goal.invariant-loop-slot
invariant-loop-slot l = (l.total ≡ sum (map (turns_at l.program) (range_with_len 0 l.slot))) × (l.total ≤ l.slot * 1048576)
