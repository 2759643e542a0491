use Rattle.std.proofs.Common.{◌-◌, length}
use Rattle.bpf_shape.specs.Again.{plain}
use Rattle.bpf_shape.specs.Lengths.{ArePartial, known_count}
use Rattle.bpf_shape.proofs.lengths.path_lengths.Given as goal

abbrev pub invariant-loop : goal.invariant-loop
invariant-loop l = ArePartial (plain l.program) (length l.program) l.weights.items l.lengths.items

abbrev pub decreases-loop : goal.decreases-loop
decreases-loop l = length l.program - known_count l.lengths.items
