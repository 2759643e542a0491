use Rattle.std.proofs.Common.{rules, ◌≡◌, length, replicate, arith}
use Rattle.bpf_shape.proofs.Weighing.{ones_few, ones_heavy, plain_are}
use Rattle.bpf_shape.proofs.weights.plain_lengths.Goals as goal

pub path_lengths-requires-clause-weights : goal.path_lengths-requires-clause-weights
path_lengths-requires-clause-weights c =
    let made : c.resize.new.self.items ≡ replicate (length c.args.program.now) 1 = search rules in
    let few = ones_few (length c.args.program.now) in
    rw made (omega (arith, few))

pub path_lengths-requires-clause-heavy : goal.path_lengths-requires-clause-heavy
path_lengths-requires-clause-heavy c =
    let made : c.resize.new.self.items ≡ replicate (length c.args.program.now) 1 = search rules in
    rw made (ones_heavy (length c.args.program.now))

pub returns-clause-lengths : goal.returns-clause-lengths
returns-clause-lengths c =
    let made : c.resize.new.self.items ≡ replicate (length c.args.program.now) 1 = search rules in
    plain_are c.args.program.now c.in_ok-lengths.lengths.items (rw made at c.in_ok-lengths.ensures.settled)
