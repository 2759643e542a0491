use Rattle.std.proofs.Common.{◌≡◌, suc, arith, add-one, refl}
use Rattle.bpf_shape.specs.Budget.{most_calls}
use Rattle.bpf_shape.proofs.Weighing.{deeper_few, deeper_heavy, deeper_lengths, small_weight, small_lengths, without_calls}
use Rattle.bpf_shape.proofs.weights.followed_lengths.Goals as goal

pub returns-then-not-has_calls : goal.returns-then-not-has_calls
returns-then-not-has_calls c = without_calls c.args.program.now c.args.lengths.items (c.if-not-has_calls.ensures refl) c.requires.lengths

pub loop-depth-init : goal.loop-depth-init
loop-depth-init c = c.requires.lengths

pub weigh-requires-clause-lengths : goal.weigh-requires-clause-lengths
weigh-requires-clause-lengths c = c.loop-depth.invariant.settled.partial.long

pub weigh-requires-clause-few : goal.weigh-requires-clause-few
weigh-requires-clause-few c = small_lengths c.args.program.now c.loop-depth._depth c.loop-depth.lengths.items (omega arith) c.requires.program.count.limit c.loop-depth.invariant

pub path_lengths-requires-clause-weights : goal.path_lengths-requires-clause-weights
path_lengths-requires-clause-weights c =
    let few = deeper_few c.args.program.now c.loop-depth._depth c.loop-depth.lengths.items c.in_ok-weights.weights.items c.requires.edges c.requires.entries c.requires.loops
    c.requires.program.count.limit c.loop-depth.invariant c.in_ok-weights.ensures in
    let small = small_weight (suc c.loop-depth._depth) (omega arith) in
    omega (arith, few, small)

pub path_lengths-requires-clause-heavy : goal.path_lengths-requires-clause-heavy
path_lengths-requires-clause-heavy c =
    deeper_heavy c.args.program.now c.loop-depth._depth c.loop-depth.lengths.items c.in_ok-weights.weights.items c.requires.edges c.requires.entries c.requires.loops
    c.requires.program.count.limit c.loop-depth.invariant c.in_ok-weights.ensures

pub loop-depth-preserved : goal.loop-depth-preserved
loop-depth-preserved c =
    rw (add-one c.loop-depth._depth)
    (deeper_lengths c.args.program.now c.loop-depth._depth c.loop-depth.lengths.items c.in_ok-weights.weights.items c.requires.edges c.requires.entries c.requires.loops
    c.requires.program.count.limit c.loop-depth.invariant c.in_ok-weights.ensures _ c.in_ok-lengths.ensures.settled)

pub returns : goal.returns
returns c =
    let all : c.loop-depth._depth ≡ most_calls = omega arith in
    rw all at c.loop-depth.invariant
