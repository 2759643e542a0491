use Rattle.std.proofs.Common.{◌≡◌, ◌≤◌, None, length, arith, sym, ◌∙◌}
use Rattle.bpf_shape.specs.Again.{plain}
use Rattle.bpf_shape.specs.Lengths.{weight_at, heaviest, length_of}
use Rattle.bpf_shape.proofs.Partial.{le_heaviest, grow, few_enough, no_length_here}
use Rattle.bpf_shape.proofs.lengths.settle.Goals as goal

pub length_from-requires-clause-weight : goal.length_from-requires-clause-weight
length_from-requires-clause-weight c =
    let inside = c.requires.slot in
    let long = c.requires.partial.heavy.long in
    let light : weight_at c.args.weights.now.items c.args.slot ≤ heaviest c.args.weights.now.items =
    le_heaviest c.args.weights.now.items c.args.slot (omega (arith, inside, long)) in
    rw c.weight_at.ensures (let few = c.requires.weights in omega (arith, light, few))

pub length_from-requires-clause-lengths : goal.length_from-requires-clause-lengths
length_from-requires-clause-lengths c = λ s k h.
    let few = few_enough (plain c.args.program.now) (length c.args.program.now) 137438953472 c.args.weights.now.items c.args.lengths.now.items c.requires.partial c.requires.count c.requires.weights s k h in
    omega (arith, few)

pub returns-in-Some-clause-partial : goal.returns-in-Some-clause-partial
returns-in-Some-clause-partial c =
    let none : length_of c.args.lengths.now.items c.args.slot ≡ None =
    no_length_here c.args.lengths.now.items c.args.slot c.index.result.now (omega (arith, c.requires.slot, c.requires.partial.long)) c.index.ensures (sym c.is_some.ensures ∙ c.if-is_some.false) in
    grow (plain c.args.program.now) (length c.args.program.now) c.args.weights.now.items c.args.lengths.now.items c.args.slot c.in-Some.length c.requires.slot c.requires.partial none
    (rw (c.plain.ensures, c.weight_at.ensures) at (sym c.length_from.ensures ∙ c.in-Some.is))
