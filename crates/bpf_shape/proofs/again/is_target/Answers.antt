use Rattle.std.proofs.Common.{◌≡◌, true, false, sym, length, ◌<◌, arith}
use Rattle.bpf_shape.specs.Again.{aims_at, is_target}
use Rattle.bpf_shape.proofs.Ranges.{none_more, any_at}
use Rattle.bpf_shape.proofs.again.is_target.Goals as goal

pub returns-then-aims_at : goal.returns-then-aims_at
unfolding is_target
returns-then-aims_at c =
    let here : aims_at c.args.program.now c.args.slot c.loop-from.from ≡ true = sym c.if-aims_at.ensures in
    let inside : c.loop-from.from < length c.args.program.now = omega arith in
    sym (any_at (aims_at c.args.program.now c.args.slot) (length c.args.program.now) c.loop-from.from inside here)

pub loop-from-preserved : goal.loop-from-preserved
loop-from-preserved c =
    let here : aims_at c.args.program.now c.args.slot c.loop-from.from ≡ false = sym c.if-aims_at.ensures in
    none_more (aims_at c.args.program.now c.args.slot) c.loop-from.from c.loop-from.invariant here
