use Rattle.std.proofs.Common.{◌≡◌, refl, inr, arith, length}
use Rattle.bpf_shape.specs.Again.{plain}
use Rattle.bpf_shape.specs.Paths.{OnCycle}
use Rattle.bpf_shape.proofs.Kept.{lowest_loop, holds_loop}
use Rattle.bpf_shape.proofs.shaping.keep_loops.Goals as goal

pub returns-then-branch-clause-refused : goal.returns-then-branch-clause-refused
returns-then-branch-clause-refused c =
    let found : OnCycle (plain c.args.program.now) c.loop-slot.slot = c.in_ok-is_on_cycle.ensures.0 c.if-branch.true in
    rw c.at.ensures (inr (record { code = refl; lowest = lowest_loop c.args.program.now c.loop-slot.slot found c.loop-slot.invariant }))

pub returns-clause-kept : goal.returns-clause-kept
returns-clause-kept c =
    let all : c.loop-slot.slot ≡ length c.args.program.now = omega arith in
    holds_loop c.args.program.now (rw all at c.loop-slot.invariant)
