use Rattle.std.proofs.Common.{◌≡◌, true, refl, inr, arith, length}
use Rattle.base.specs.declared.causes.VerifierCause.TheVariants as cause
use Rattle.bpf_shape.specs.Rules.{Breaks}
use Rattle.bpf_shape.proofs.Chained.{lowest_calls, holds_calls}
use Rattle.bpf_shape.proofs.depth.keep_calls.Goals as goal

pub returns-then-branch-clause-refused : goal.returns-then-branch-clause-refused
returns-then-branch-clause-refused c =
    let found : Breaks true c.args.program.now cause.CallDepth c.loop-slot.slot = c.in_ok-is_refused.ensures.0 c.if-branch.true in
    rw c.at.ensures (inr (record { code = refl; lowest = lowest_calls c.args.program.now c.loop-slot.slot found c.loop-slot.invariant }))

pub returns-clause-kept : goal.returns-clause-kept
returns-clause-kept c =
    let all : c.loop-slot.slot ≡ length c.args.program.now = omega arith in
    holds_calls c.args.program.now (rw all at c.loop-slot.invariant)
