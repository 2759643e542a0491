use Rattle.std.proofs.Common.{sym, refl, arith}
use Rattle.bpf_shape.proofs.Kept.{holds_of, lowest_of}
use Rattle.bpf_shape.proofs.rules.keep.Goals as goal

pub returns-then-not-keeps-clause-refused : goal.returns-then-not-keeps-clause-refused
returns-then-not-keeps-clause-refused c = rw c.at.ensures record {
  code = refl;
  lowest = lowest_of c.args.guards c.args.program.now c.args.rule c.loop-slot.slot c.requires (sym c.if-not-keeps.ensures) c.loop-slot.invariant;
}

pub returns-clause-kept : goal.returns-clause-kept
returns-clause-kept c =
    holds_of c.args.guards c.args.program.now c.args.rule c.requires
    (λ s inside. c.loop-slot.invariant s (omega (arith, inside)))
