use Rattle.std.proofs.Common.{arith}
use Rattle.plain.proofs.Kept.{all_before, kept_zeros}
use Rattle.plain.proofs.own.clear_written.Goals as goal

pub returns-clause-cleared : goal.returns-clause-cleared
returns-clause-cleared c = all_before c.pieces.bytes c.pieces.written c.args.end c.pieces.piece c.pieces.invariant.2 c.pieces.invariant.1 (omega (arith, c.pieces-test.false)) c.pieces.invariant.3

pub returns-clause-kept : goal.returns-clause-kept
returns-clause-kept c =
    kept_zeros c.pieces.bytes c.pieces.written c.args.end c.pieces.invariant.2
    (all_before c.pieces.bytes c.pieces.written c.args.end c.pieces.piece c.pieces.invariant.2 c.pieces.invariant.1 (omega (arith, c.pieces-test.false)) c.pieces.invariant.3)
