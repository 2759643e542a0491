use Rattle.std.proofs.Common.{inl, inr, arith}
use Rattle.verifier.specs.Inferred.{without_memory, without_shape}
use Rattle.verifier.specs.Verdicts.{shape}
use Rattle.verifier.proofs.Accepting.{accepted}
use Rattle.verifier.proofs.verified.verify_with.Goals as goal

pub returns-in-Err-clause-refused : goal.returns-in-Err-clause-refused
returns-in-Err-clause-refused c =
    rw c.by_itself.ensures
    (elim c.in-Err.ensures.refused [
      | inl memory ↦ inl memory
      | inr broken ↦ inr (shape _ _ broken)
    ])

pub returns-in-Err-clause-known : goal.returns-in-Err-clause-known
returns-in-Err-clause-known c =
    rw c.by_itself.ensures
    (elim c.in-Err.ensures.refused [
      | inl memory ↦ without_memory memory
      | inr broken ↦ without_shape broken
    ])

pub invariant_of-result : goal.invariant_of-result
invariant_of-result c =
    accepted c.args.guards c.args.program.now c.args.sectors c.budget.result c.in-Ok-kept_table.table c.in-Ok.shape c.requires.some c.requires.device (omega (arith, c.ranges.sectors.fits))
    c.in-Ok-kept_table.ensures.program c.in-Ok.ensures.shape c.budget.ensures c.in-Ok-kept_table.ensures.settled c.in-Ok-kept_table.ensures.kept

pub returns-in-Ok-kept_table-clause-verified : goal.returns-in-Ok-kept_table-clause-verified
returns-in-Ok-kept_table-clause-verified c =
    accepted c.args.guards c.args.program.now c.args.sectors c.budget.result c.in-Ok-kept_table.table c.in-Ok.shape c.requires.some c.requires.device (omega (arith, c.ranges.sectors.fits))
    c.in-Ok-kept_table.ensures.program c.in-Ok.ensures.shape c.budget.ensures c.in-Ok-kept_table.ensures.settled c.in-Ok-kept_table.ensures.kept
