use Rattle.std.proofs.Common.{arith}
use Rattle.request.specs.Source.{past_device}
use Rattle.request.proofs.Logs.{log_refused}
use Rattle.request.proofs.source.read_recorded.Goals as goal

pub returns-then-initial-sectors-clause-refused : goal.returns-then-initial-sectors-clause-refused
returns-then-initial-sectors-clause-refused c =
    rw c.option_refusal_of.ensures (past_device (let device = c.sectors.ensures.value in omega (arith, device, c.if-initial-sectors.true)))

pub log_over_base-requires : goal.log_over_base-requires
log_over_base-requires c = let device = c.sectors.ensures.value in omega (arith, device, c.if-initial-sectors.false)

pub returns-in-Err-clause-refused : goal.returns-in-Err-clause-refused
returns-in-Err-clause-refused c =
    rw c.log_refusal_of.ensures
    (log_refused _ _ c.in-Err.fault (let device = c.sectors.ensures.value in omega (arith, device, c.if-initial-sectors.false)) c.in-Err.ensures.fault)
