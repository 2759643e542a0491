use Rattle.join.proofs.CaseJoins.{other_refused, run_joined, run_refused}
use Rattle.join.proofs.case_parts.joining.join_parts.Goals as goal

pub returns-in-Ok-Some-clause-refused : goal.returns-in-Ok-Some-clause-refused
returns-in-Ok-Some-clause-refused c =
    other_refused c.args.part c.args.parts.now.items c.as_slice.result.now c.in-Ok-Some.place c.as_slice.ensures.value (rw c.in-Ok-Some.field-0-is at c.in-Ok-Some.ensures)

pub returns-in-Ok-None-clause-joined : goal.returns-in-Ok-None-clause-joined
returns-in-Ok-None-clause-joined c =
    run_joined c.args.part c.args.parts.now.items c.as_slice.result.now c.as_slice.ensures.value (rw c.in-Ok-None.field-0-is at c.in-Ok-None.ensures) c.join_run.result c.join_run.ensures.joined

pub returns-in-Ok-None-clause-refused : goal.returns-in-Ok-None-clause-refused
returns-in-Ok-None-clause-refused c =
    run_refused c.args.part c.args.parts.now.items c.as_slice.result.now c.as_slice.ensures.value (rw c.in-Ok-None.field-0-is at c.in-Ok-None.ensures) c.join_run.result c.join_run.ensures.refused
