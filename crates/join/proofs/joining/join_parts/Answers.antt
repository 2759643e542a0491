use Rattle.join.proofs.Joins.{run_text, run_refused, other_refused}
use Rattle.join.proofs.joining.join_parts.Goals as goal

pub returns-in-Some-clause-refused : goal.returns-in-Some-clause-refused
returns-in-Some-clause-refused c = other_refused c.args.part c.args.parts.now.items c.as_slice.result.now c.in-Some.place c.as_slice.ensures.value c.in-Some.ensures

pub returns-in-None-clause-joined : goal.returns-in-None-clause-joined
returns-in-None-clause-joined c = run_text c.args.part c.args.parts.now.items c.as_slice.result.now c.as_slice.ensures.value c.in-None.ensures c.join_run.result c.join_run.ensures.joined

pub returns-in-None-clause-refused : goal.returns-in-None-clause-refused
returns-in-None-clause-refused c = run_refused c.args.part c.args.parts.now.items c.as_slice.result.now c.as_slice.ensures.value c.in-None.ensures c.join_run.result c.join_run.ensures.refused
