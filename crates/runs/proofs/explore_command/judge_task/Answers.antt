use Rattle.std.proofs.Common.{Bool, ap, subst}
use Rattle.std.proofs.lemmas.Result.{err_from_is_err_and}
use Rattle.request.specs.Source.{no_plan_memory}
use Rattle.choices.specs.Sums.{StartsValue}
use Rattle.runs.specs.Found.{AreFound}
use Rattle.runs.specs.Tasks.{lines_of}
use Rattle.runs.proofs.Findings.{found_of, fails_of_found}
use Rattle.runs.proofs.Explained.{starts_made}
use Rattle.runs.proofs.explore_command.judge_task.Goals as goal

pub returns-in-Err-clause-refused : goal.returns-in-Err-clause-refused
returns-in-Err-clause-refused g c = rw c.of_memory.ensures no_plan_memory

pub returns-in-Err-new-clause-refused : goal.returns-in-Err-new-clause-refused
returns-in-Err-new-clause-refused g c = rw c.of_memory-in-Err-new.ensures no_plan_memory

pub input_of-input-requires-clause-starts : goal.input_of-input-requires-clause-starts
input_of-input-requires-clause-starts g c =
    let task = c.args.task.now in
    starts_made task.options.now task.log.now task.plan.now c.bound-bound.result c.tears-tears.result _ task.plan_is c.bound-bound.ensures.value c.tears-tears.ensures c.in-Ok-new.ensures

pub input_of-input-requires-clause-history : goal.input_of-input-requires-clause-history
input_of-input-requires-clause-history g c = c.in-Ok.ensures

pub returns-in_err-work-clause-refused : goal.returns-in_err-work-clause-refused
returns-in_err-work-clause-refused g c =
    let p = err_from_is_err_and c.from_residual.result c.from_residual.ensures.1 in
    rw (p.1, p.2, c.in_err-work.ensures.refused) no_plan_memory

pub returns-in-Err-find_blind-clause-refused : goal.returns-in-Err-find_blind-clause-refused
returns-in-Err-find_blind-clause-refused g c = rw c.of_memory-in-Err-find_blind.ensures no_plan_memory

pub find_blind-requires-clause-starts : goal.find_blind-requires-clause-starts
find_blind-requires-clause-starts g c = ap (λ (s : StartsValue). s.plan) c.in-Ok-new.ensures

pub find_blind-requires-clause-history : goal.find_blind-requires-clause-history
find_blind-requires-clause-history g c = c.in-Ok.ensures

pub tell-requires-clause-starts : goal.tell-requires-clause-starts
tell-requires-clause-starts g c =
    let task = c.args.task.now in
    starts_made task.options.now task.log.now task.plan.now c.bound-bound.result c.tears-tears.result _ task.plan_is c.bound-bound.ensures.value c.tears-tears.ensures c.in-Ok-new.ensures

pub tell-requires-clause-history : goal.tell-requires-clause-history
tell-requires-clause-history g c = c.in-Ok.ensures

pub tell-requires-clause-lines : goal.tell-requires-clause-lines
tell-requires-clause-lines g c =
    let task = c.args.task.now in
    let found = found_of task c.is_first_asked-first.result c.input_of-input.result c.in_ok-work.work.lines c.input_of-input.ensures c.in_ok-work.ensures.whole c.in_ok-work.ensures.first in
    subst (λ (b : Bool). AreFound b (lines_of task) c.in_ok-work.work.lines) c.is_first_asked-first.ensures found

pub returns-clause-refused : goal.returns-clause-refused
returns-clause-refused g c = rw c.of_memory-in-Err-tell.ensures no_plan_memory

pub returns-in-Ok-tell-clause-failing : goal.returns-in-Ok-tell-clause-failing
returns-in-Ok-tell-clause-failing g c =
    let task = c.args.task.now in
    let found = found_of task c.is_first_asked-first.result c.input_of-input.result c.in_ok-work.work.lines c.input_of-input.ensures c.in_ok-work.ensures.whole c.in_ok-work.ensures.first in
    fails_of_found task.options.now task.log.now task.checkers.now _ c.in_ok-work.work.lines c.is_empty.result found c.is_empty.ensures
