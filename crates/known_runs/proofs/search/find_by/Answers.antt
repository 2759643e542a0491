use Rattle.std.proofs.Common.{◌∙◌}
use Rattle.known_runs.specs.Asked.{asked_of}
use Rattle.known_runs.specs.Told.{no_search_memory}
use Rattle.known_runs.proofs.Telling.{contradicts, of_search, those_records}
use Rattle.known_runs.proofs.search.find_by.Goals as goal

pub returns-in_default-clause-refused : goal.returns-in_default-clause-refused
returns-in_default-clause-refused c = rw c.memory.ensures no_search_memory

pub returns-in-Some-clause-refused : goal.returns-in-Some-clause-refused
returns-in-Some-clause-refused c =
    let a = asked_of c.args.question.now in
    rw c.contradiction_of.ensures
    (contradicts a c.args.log.now c.args.plain.now c.args.runs.now c.in-Ok.records c.in-Some.found (those_records a c.args.plain.now c.args.runs.now c.by.result c.in-Ok.records c.by.ensures c.in-Ok.ensures)
    c.in-Some.ensures)

pub returns-clause-refused : goal.returns-clause-refused
returns-clause-refused c =
    let a = asked_of c.args.question.now in
    of_search a c.args.log.now c.args.plain.now c.args.runs.now c.in-Ok.records c.in-Err.refusal (those_records a c.args.plain.now c.args.runs.now c.by.result c.in-Ok.records c.by.ensures c.in-Ok.ensures)
    c.in_default-first_contradiction.ensures c.in-Err.ensures.refused
