use Rattle.std.proofs.Common.{List, All, option_map, sym, subst}
use Rattle.known.specs.declared.run.KnownRun.{KnownRun}
use Rattle.known.specs.Records.{IsRun}
use Rattle.known_text.specs.Pieces.{head_said}
use Rattle.known_runs.specs.Asked.{asked_of}
use Rattle.known_runs.specs.Number.{source_of}
use Rattle.known_runs.specs.Told.{RefusesBy, for_records, no_memory}
use Rattle.known_runs.proofs.Running.{are_runs}
use Rattle.known_runs.proofs.Telling.{of_text}
use Rattle.known_runs.proofs.command.found_of.Goals as goal

pub returns-in_default-clause-refused : goal.returns-in_default-clause-refused
returns-in_default-clause-refused c = rw c.memory.ensures no_memory

pub returns-in-Err-clause-refused : goal.returns-in-Err-clause-refused
returns-in-Err-clause-refused c = of_text (asked_of c.args.question.now) c.args.log.now c.args.plain.now c.in-Err.fault c.in-Err.ensures.refused

pub find_by-requires-clause-runs : goal.find_by-requires-clause-runs
find_by-requires-clause-runs c =
    let a = asked_of c.args.question.now in
    let known = c.in-Ok-read_records.known in
    subst (λ (rs : List KnownRun). All (IsRun c.args.plain.now a.settings.by) rs) (sym c.as_slice.ensures.value)
    (are_runs (source_of a c.args.plain.now) a.records (option_map head_said known.head) known.runs.items c.in-Ok-read_records.ensures.known)

pub returns-clause-refused : goal.returns-clause-refused
returns-clause-refused c =
    let a = asked_of c.args.question.now in
    let known = c.in-Ok-read_records.known in
    for_records _ (option_map head_said known.head) known.runs.items c.in-Ok-read_records.ensures.known
    (subst (λ (rs : List KnownRun). RefusesBy a c.args.log.now c.args.plain.now rs c.in-Err-find_by.fault) c.as_slice.ensures.value c.in-Err-find_by.ensures.refused)
