use Rattle.std.proofs.Common.{List, map, sym, subst}
use Rattle.join.specs.declared.given.told.GivenLine.{GivenLine}
use Rattle.join.specs.Given.{line_told}
use Rattle.join.specs.GivenReading.{given_told}
use Rattle.retold.specs.Told.{AreOfRun}
use Rattle.retold.proofs.Bases.{of_run_in}
use Rattle.retold.proofs.command.told.Goals as goal

pub why_text-requires-clause-of_run : goal.why_text-requires-clause-of_run
why_text-requires-clause-of_run c =
    let basis = c.args.basis.now in
    subst (λ (ts : List GivenLine). AreOfRun basis.starts.now (map line_told ts)) (sym c.as_slice.ensures.value)
    (of_run_in basis.file.now basis.options.now basis.log.now c.args.report.now basis.starts.now (given_told c.args.given.now) basis.starts_are c.requires)

pub places_text-requires-clause-of_run : goal.places_text-requires-clause-of_run
places_text-requires-clause-of_run c =
    let basis = c.args.basis.now in
    subst (λ (ts : List GivenLine). AreOfRun basis.starts.now (map line_told ts)) (sym c.as_slice.ensures.value)
    (of_run_in basis.file.now basis.options.now basis.log.now c.args.report.now basis.starts.now (given_told c.args.given.now) basis.starts_are c.requires)

pub page_of-requires-clause-of_run : goal.page_of-requires-clause-of_run
page_of-requires-clause-of_run c =
    let basis = c.args.basis.now in
    subst (λ (ts : List GivenLine). AreOfRun basis.starts.now (map line_told ts)) (sym c.as_slice.ensures.value)
    (of_run_in basis.file.now basis.options.now basis.log.now c.args.report.now basis.starts.now (given_told c.args.given.now) basis.starts_are c.requires)

pub page_of-requires-clause-head : goal.page_of-requires-clause-head
page_of-requires-clause-head c =
    let is = c.requires.as_said.read.is in
    record { judges = is.judges; are = is.are; head = is.head }
