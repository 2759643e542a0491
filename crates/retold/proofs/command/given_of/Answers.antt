use Rattle.std.proofs.lemmas.Option.{MatchOption-at_none}
use Rattle.join.specs.GivenReading.{given_told}
use Rattle.retold.specs.Retold.{IsGiven, NoneIsGiven, no_report, no_memory}
use Rattle.retold.proofs.command.given_of.Goals as goal

pub returns-in_default-clause-refused : goal.returns-in_default-clause-refused
returns-in_default-clause-refused c = rw c.of_memory.ensures no_memory

pub returns-in-None-clause-refused : goal.returns-in-None-clause-refused
returns-in-None-clause-refused c =
    let basis = c.args.basis.now in
    no_report _
    (MatchOption-at_none (NoneIsGiven basis.file.now basis.options.now basis.log.now c.args.report.now)
    (λ g. IsGiven basis.file.now basis.options.now basis.log.now c.args.report.now (given_told g)) c.in-None.is c.in-Ok.ensures)
