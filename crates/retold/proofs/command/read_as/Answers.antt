use Rattle.join.specs.Given.{NoReport, IsReportRead}
use Rattle.join.specs.GivenReading.{given_told}
use Rattle.retold.proofs.Bases.{none_as, uncounted}
use Rattle.retold.proofs.command.read_as.Goals as goal

pub returns-in_default : goal.returns-in_default
returns-in_default c =
    let basis = c.args.basis.now in
    let opening = c.args.opening.now in
    let none : NoReport opening.title.now opening.options.now basis.starts.now basis.images c.args.report.now = rw c.in_default.is at c.in_ok-found.ensures in
    none_as basis.file.now basis.options.now basis.log.now opening.programs opening.title.now opening.options.now basis.starts.now basis.images c.args.report.now
    c.requires.title c.requires.options basis.starts_are basis.images_are none

pub returns : goal.returns
returns c =
    let basis = c.args.basis.now in
    let opening = c.args.opening.now in
    let read : IsReportRead opening.title.now opening.options.now basis.starts.now basis.images c.args.report.now (given_told c.in-Some.given) = rw c.in-Some.is at c.in_ok-found.ensures in
    uncounted basis.file.now basis.options.now basis.log.now opening.programs opening.title.now opening.options.now basis.starts.now basis.images c.args.report.now
    (given_told c.in-Some.given) c.is_counted.result c.requires.title c.requires.options basis.starts_are basis.images_are read c.is_counted.ensures c.if-is_counted.false
