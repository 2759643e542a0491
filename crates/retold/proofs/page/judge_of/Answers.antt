use Rattle.join.specs.GivenReading.{given_told}
use Rattle.retold.proofs.Titles.{said_checker}
use Rattle.retold.proofs.page.judge_of.Goals as goal

pub returns-else-given : goal.returns-else-given
returns-else-given c =
    said_checker c.args.options.now (given_told c.args.given.now) c.args.program c.as_slice.result.now c.checker_at.result c.if-given.false c.as_slice.ensures.value c.checker_at.ensures
