use Rattle.join.specs.GivenReading.{given_told}
use Rattle.retold.proofs.Titles.{own_there, said_own}
use Rattle.retold.proofs.page.own_judge.Goals as goal

pub unreachable-requires : goal.unreachable-requires
unreachable-requires c = own_there c.args.options.now (given_told c.args.given.now) c.requires.head c.requires.outside c.in-None.ensures

pub returns : goal.returns
returns c = said_own c.args.options.now (given_told c.args.given.now) c.args.program c.in-Some.words c.requires.outside c.in-Some.ensures
