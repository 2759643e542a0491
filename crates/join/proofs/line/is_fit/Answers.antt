use Rattle.join.proofs.Bodies.{fit_by_program, unfit}
use Rattle.join.proofs.line.is_fit.Goals as goal

pub returns-then-words-lt4294967296 : goal.returns-then-words-lt4294967296
returns-then-words-lt4294967296 c = fit_by_program c.args.words c.if-words-lt4294967296.true

pub returns-else-words-lt4294967296 : goal.returns-else-words-lt4294967296
returns-else-words-lt4294967296 c = unfit c.args.words c.if-words-lt4294967296.false
