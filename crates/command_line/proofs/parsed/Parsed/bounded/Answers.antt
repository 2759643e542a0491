use Rattle.std.proofs.Common.{true, false}
use Rattle.command_line.proofs.Asking.{of_bound}
use Rattle.command_line.proofs.parsed.Parsed.bounded.Goals as goal

pub returns-then-in_words : goal.returns-then-in_words
returns-then-in_words c = of_bound c.args.self.now c.args.in_words true c.options.result c.which.result c.if-in_words.true c.options.ensures c.which.ensures

pub returns-else-in_words : goal.returns-else-in_words
returns-else-in_words c =
    of_bound c.args.self.now c.args.in_words false c.options-else-in_words.result c.which-else-in_words.result c.if-in_words.false c.options-else-in_words.ensures
    c.which-else-in_words.ensures
