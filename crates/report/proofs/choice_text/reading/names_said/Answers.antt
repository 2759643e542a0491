use Rattle.std.proofs.Common.{rules}
use Rattle.report.proofs.Names.{hyphen_read}
use Rattle.report.proofs.choice_text.reading.names_said.Goals as goal

pub returns-then-eq : goal.returns-then-eq
returns-then-eq c = hyphen_read c.args.by c.args.text.now c.new.result.items (search rules) (search rules)
