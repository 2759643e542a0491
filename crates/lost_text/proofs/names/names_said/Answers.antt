use Rattle.std.proofs.Common.{rules}
use Rattle.lost_text.proofs.AnyNames.{hyphen_printed, hyphen_said}
use Rattle.lost_text.proofs.names.names_said.Goals as goal

pub returns-then-eq-clause-found : goal.returns-then-eq-clause-found
returns-then-eq-clause-found c = hyphen_printed c.args.by c.args.text.now c.new.result.items (search rules) (search rules)

pub returns-then-eq-clause-back : goal.returns-then-eq-clause-back
returns-then-eq-clause-back c = hyphen_said c.args.by c.args.text.now c.new.result.items (search rules) (search rules)
