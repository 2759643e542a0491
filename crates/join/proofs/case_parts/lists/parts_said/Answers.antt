use Rattle.std.proofs.Common.{rules}
use Rattle.join.proofs.CaseLists.{no_parts}
use Rattle.join.proofs.case_parts.lists.parts_said.Goals as goal

pub returns-then-eq : goal.returns-then-eq
returns-then-eq c = no_parts c.args.by c.args.text.now c.new-found.result.items c.new-found.ensures.items (search rules)
