use Rattle.std.proofs.Common.{rules}
use Rattle.join.proofs.CaseLists.{no_names}
use Rattle.join.proofs.case_parts.lists.names_said.Goals as goal

pub returns-then-eq : goal.returns-then-eq
returns-then-eq c = no_names c.args.by c.args.text.now c.new-names.result.items c.new-names.ensures.items (search rules)
