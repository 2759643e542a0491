use Rattle.std.proofs.Common.{rules}
use Rattle.join.proofs.CaseWords.{no_window_read}
use Rattle.join.proofs.case_parts.known.window_said.Goals as goal

pub returns-then-eq : goal.returns-then-eq
returns-then-eq c = no_window_read _ (search rules)
