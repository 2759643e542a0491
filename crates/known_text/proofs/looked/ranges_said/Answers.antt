use Rattle.std.proofs.Common.{rules}
use Rattle.known_text.proofs.RangesRead.{none_read}
use Rattle.known_text.proofs.looked.ranges_said.Goals as goal

pub returns-then-eq : goal.returns-then-eq
returns-then-eq c = none_read c.args.text.now c.new-found.result.items c.new-found.ensures.items (search rules)
