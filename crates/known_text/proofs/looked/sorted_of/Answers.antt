use Rattle.known_text.proofs.Sectors.{sorted_order}
use Rattle.known_text.proofs.looked.sorted_of.Goals as goal

pub returns-clause-order : goal.returns-clause-order
returns-clause-order c = sorted_order c.sort.new.self.items c.in_ok-sort.ensures.sorted
