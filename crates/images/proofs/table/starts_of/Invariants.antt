use Rattle.std.proofs.Common.{◌≡◌, length}
use Rattle.images.specs.Table.{AreStarts}
use Rattle.images.proofs.table.starts_of.Given as goal

abbrev pub invariant-loop-page : goal.invariant-loop-page
invariant-loop-page l = (length l.starts.items ≡ l.page) × AreStarts l.units l.starts.items
