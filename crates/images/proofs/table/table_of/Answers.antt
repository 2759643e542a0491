use Rattle.std.proofs.Common.{List, subst}
use Rattle.epochs.specs.declared.unit.Unit.{Unit as LogUnit}
use Rattle.images.specs.Table.{AreStarts}
use Rattle.images.proofs.table.table_of.Goals as goal

pub returns : goal.returns
returns c =
    let are = c.in_ok-units.ensures in
    record {
      bounds = are.bounds;
      rising = are.rising;
      filled = are.filled;
      starts = subst (λ (us : List LogUnit). AreStarts us c.in_ok-starts.starts.items) c.as_slice.ensures.value c.in_ok-starts.ensures;
    }
