use Rattle.std.proofs.Common.{arith}
use Rattle.images.proofs.Entries.{entry_there}
use Rattle.cases.proofs.Owned.{entry_fits, part_whole}
use Rattle.cases.proofs.row.part_of.Goals as goal

pub overflow_cast-result : goal.overflow_cast-result
overflow_cast-result c =
    let here = entry_there _ _ _ _ c.requires c.entries.ensures.value c.index-entries-unit.is in
    let fits = entry_fits c.args.log.now c.args.unit c.index-entries-unit.result c.entries.ensures.bounds c.requires here in
    omega (arith, fits)

pub overflow_cast-result-in-Write : goal.overflow_cast-result-in-Write
overflow_cast-result-in-Write c =
    let here = entry_there _ _ _ _ c.requires c.entries.ensures.value c.index-entries-unit.is in
    let fits = entry_fits c.args.log.now c.args.unit c.index-entries-unit.result c.entries.ensures.bounds c.requires here in
    omega (arith, fits)

pub returns-in-Write : goal.returns-in-Write
returns-in-Write c =
    part_whole c.args.log.now.entries c.args.way c.args.unit c.index-entries-unit.result (entry_there _ _ _ _ c.requires c.entries.ensures.value c.index-entries-unit.is) c.in-Write.is
