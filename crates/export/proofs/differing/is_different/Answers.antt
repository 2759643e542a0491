use Rattle.lanes.proofs.CallerLemmas.{same_test}
use Rattle.images.specs.Views.{sectors_of}
use Rattle.export.proofs.Unlike.{differs_read}
use Rattle.export.proofs.differing.is_different.Goals as goal

pub returns : goal.returns
returns c =
    differs_read (sectors_of c.args.one.now) (sectors_of c.args.other.now) c.args.number c.sector.result.now c.sector-2.result.now c.same-same.result
    c.sector.ensures c.sector-2.ensures (same_test _ _ c.same-same.result c.same-same.ensures)
