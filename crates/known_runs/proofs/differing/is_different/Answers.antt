use Rattle.lanes.proofs.CallerLemmas.{same_test}
use Rattle.images.specs.Views.{sectors_of}
use Rattle.export.proofs.Unlike.{differs_read}
use Rattle.known_runs.proofs.differing.is_different.Goals as goal

pub returns : goal.returns
returns c =
    differs_read (sectors_of c.args.one.now) (sectors_of c.args.other.now) c.args.number c.sector-here.result c.sector-there.result c.same-same.result
    c.sector-here.ensures c.sector-there.ensures (same_test _ _ c.same-same.result c.same-same.ensures)
