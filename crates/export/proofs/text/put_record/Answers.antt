use Rattle.std.proofs.Common.{subst}
use Rattle.images.specs.Views.{sectors_of}
use Rattle.export.specs.Streaming.{Puts}
use Rattle.export.proofs.Streaming.{puts_more, record_is}
use Rattle.export.proofs.text.put_record.Goals as goal

pub returns : goal.returns
returns g c =
    subst (Puts _ _) (record_is (sectors_of c.args.image.now) c.args.number _ _ _ _ c.from.ensures c.bytes_of-bytes.ensures c.sector.ensures c.as_slice.ensures)
    (puts_more _ _ _ _ _ c.put.ensures c.put-2.ensures)
