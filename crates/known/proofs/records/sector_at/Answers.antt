use Rattle.std.proofs.Common.{true}
use Rattle.known.proofs.Telling.{kept_is}
use Rattle.known.proofs.records.sector_at.Goals as goal

pub returns : goal.returns
returns c = kept_is _ c.args.number c.sector-bytes.result (c.sector-bytes.ensures true)
