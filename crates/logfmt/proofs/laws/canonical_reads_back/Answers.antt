use Rattle.logfmt.proofs.Canonical.{canonical_reads_back}
use Rattle.logfmt.proofs.laws.canonical_reads_back.Goals as goal

pub returns : goal.returns
returns c = canonical_reads_back
