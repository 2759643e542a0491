use Rattle.logfmt.proofs.Canonical.{canonical_is_text}
use Rattle.logfmt.proofs.laws.canonical_is_text.Goals as goal

pub returns : goal.returns
returns c = canonical_is_text
