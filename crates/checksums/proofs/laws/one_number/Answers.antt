use Rattle.checksums.proofs.Linear.{one_number}
use Rattle.checksums.proofs.laws.one_number.Goals as goal

pub returns : goal.returns
returns c = one_number
