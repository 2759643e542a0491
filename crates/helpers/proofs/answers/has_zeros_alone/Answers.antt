use Rattle.lanes.proofs.CallerLemmas.{zero_test}
use Rattle.helpers.proofs.answers.has_zeros_alone.Goals as goal

pub returns : goal.returns
returns c = zero_test c.args.sector.now c.is_zero.result c.is_zero.ensures
