use Rattle.std.proofs.Common.{arith}
use Rattle.std.proofs.lemmas.Option.{slice_get_within}
use Rattle.workers.proofs.told.first_told.Goals as goal

pub returns : goal.returns
returns c i x there = c.loop-place.invariant i (omega (arith, slice_get_within c.args.picks.now i x there)) x there
