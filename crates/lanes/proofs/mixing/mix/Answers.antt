use Rattle.std.proofs.Common.{◌∙◌}
use Rattle.lanes.proofs.Mixes.{mix-joined}
use Rattle.lanes.proofs.mixing.mix.Goals as goal

pub returns : goal.returns
returns c = c.join.ensures ∙ mix-joined c.args.sector.now c.columns.result c.columns.ensures
