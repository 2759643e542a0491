use Rattle.choices.proofs.CrashModel.{ranked_is_model}
use Rattle.choices.proofs.laws.ranked_is_model.Goals as goal

pub returns : goal.returns
returns c = ranked_is_model
