use Rattle.std.proofs.Common.{sym, ◌∙◌}
use Rattle.images.proofs.Telling.{no_program}
use Rattle.images.proofs.view.View.key.Goals as goal

pub returns : goal.returns
returns c = no_program c.args.self.now 0 c.args.program (sym c.in_ok-key.ensures.value ∙ c.in-None.is)
