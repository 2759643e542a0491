use Rattle.std.proofs.Common.{◌∷◌, [], ◌++◌, ◌∙◌, ap}
use Rattle.case_runs.specs.Pieces.{open_as}
use Rattle.case_runs.proofs.Turning.{whole_open}
use Rattle.case_runs.proofs.rounds.whole_piece.Goals as goal

pub returns : goal.returns
returns c = whole_open c.args.work.now c.args.cut c.args.program c.all_choices.result c.push.new.self.items c.all_choices.ensures (c.in_ok-push.ensures.items ∙ ap (λ ps. ps ++ open_as c.all_choices.result ∷ []) c.new-pieces.ensures.items)
