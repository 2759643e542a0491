use Rattle.runs.specs.Cases.{some_fails}
use Rattle.runs.proofs.Casing.{first_within, tells_first}
use Rattle.runs.proofs.case_command.first_text_of.Goals as goal

pub write_first-requires-clause-cut : goal.write_first-requires-clause-cut
write_first-requires-clause-cut c = first_within _ _ _ _ _ _ _ c.requires.first c.requires.within

pub returns-clause-told : goal.returns-clause-told
returns-clause-told c =
    tells_first c.args.losses c.args.task.now c.args.cuts.now c.args.first.now _ _ c.in_ok-bytes.bytes.items c.requires.cuts c.requires.first c.in_ok-head.ensures c.losses_of-asked.ensures
    c.in_ok-bytes.ensures

pub returns-clause-left : goal.returns-clause-left
returns-clause-left c = some_fails
