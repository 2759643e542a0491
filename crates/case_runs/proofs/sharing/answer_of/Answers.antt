use Rattle.case_runs.proofs.Turning.{answer_told}
use Rattle.case_runs.proofs.sharing.answer_of.Goals as goal

pub returns-clause-answer : goal.returns-clause-answer
returns-clause-answer g c =
    answer_told c.args.work.now c.args.job.now.cut c.args.job.now.program c.args.most c.args.cut.now c.args.checker.now c.args.job.now.start.now c.in_ok-copy_start.field-0 c.in_ok-ran.ran _ c.requires.cut
    c.requires.checker c.in_ok-copy_start.ensures.whole c.in_ok-copy_start.ensures.sets c.in_ok-ran.ensures.ran c.in_ok-pieces_of.ensures
