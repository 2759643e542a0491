use Rattle.std.proofs.Common.{sym, subst}
use Rattle.case_runs.specs.declared.pieces.Subtree.{Subtree}
use Rattle.case_runs.specs.Pieces.{subject_in, IsStep}
use Rattle.case_runs.specs.Shares.{cut_in}
use Rattle.case_runs.proofs.Piecing.{told_step, open_step}
use Rattle.case_runs.proofs.joining.found_of.Goals as goal

pub returns-in-Told : goal.returns-in-Told
returns-in-Told g c =
    let at = cut_in c.args.work.now c.args.number in
    let s = subject_in c.args.work.now.asked at c.args.checker.now in
    subst (λ (it : Subtree). IsStep s c.args.work.now.asked.tears at it c.in-Told.found c.args.most) (sym c.in-Told.is) (told_step s c.args.work.now.asked.tears at c.in-Told.found c.args.most)

pub returns-in_ok-ran-in-Open : goal.returns-in_ok-ran-in-Open
returns-in_ok-ran-in-Open g c =
    let at = cut_in c.args.work.now c.args.number in
    let s = subject_in c.args.work.now.asked at c.args.checker.now in
    subst (λ (it : Subtree). IsStep s c.args.work.now.asked.tears at it c.in_ok-ran-in-Open.ran.found c.args.most) (sym c.in-Open.is)
    (open_step c.args.work.now.asked at c.args.checker.now c.args.most c.in-Open.start c.in_ok-ran-in-Open.ran c.in_ok-ran-in-Open.ensures)
