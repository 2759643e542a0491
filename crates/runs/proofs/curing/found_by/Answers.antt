use Rattle.std.proofs.Common.{◌∙◌, ap, ◌++◌, List, length, sym}
use Rattle.report.specs.Line.{FailingLine}
use Rattle.losses.specs.CureText.{begin_text, uncured_text}
use Rattle.losses.specs.declared.cure.failure.Failure.{Failure}
use Rattle.runs.proofs.Judging.{few_judged}
use Rattle.runs.proofs.Tried.{by_images}
use Rattle.runs.proofs.curing.found_by.Goals as goal

pub begin_bytes-requires : goal.begin_bytes-requires
begin_bytes-requires c =
    ap (length {A = Failure}) c.as_slice.ensures.value ∙ c.in_ok-failures.ensures.fail.all ∙ sym (ap (length {A = FailingLine}) c.requires.lines)

pub returns : goal.returns
returns c =
    let task = c.args.task.now in
    by_images task.options.now task.log.now task.checkers.now c.in_ok-head.head c.args.work.lines c.in_ok-failures.failures.items c.in_ok-begin.begin.items _
    (few_judged _ _ task.span c.requires.whole task.judged) c.in_ok-head.ensures c.requires.lines c.in_ok-failures.ensures
    (c.in_ok-begin.ensures ∙ ap (λ (fs : List Failure). begin_text c.in_ok-head.head fs ++ uncured_text c.args.work.lines fs) c.as_slice.ensures.value) c.in_ok-last.ensures
