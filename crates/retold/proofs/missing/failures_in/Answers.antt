use Rattle.std.proofs.Common.{◌∙◌, List, map, slice_get, sym, ap, subst}
use Rattle.std.proofs.lemmas.Result.{IfOk-weaker}
use Rattle.report.specs.declared.lines.marks.LineMark.{LineMark}
use Rattle.losses.specs.FailureWindows.{AreFailuresAt}
use Rattle.join.specs.Given.{line_told}
use Rattle.retold.proofs.Rising.{marks_within}
use Rattle.retold.proofs.missing.failures_in.Goals as goal

pub failures_of-requires-clause-images : goal.failures_of-requires-clause-images
failures_of-requires-clause-images c =
    λ i m there.
    marks_within c.args.subject.now.starts.now (map line_told c.args.subject.now.lines.now) c.requires i m
    (ap (λ (ks : List LineMark). slice_get ks i) (sym (c.as_slice.ensures.value ∙ c.in_ok-marks.ensures)) ∙ there)

pub returns : goal.returns
returns c =
    IfOk-weaker c.failures_of.result _ _
    (λ fs are. subst (λ (ms : List LineMark). AreFailuresAt c.args.subject.now.starts.now ms fs.items) (c.as_slice.ensures.value ∙ c.in_ok-marks.ensures) are) c.failures_of.ensures
