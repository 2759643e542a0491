use Rattle.std.proofs.Common.{List, length, sym, subst, ◌∙◌, ap}
use Rattle.losses.specs.declared.cure.failure.Failure.{Failure}
use Rattle.losses.specs.declared.flushes.counted.MissingFlush.{MissingFlush}
use Rattle.losses.specs.Places.{AreWindows}
use Rattle.losses.specs.FailureWindows.{windows_in}
use Rattle.case_text.specs.Why.{parts_bytes}
use Rattle.case_text.proofs.Failures.{all_inside}
use Rattle.case_text.proofs.Telling.{why_told}
use Rattle.case_text.proofs.why.explained.Goals as goal

pub missing_of-requires : goal.missing_of-requires
missing_of-requires c =
    subst (λ (fs : List Failure). AreWindows (length c.args.log.now.entries) (windows_in fs)) (sym c.requires.failures)
    (all_inside c.args.log.now c.args.head.now.by c.args.asked.tears c.args.found.now c.requires.cuts)

pub returns : goal.returns
returns c =
    why_told c.args.head.now c.args.asked c.args.log.now c.args.found.now c.args.failures.now _ c.args.causes.now _ c.requires.failures c.requires.causes c.in_ok-flushes.ensures
    (c.in_ok-bytes.ensures ∙ ap (λ (ms : List MissingFlush). parts_bytes c.args.head.now c.args.asked c.args.found.now c.args.failures.now ms c.args.causes.now) c.as_slice.ensures.value)
