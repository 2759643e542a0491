use Rattle.std.proofs.Common.{List, length, sym, subst}
use Rattle.losses.specs.declared.cure.failure.Failure.{Failure}
use Rattle.losses.specs.Places.{AreWindows}
use Rattle.losses.specs.FailureWindows.{windows_in, HoldNoFlush}
use Rattle.case_text.proofs.Failures.{all_inside}
use Rattle.case_text.proofs.Curing.{all_calm, begin_told}
use Rattle.case_text.proofs.cured.cure_of_cases.Goals as goal

pub returns-clause-inside : goal.returns-clause-inside
returns-clause-inside c =
    subst (λ (fs : List Failure). AreWindows (length c.args.log.now.entries) (windows_in fs)) (sym c.in_ok-all.ensures.failures)
    (all_inside c.args.log.now c.args.head.now.by c.args.asked.tears c.args.found.now c.requires.cuts)

pub returns-clause-calm : goal.returns-clause-calm
returns-clause-calm c =
    subst (λ (fs : List Failure). HoldNoFlush c.args.log.now.entries (windows_in fs)) (sym c.in_ok-all.ensures.failures)
    (all_calm c.args.log.now c.args.head.now.by c.args.asked.tears c.args.found.now c.requires.cuts)

pub returns-clause-begin : goal.returns-clause-begin
returns-clause-begin c =
    begin_told c.args.head.now c.args.asked c.args.log.now c.args.found.now _ c.as_slice.result.now _ c.in_ok-begin.begin.items c.in_ok-all.ensures.failures c.as_slice.ensures.value
    c.in_ok-all.ensures.uncured c.in_ok-begin.ensures
