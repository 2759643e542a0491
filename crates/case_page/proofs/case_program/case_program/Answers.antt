use Rattle.std.proofs.Common.{List, ◌∙◌, length, filter, sym, ap, subst}
use Rattle.losses.specs.declared.cure.failure.Failure.{Failure}
use Rattle.losses.specs.Places.{AreWindows}
use Rattle.losses.specs.Counted.{AreMissing}
use Rattle.losses.specs.FailureWindows.{windows_in}
use Rattle.losses.specs.CureText.{is_uncured}
use Rattle.case_page.specs.CasePage.{run_of}
use Rattle.case_page.proofs.CaseFlushes.{all_inside}
use Rattle.case_page.proofs.case_program.case_program.Goals as goal

pub missing_of-requires : goal.missing_of-requires
missing_of-requires c =
    subst (λ (fs : List Failure). AreWindows (length c.args.run.now.log.now.entries) (windows_in fs)) (sym (c.as_slice.ensures.value ∙ c.in_ok-failures.ensures))
    (all_inside (run_of c.args.run.now) c.args.program c.args.found.now c.requires.cuts)

pub returns : goal.returns
returns c =
    record {
      head = c.requires.head;
      missing = subst (λ (fs : List Failure). AreMissing (windows_in fs) c.in_ok-missing.missing.items) (c.as_slice.ensures.value ∙ c.in_ok-failures.ensures) c.in_ok-missing.ensures;
      uncured = c.uncured_of.ensures.value ∙ ap (λ (fs : List Failure). length (filter (is_uncured 0) fs)) (c.as_slice-2.ensures.value ∙ c.in_ok-failures.ensures);
    }
