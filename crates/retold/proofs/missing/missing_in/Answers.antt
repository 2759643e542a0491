use Rattle.std.proofs.Common.{List, length, sym, ap, subst, ◌∙◌}
use Rattle.logfmt.specs.Bounds.{LogValue}
use Rattle.losses.specs.declared.cure.failure.Failure.{Failure}
use Rattle.losses.specs.Places.{AreWindows}
use Rattle.losses.specs.Counted.{AreMissing}
use Rattle.losses.specs.FailureWindows.{windows_in}
use Rattle.retold.proofs.missing.missing_in.Goals as goal

pub missing_of-requires : goal.missing_of-requires
missing_of-requires c =
    let subject = c.args.subject.now in
    subst (λ (fs : List Failure). AreWindows (length subject.log.now.entries) (windows_in fs)) (sym c.as_slice.ensures.value)
    (subst (λ (l : LogValue). AreWindows (length l.entries) (windows_in c.in_ok-failures.failures.items)) subject.log_is c.in_ok-failures.ensures.inside)

pub returns : goal.returns
returns c =
    record {
      failures = c.in_ok-failures.ensures;
      missing = subst (λ (fs : List Failure). AreMissing (windows_in fs) c.in_ok-flushes.flushes.items) c.as_slice.ensures.value c.in_ok-flushes.ensures;
    }
