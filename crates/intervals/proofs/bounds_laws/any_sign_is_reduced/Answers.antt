use Rattle.intervals.proofs.Reduced.{any_fits, any_reduces}
use Rattle.intervals.proofs.Outcomes.{any_has, any_holds}
use Rattle.intervals.proofs.bounds_laws.any_sign_is_reduced.Goals as goal

pub returns : goal.returns
returns c =
    record {
      reduces = any_reduces;
      fits = any_fits;
      words = λ u a h. ((λ k. any_has u a h k), (λ k. k.word));
      greatest = any_holds;
    }
