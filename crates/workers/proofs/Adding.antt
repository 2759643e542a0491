-- Parts that are added to a list for an entry.
use Rattle.std.proofs.Common.{ℕ, ◌≡◌, ◌++◌, Bool, true, false, IsTrue, IfOk, IsFalse, List, [], Some, None, Result, Ok, Err, refl, sym, ◌∙◌, append-nil}
use Rattle.epochs.specs.Plan.{PlanValue}
use Rattle.epochs.specs.Touching.{touching}
use Rattle.helpers.specs.Footprint.{FootprintValue}
use Rattle.workers.specs.Entries.{AddsTold}
use Rattle.epochs.proofs.Touching.{touching_rises}

-- none
pub adds_none : (old new : List ℕ) (plan : PlanValue) (cut : ℕ) (footprint : FootprintValue) → new ≡ old → AddsTold old new plan cut footprint false
adds_none old new plan cut footprint same = record {
  more = [];
  grows = same ∙ sym (append-nil old);
  rising = λ i j a b lt first second. absurd (let bad : None ≡ Some a = first in cc);
  cover = λ told. absurd (let bad : false ≡ true = told in cc);
}

adds_those : (old new sectors : List ℕ) (plan : PlanValue) (cut : ℕ) (footprint : FootprintValue) → footprint.sectors ≡ Some sectors
    → new ≡ old ++ touching plan.by plan.log.entries cut sectors → AddsTold old new plan cut footprint true
adds_those old new sectors plan cut footprint kept grows = record {
  more = touching plan.by plan.log.entries cut sectors;
  grows = grows;
  rising = touching_rises plan.by plan.log.entries cut sectors;
  cover = λ told. (sectors, kept, refl);
}

-- those that cover a sector, or none
pub adds_touching : {E : Type 0} (result : Result Bool E) (old new sectors : List ℕ) (plan : PlanValue) (cut : ℕ) (footprint : FootprintValue) → footprint.sectors ≡ Some sectors
    → IfOk result (λ few. IsTrue few → new ≡ old ++ touching plan.by plan.log.entries cut sectors) → IfOk result (λ few. IsFalse few → new ≡ old)
    → IfOk result (AddsTold old new plan cut footprint)
adds_touching (Ok true) old new sectors plan cut footprint kept told none = adds_those old new sectors plan cut footprint kept (told refl)
adds_touching (Ok false) old new sectors plan cut footprint kept told none = adds_none old new plan cut footprint (none refl)
adds_touching (Err e) old new sectors plan cut footprint kept told none = tt
