-- The law of pages: what a page takes of failing images is what `failures` tells of them.
use Rattle.std.specs.Prelude.{ℕ, List, All}
use Rattle.choices.specs.Sums.{StartsValue}
use Rattle.losses.specs.declared.why.cut.CutFailures.{CutFailures}
use Rattle.losses.specs.Failures.{AreCuts}
use Rattle.losses.specs.WhyText.{AreAllNumbered}
use Rattle.crash_page.specs.Page.{IsOfRun}

-- the cuts that `failures` tells of the failing images of a run, of which there are `lines`, are cuts that a page of that run can have
abbrev pub FailuresAreOfRun : Type 0
FailuresAreOfRun = (s : StartsValue) (failing : List ℕ) (outcomes : List (List ℕ)) (lines : ℕ) (cs : List CutFailures) → AreCuts s failing outcomes cs → AreAllNumbered s lines cs
    → All (IsOfRun s lines) cs
