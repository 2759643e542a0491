-- What is known of a checker and an image.
use Rattle.std.proofs.Common.{ℕ, ◌≡◌, ◌+◌, ◌<◌, List, [], ◌∷◌, ◌++◌, None, sym, subst, arith, append-nil}
use Rattle.std.specs.List.{filter_map}
use Rattle.choices.specs.Choices.{ChoiceValue}
use Rattle.choices.specs.Picked.{PickedValue, IsRanked, choice_of_picked}
use Rattle.interp.specs.declared.outcome.Outcome.{Outcome}
use Rattle.interp.specs.Ending.{ending_of}
use Rattle.checker.specs.Checker.{CheckerValue}
use Rattle.report.specs.Line.{FailingLine}
use Rattle.workers.specs.declared.judging.Finding.{Finding}
use Rattle.workers.specs.declared.judging.Finding.TheVariants.{Good, Ends}
use Rattle.workers.specs.declared.look.Stop.{Stop}
use Rattle.workers.specs.Failing.{Subject, ending_at, line_of}
use Rattle.workers.specs.Images.{IsFinding, IsStop}

-- a checker that finds an image good adds no line
pub no_line_here : (s : Subject) (image n : ℕ) (choice : ChoiceValue) (checker : CheckerValue) (f : Finding) (lines : List FailingLine)
    → f ≡ Good → IsFinding s image choice n checker f → lines ≡ lines ++ filter_map (line_of s image) (n ∷ [])
no_line_here s image n choice checker f lines e h =
    let none : line_of s image n ≡ None = subst (IsFinding s image choice n checker) e h in
    rw none (sym (append-nil lines))

pub ends_so : (s : Subject) (image n : ℕ) (choice : ChoiceValue) (checker : CheckerValue) (f : Finding) (outcome : Outcome)
    → f ≡ Ends outcome → IsFinding s image choice n checker f → ending_of outcome ≡ ending_at s choice checker
ends_so s image n choice checker f outcome e h = subst (IsFinding s image choice n checker) e h

-- a checker before the one at which it stops
pub before_stop : (s : Subject) (p : PickedValue) (stop : Stop) (n : ℕ) (checker : CheckerValue) → IsStop s p stop → n < stop.checker
    → (image : ℕ) → IsRanked s.plan s.bound s.tears image p → IsFinding s image (choice_of_picked s.plan p) n checker Good
before_stop s p stop n checker is lt image ranked =
    let e : image + 0 ≡ image = omega arith in
    subst (λ k. line_of s k n ≡ None) e (is.0 n lt image 0 ranked (omega arith))
