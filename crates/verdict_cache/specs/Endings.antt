-- What an entry of the cache has to say of a run (docs/PROVED.md, Threads and the cache).
use Rattle.std.specs.Prelude.{ℕ, ◌≡◌, List, Some, slice_get, Contains}
use Rattle.epochs.specs.Plan.{PlanValue}
use Rattle.choices.specs.Choices.{ChoiceValue}
use Rattle.machine.specs.Outcome.{Ending}
use Rattle.interp.specs.declared.outcome.Outcome.{Outcome}
use Rattle.interp.specs.Ending.{ending_of}
use Rattle.checker.specs.Checker.{CheckerValue, judgement}
use Rattle.images.specs.Views.{view_of, sectors_of, context_at}
use Rattle.images.specs.Keys.{KeyValue, key_of}

-- what a checker ends in on the image of a choice
abbrev pub ending_on : PlanValue → ChoiceValue → CheckerValue → Ending
ending_on plan choice checker = judgement checker (sectors_of (view_of plan choice)) (context_at plan.log choice.cut)

-- on each image of the plan and with each checker that have the key together, the checker ends so
abbrev pub IsEndingOf : PlanValue → List CheckerValue → KeyValue → Ending → Type 0
IsEndingOf plan checkers key ending = (choice : ChoiceValue) (program : ℕ) (checker : CheckerValue)
    → slice_get checkers program ≡ Some checker → key_of (view_of plan choice) program ≡ Some key
    → ending ≡ ending_on plan choice checker

-- each entry has what its key ends in
abbrev pub AreTrue : PlanValue → List CheckerValue → List (KeyValue × Outcome) → Type 0
AreTrue plan checkers entries = (key : KeyValue) (outcome : Outcome) → Contains entries (key, outcome)
    → IsEndingOf plan checkers key (ending_of outcome)
