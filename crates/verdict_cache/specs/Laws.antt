-- One image tells what a key ends in.
use Rattle.std.specs.Prelude.{ℕ, ◌≡◌, List, Some, slice_get}
use Rattle.epochs.specs.Plan.{PlanValue}
use Rattle.choices.specs.Choices.{ChoiceValue}
use Rattle.checker.specs.Checker.{CheckerValue}
use Rattle.images.specs.Views.{view_of}
use Rattle.images.specs.Keys.{KeyValue, key_of}
use Rattle.verdict_cache.specs.Endings.{ending_on, IsEndingOf}

-- what a checker ends in on one image is what the key of both ends in on every image that has it
abbrev pub OneImageTells : Type 0
OneImageTells = (plan : PlanValue) (checkers : List CheckerValue) (choice : ChoiceValue) (program : ℕ) (checker : CheckerValue) (key : KeyValue)
    → slice_get checkers program ≡ Some checker → key_of (view_of plan choice) program ≡ Some key
    → IsEndingOf plan checkers key (ending_on plan choice checker)
