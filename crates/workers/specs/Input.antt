-- What the work is given.
use Rattle.std.specs.Prelude.{ℕ, ◌≡◌, ◌≤◌, ◌<◌, ◌^◌, List, [], ◌∷◌, length, Option, None, Some}
use Rattle.epochs.specs.declared.part.By.{By}
use Rattle.epochs.specs.Plan.{PlanValue}
use Rattle.checker.specs.Checker.{CheckerValue, AreFor}
use Rattle.choices.specs.Choices.{limit}
use Rattle.choices.specs.Sums.{StartsValue}
use Rattle.report.specs.Line.{FailingLine}
use Rattle.workers.specs.Failing.{Subject, image_count, judged_count}

-- the history, the table of choices and what departs as one are those of the plan. Each checker is for the device of its log, the
-- images that are judged are some of the run's, and each number is within its limit.
pub record IsInput (s : Subject) (plan : PlanValue) (starts : StartsValue) (way : By) (workers cache : ℕ) : Type 0 where
  pub history : plan ≡ s.plan
  pub table : starts ≡ record { plan = s.plan; bound = s.bound; tears = s.tears }
  pub by_is : way ≡ s.plan.by
  pub bound : s.bound ≤ 3
  pub checkers : length s.checkers ≤ 8
  pub device : AreFor s.plan.log.sectors s.checkers
  pub some_worker : 1 ≤ workers
  pub few_workers : workers ≤ 64
  pub cache_size : cache ≤ 65536
  pub order : s.from ≤ s.to
  pub within : s.to ≤ image_count s
  pub few : judged_count s ≤ limit
  pub counted : image_count s < 2 ^ 63

-- the run of that plan and those checkers, as the shards of a cache name it, judges this subject
pub record IsRunOf (plan : PlanValue) (checkers : List CheckerValue) (s : Subject) : Type 0 where
  pub plan_is : plan ≡ s.plan
  pub checkers_are : checkers ≡ s.checkers

-- the line, if there is one
abbrev pub line_list : Option FailingLine → List FailingLine
line_list None = []
line_list (Some l) = l ∷ []
