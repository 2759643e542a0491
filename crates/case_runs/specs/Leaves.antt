-- The leaves of which a judge was told, and those that fail.
use Rattle.std.specs.Prelude.{ℕ, Bool, ◌≡◌, ◌+◌, ◌≤◌, if◌then◌else◌, List, [], ◌∷◌, ◌++◌}
use Rattle.helpers.specs.declared.device.Context.{Context}
use Rattle.machine.specs.Outcome.{Ending, fails}
use Rattle.interp.specs.Ending.{ending_of}
use Rattle.checker.specs.Checker.{CheckerValue, IsFor}
use Rattle.checker.specs.Memory.{IsServed}
use Rattle.cases.specs.Search.{LeafValue}
use Rattle.losses.specs.FoundCases.{FailingValue}
use Rattle.case_runs.specs.declared.leaves.ToldLeaf.{ToldLeaf}

-- a leaf as it was told
abbrev pub leaf_of : ToldLeaf → LeafValue
leaf_of t = record { sets = t.sets.value.items; ending = ending_of t.outcome.value }

-- leaf n, if it fails
abbrev pub failing_if : ℕ → LeafValue → List FailingValue
failing_if n leaf = if fails leaf.ending then record { number = n; ending = leaf.ending; sets = leaf.sets } ∷ [] else []

-- the leaves that fail, of some leaves of which the first has number n
abbrev pub failing_from : ℕ → List LeafValue → List FailingValue
failing_from n [] = []
failing_from n (leaf ∷ leaves) = failing_if n leaf ++ failing_from (n + 1) leaves

-- a judge: a checker, the context of a cut, what its last run ended in, at which sectors it looked there, the leaves that it was told of, and those of them that fail
pub record JudgeValue : Type 0 where
  pub checker : CheckerValue
  pub context : Context
  pub ending : Ending
  pub looked : List ℕ
  pub leaves : List LeafValue
  pub failing : List FailingValue

-- a checker may be run in a context
pub record IsFit (checker : CheckerValue) (context : Context) : Type 0 where
  pub device : IsFor context.sectors checker.verified
  pub epoch : context.epoch ≤ 65536
  pub marks : context.marks ≤ 65536

-- whether there is memory for its program, and what is kept
pub record IsJudge (checker : CheckerValue) (memory : Bool) (context : Context) (leaves : List LeafValue) (failing : List FailingValue) : Type 0 where
  pub fit : IsFit checker context
  pub served : IsServed memory checker.guards
  pub those : failing ≡ failing_from 0 leaves
