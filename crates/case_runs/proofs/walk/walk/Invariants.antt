use Rattle.std.proofs.Common.{◌≡◌, ◌+◌, All, IsTrue}
use Rattle.losses.specs.FoundCases.{cases_in, most_cases}
use Rattle.case_runs.specs.Found.{AreFirstIn}
use Rattle.case_runs.specs.First.{NoneFails}
use Rattle.case_runs.specs.Shares.{IsBegun}
use Rattle.case_runs.proofs.walk.walk.Given as goal

abbrev pub invariant-loop-number : goal.invariant-loop-number
invariant-loop-number g l = AreFirstIn l.work.asked l.work.log.now l.work.way l.cuts l.work.checkers.now l.number-index l.out.items
    × (IsTrue l.work.first → NoneFails l.out.items)
    × (most_cases ≡ l.left + cases_in l.out.items)
    × All (IsBegun l.work) l.begun.items
