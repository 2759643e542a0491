use Rattle.std.proofs.Common.{◌≡◌, ◌+◌, All, IsTrue}
use Rattle.losses.specs.FoundCases.{cases_at}
use Rattle.case_runs.specs.Found.{AreFirstAt}
use Rattle.case_runs.specs.First.{NoneFailsAt}
use Rattle.case_runs.specs.Shares.{cut_in, IsBegun}
use Rattle.case_runs.proofs.walk.met_at.Given as goal

abbrev pub invariant-loop-program : goal.invariant-loop-program
invariant-loop-program g l = AreFirstAt l.work.asked (cut_in l.work l.number) l.checkers l.program l.programs.items
    × (IsTrue l.work.first → NoneFailsAt l.programs.items)
    × (l.initial.left ≡ l.left + cases_at l.programs.items)
    × All (IsBegun l.work) l.begun.items
