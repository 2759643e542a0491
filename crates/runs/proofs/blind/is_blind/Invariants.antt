use Rattle.std.proofs.Common.{◌≡◌, true, take}
use Rattle.std.specs.List.{list_all}
use Rattle.epochs.specs.Cuts.{cuts_of}
use Rattle.checker.specs.Memory.{IsServed}
use Rattle.runs.specs.Blind.{is_bare, is_blind_at}
use Rattle.runs.proofs.blind.is_blind.Given as goal

abbrev pub invariant-loop-place : goal.invariant-loop-place
invariant-loop-place l =
    (list_all (is_blind_at l.checker l.task.log.now) (take l.place (cuts_of l.task.plan.now.kind l.task.log.now.entries)) ≡ true)
    × (list_all (is_bare l.task.log.now.entries) l.known.items ≡ true) × IsServed l.memory l.checker.guards
