use Rattle.notes.proofs.Devices.{IsLeastOfFirst}
use Rattle.notes.proofs.device.least_device.Given as goal

abbrev pub invariant-loop-entry : goal.invariant-loop-entry
invariant-loop-entry l = IsLeastOfFirst l.log.entries l.entry-index l.least
