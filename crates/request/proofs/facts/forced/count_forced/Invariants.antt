use Rattle.std.proofs.Common.{◌≡◌, ◌≤◌, take, count_by}
use Rattle.request.specs.Forced.{is_forced_entry}
use Rattle.request.proofs.facts.forced.count_forced.Given as goal

abbrev pub invariant-loop-entry : goal.invariant-loop-entry
invariant-loop-entry l = (l.count ≡ count_by is_forced_entry (take l.entry-index l.entries)) × (l.count ≤ l.entry-index)
