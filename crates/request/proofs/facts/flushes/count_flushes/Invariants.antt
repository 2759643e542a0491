use Rattle.std.proofs.Common.{◌≡◌, ◌≤◌, take, count_by}
use Rattle.request.specs.Flushes.{is_flush_entry}
use Rattle.request.proofs.facts.flushes.count_flushes.Given as goal

abbrev pub invariant-loop-entry : goal.invariant-loop-entry
invariant-loop-entry l = (l.count ≡ count_by is_flush_entry (take l.entry-index l.entries)) × (l.count ≤ l.entry-index)
