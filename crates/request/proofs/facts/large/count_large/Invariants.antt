use Rattle.std.proofs.Common.{◌≡◌, ◌≤◌, take, count_by}
use Rattle.request.specs.Large.{is_large}
use Rattle.request.proofs.facts.large.count_large.Given as goal

abbrev pub invariant-loop-entry : goal.invariant-loop-entry
invariant-loop-entry l = (l.count ≡ count_by (is_large l.bound) (take l.entry-index l.entries)) × (l.count ≤ l.entry-index)
