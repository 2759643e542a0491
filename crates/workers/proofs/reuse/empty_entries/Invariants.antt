use Rattle.std.proofs.Common.{◌≡◌, ◌-◌, [], List, length, All}
use Rattle.workers.specs.Reuse.{EntryValue}
use Rattle.workers.proofs.reuse.empty_entries.Given as goal

abbrev pub invariant-loop-alloc : goal.invariant-loop-alloc
invariant-loop-alloc l = All (λ (own : List EntryValue). own ≡ []) l.entries.items

abbrev pub decreases-loop-alloc : goal.decreases-loop-alloc
decreases-loop-alloc l = l.count - length l.entries.items
