use Rattle.std.proofs.Common.{◌≡◌}
use Rattle.images.specs.Changes.{changes_by}
use Rattle.images.proofs.Entries.{units_up_to}
use Rattle.images.proofs.changes.put_entry.Given as goal

abbrev pub invariant-loop-place : goal.invariant-loop-place
invariant-loop-place l =
    l.sectors.items ≡ changes_by l.versions l.flush (units_up_to l.versions.entries l.number l.entry l.place)
