use Rattle.std.proofs.Common.{◌≡◌, take}
use Rattle.logfmt.specs.Flushed.{flushed_at, is_place}
use Rattle.logfmt.proofs.entry.Log.with_flushes.Given as goal

abbrev pub invariant-loop-place : goal.invariant-loop-place
invariant-loop-place l = l.entries.items ≡ flushed_at (is_place (take l.place-index l.places)) l.fn.self.entries
