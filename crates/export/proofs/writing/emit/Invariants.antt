use Rattle.std.proofs.Common.{◌≡◌, ◌≤◌, length, take, false}
use Rattle.std.specs.Io.KnownBytes.{Appends}
use Rattle.export.proofs.writing.emit.Given as goal

-- the bytes so far were written, and no write has failed
abbrev pub invariant-loop-turn : goal.invariant-loop-turn
invariant-loop-turn g l =
    (l.done ≤ length l.bytes) × Appends (g.W.Write.contents l.initial.out.writer) (g.W.Write.contents l.out.writer) (take l.done l.bytes) × (l.out.has_failed ≡ false)
