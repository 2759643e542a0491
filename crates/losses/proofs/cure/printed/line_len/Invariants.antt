use Rattle.std.proofs.Common.{◌≡◌, true, take}
use Rattle.report.specs.MarkReading.{lacks}
use Rattle.losses.proofs.cure.printed.line_len.Given as goal

abbrev pub invariant-loop-place : goal.invariant-loop-place
invariant-loop-place l = lacks 10 (take l.place l.text) ≡ true
