use Rattle.std.proofs.Common.{◌≡◌, ◌<◌, IfSome}
use Rattle.crash_text.specs.Cut.{last_before, is_told_at}
use Rattle.crash_text.proofs.cut.last_told.Given as goal

abbrev pub invariant-loop-entry : goal.invariant-loop-entry
invariant-loop-entry l = (l.last ≡ last_before (is_told_at l.kind l.entries) l.entry) × IfSome l.last (λ e. e < l.entry)
