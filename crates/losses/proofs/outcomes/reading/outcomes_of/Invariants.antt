use denote.Shadow.{shadow}
use denote.Text.{Utf8}
use Rattle.std.proofs.Common.{map}
use Rattle.losses.proofs.Read.{StillReads}
use Rattle.losses.proofs.outcomes.reading.outcomes_of.Given as goal

abbrev pub invariant-loop-mark : goal.invariant-loop-mark
invariant-loop-mark l = StillReads l.text l.marks l.program l.mark-index l.rest (map (λ o. o.now) l.outcomes.items) × shadow (Utf8 l.rest)
