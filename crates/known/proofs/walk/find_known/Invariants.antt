use Rattle.std.proofs.Common.{◌≡◌, ◌+◌}
use Rattle.losses.specs.FoundCases.{most_cases}
use Rattle.known.specs.Found.{AreFirstKnown, cases_in}
use Rattle.known.proofs.walk.find_known.Given as goal

abbrev pub invariant-loop-number : goal.invariant-loop-number
invariant-loop-number l = AreFirstKnown l.asked l.log l.way l.cuts l.records l.stops l.number-index l.out.items × (most_cases ≡ l.left + cases_in l.out.items)
