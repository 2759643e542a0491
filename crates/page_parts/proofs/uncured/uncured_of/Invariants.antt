use Rattle.std.proofs.Common.{◌≡◌, ◌≤◌, length, filter, take}
use Rattle.losses.specs.CureText.{is_uncured}
use Rattle.page_parts.proofs.uncured.uncured_of.Given as goal

abbrev pub invariant-loop-failure : goal.invariant-loop-failure
invariant-loop-failure l = (l.count ≡ length (filter (is_uncured l.program) (take l.failure-index l.failures))) × (l.count ≤ l.failure-index)
