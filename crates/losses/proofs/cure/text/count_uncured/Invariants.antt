use Rattle.std.proofs.Common.{◌≡◌, ◌≤◌, length, filter, take}
use Rattle.losses.specs.CureText.{is_uncured}
use Rattle.losses.proofs.cure.text.count_uncured.Given as goal

abbrev pub invariant-loop-failure : goal.invariant-loop-failure
invariant-loop-failure l =
    (l.count ≡ length (filter (is_uncured l.fn.program) (take l.failure-index l.fn.failures))) × (l.count ≤ l.failure-index)
