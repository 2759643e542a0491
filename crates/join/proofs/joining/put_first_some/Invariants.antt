use Rattle.std.proofs.Common.{◌≡◌, drop}
use Rattle.join.specs.Joining.{first_some}
use Rattle.join.proofs.joining.put_first_some.Given as goal

abbrev pub invariant-loop-part : goal.invariant-loop-part
invariant-loop-part l = (l.out.items ≡ l.initial.out.items) × (first_some l.parts ≡ first_some (drop l.part-index l.parts))
