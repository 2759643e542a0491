use Rattle.std.proofs.Common.{◌≡◌, ◌++◌, take}
use Rattle.join.specs.Joining.{shown_bytes}
use Rattle.std.proofs.Common.{false}
use Rattle.join.proofs.joining.put_all.Given as goal

abbrev pub invariant-loop-part : goal.invariant-loop-part
invariant-loop-part l = l.out.items ≡ l.initial.out.items ++ shown_bytes false (take l.part-index l.parts)
