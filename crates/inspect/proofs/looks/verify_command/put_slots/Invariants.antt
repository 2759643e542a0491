use Rattle.std.proofs.Common.{◌≡◌, ◌++◌, take, string_bytes}
use Rattle.inspect.specs.Verifying.{slots_text}
use Rattle.inspect.proofs.looks.verify_command.put_slots.Given as goal

abbrev pub invariant-loop-slot : goal.invariant-loop-slot
invariant-loop-slot l = string_bytes l.out ≡ string_bytes l.initial.out ++ slots_text l.program (take l.slot-index l.slots)
