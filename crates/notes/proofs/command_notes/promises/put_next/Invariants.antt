use Rattle.std.proofs.Common.{◌≡◌, ◌++◌, take, string_bytes}
use Rattle.std.specs.List.{flat_map}
use Rattle.notes.specs.Promises.{next_text}
use Rattle.notes.proofs.command_notes.promises.put_next.Given as goal

abbrev pub invariant-loop-mark : goal.invariant-loop-mark
invariant-loop-mark l = string_bytes l.out ≡ string_bytes l.initial.out ++ flat_map next_text (take l.mark-index l.marks)
