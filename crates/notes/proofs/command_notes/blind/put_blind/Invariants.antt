use Rattle.std.proofs.Common.{◌≡◌, ◌++◌, take, string_bytes}
use Rattle.notes.specs.Blind.{blind_texts}
use Rattle.notes.proofs.command_notes.blind.put_blind.Given as goal

abbrev pub invariant-loop-number : goal.invariant-loop-number
invariant-loop-number l = string_bytes l.out ≡ string_bytes l.initial.out ++ blind_texts 0 (take l.number l.blind)
