use Rattle.std.proofs.Common.{◌≡◌, ◌++◌, string_bytes}
use Rattle.losses.specs.CureText.{programs_text}
use Rattle.losses.proofs.cure.text.put_programs.Given as goal

abbrev pub invariant-loop-program : goal.invariant-loop-program
invariant-loop-program l = string_bytes l.out ≡ string_bytes l.initial.out ++ programs_text l.program l.failures
