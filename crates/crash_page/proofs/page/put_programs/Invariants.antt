use Rattle.std.proofs.Common.{◌≡◌, ◌++◌, drop, string_bytes}
use Rattle.crash_page.specs.Page.{programs_text}
use Rattle.crash_page.proofs.page.put_programs.Given as goal

abbrev pub invariant-loop-program : goal.invariant-loop-program
invariant-loop-program l = string_bytes l.out ++ programs_text l.run.starts.now l.program (drop l.program l.programs) ≡ string_bytes l.initial.out ++ programs_text l.run.starts.now 0 l.programs
