use Rattle.std.proofs.Common.{string_bytes}
use Rattle.losses.specs.ProgramOutcomes.{outcomes_failing}
use Rattle.losses.specs.Causes.{TellsPrograms}
use Rattle.runs.specs.Why.{images_failing}
use Rattle.runs.proofs.causes.put_all.Given as goal

abbrev pub invariant-loop-program : goal.invariant-loop-program
invariant-loop-program l =
    TellsPrograms l.findings.starts.now (λ program. images_failing program l.findings.lines.now) (λ program. outcomes_failing program l.findings.lines.now) l.program (string_bytes l.initial.out)
    (string_bytes l.out)
