use Rattle.std.proofs.Common.{string_bytes, map}
use Rattle.losses.specs.Causes.{TellsPrograms}
use Rattle.join.specs.Given.{line_told}
use Rattle.retold.specs.Told.{images_told_of, outcomes_told_of}
use Rattle.retold.proofs.why.put_all.Given as goal

abbrev pub invariant-loop-program : goal.invariant-loop-program
invariant-loop-program l =
    TellsPrograms l.subject.starts.now (λ program. images_told_of program (map line_told l.subject.lines.now)) (λ program. outcomes_told_of program (map line_told l.subject.lines.now)) l.program
    (string_bytes l.initial.out) (string_bytes l.out)
