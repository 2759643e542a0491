use Rattle.std.proofs.Common.{string_bytes}
use Rattle.losses.specs.ProgramOutcomes.{outcomes_failing}
use Rattle.losses.proofs.Causes.{tells_none, tells_more}
use Rattle.runs.specs.Why.{images_failing}
use Rattle.runs.proofs.causes.put_all.Goals as goal

pub loop-program-init : goal.loop-program-init
loop-program-init c =
    let ls = c.args.findings.now.lines.now in
    tells_none c.args.findings.now.starts.now (λ program. images_failing program ls) (λ program. outcomes_failing program ls) (string_bytes c.args.out.now)

pub loop-program-preserved : goal.loop-program-preserved
loop-program-preserved c =
    let ls = c.args.findings.now.lines.now in
    tells_more c.args.findings.now.starts.now (λ program. images_failing program ls) (λ program. outcomes_failing program ls) c.loop-program.program _ _ _ c.loop-program.invariant
    c.in_ok-put_program.ensures

pub put_program-requires : goal.put_program-requires
put_program-requires c = c.requires.images c.loop-program.program
