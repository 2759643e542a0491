use Rattle.std.proofs.Common.{map, string_bytes}
use Rattle.losses.proofs.Causes.{tells_none, tells_more}
use Rattle.join.specs.Given.{line_told}
use Rattle.retold.specs.Told.{images_told_of, outcomes_told_of}
use Rattle.retold.proofs.why.put_all.Goals as goal

pub loop-program-init : goal.loop-program-init
loop-program-init c =
    let ts = map line_told c.args.subject.now.lines.now in
    tells_none c.args.subject.now.starts.now (λ program. images_told_of program ts) (λ program. outcomes_told_of program ts) (string_bytes c.args.out.now)

pub loop-program-preserved : goal.loop-program-preserved
loop-program-preserved c =
    let ts = map line_told c.args.subject.now.lines.now in
    tells_more c.args.subject.now.starts.now (λ program. images_told_of program ts) (λ program. outcomes_told_of program ts) c.loop-program.program _ _ _ c.loop-program.invariant
    c.in_ok-put_program.ensures
