use Rattle.losses.proofs.Told.{programs_next}
use Rattle.losses.proofs.cure.text.put_programs.Goals as goal

pub loop-program-preserved : goal.loop-program-preserved
loop-program-preserved c = programs_next c.args.failures.now c.loop-program.program _ _ _ c.loop-program.invariant c.in_ok-put_program.ensures
