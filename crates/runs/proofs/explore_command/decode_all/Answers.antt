use Rattle.runs.proofs.RefusalLemmas.{decoded_until, first_next, file_there}
use Rattle.runs.proofs.explore_command.decode_all.Goals as goal

pub returns-in-Err-clause-decoded : goal.returns-in-Err-clause-decoded
returns-in-Err-clause-decoded c =
    decoded_until _ _ c.loop-number.number c.as_slice.result.now _ c.loop-number.invariant
    (file_there _ c.args.files.now c.loop-number.number c.index-files-number.result _ c.loop-number-test.true c.index-files-number.is c.as_slice.ensures.value)
    c.in-Err.ensures.refused

pub loop-number-preserved : goal.loop-number-preserved
loop-number-preserved c =
    rw c.in_ok-push_program-in-Ok.ensures.pushed
    (first_next _ _ c.loop-number.number c.as_slice.result.now _ c.loop-number.invariant
    (file_there _ c.args.files.now c.loop-number.number c.index-files-number.result _ c.loop-number-test.true c.index-files-number.is c.as_slice.ensures.value)
    c.in-Ok.ensures.spelled c.in-Ok.ensures.clean)
