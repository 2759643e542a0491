use Rattle.std.proofs.Common.{◌∙◌}
use Rattle.notes.proofs.BlindTexts.{blind_texts-next}
use Rattle.notes.proofs.command_notes.blind.put_blind.Goals as goal

pub loop-number-preserved : goal.loop-number-preserved
loop-number-preserved c =
    c.in_ok-put_program.ensures ∙ blind_texts-next c.args.blind.now c.loop-number.number _ _ _ c.loop-number-test.true c.loop-number.invariant
