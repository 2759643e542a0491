use Rattle.std.proofs.Common.{[], arith}
use Rattle.case_runs.specs.Images.{formed_of}
use Rattle.case_runs.proofs.Imaging.{more_of}
use Rattle.case_runs.proofs.image.form.Goals as goal

pub loop-number-preserved : goal.loop-number-preserved
loop-number-preserved c = λ tears.
    more_of (formed_of (record { at = c.args.cut.now; tears = tears; sets = c.args.sets.now })) 0 c.loop-number.number c.loop-number.number [] c.loop-number.out.items _ (omega arith)
    (c.loop-number.invariant tears) (c.in_ok-put_of.ensures tears)
