use Rattle.std.proofs.Common.{◌+◌, arith}
use Rattle.case_runs.specs.Images.{formed_if}
use Rattle.case_runs.proofs.Imaging.{more_of}
use Rattle.case_runs.proofs.image.put_over.Goals as goal

pub loop-place-preserved : goal.loop-place-preserved
loop-place-preserved c = λ tears.
    more_of (formed_if (record { at = c.args.cut.now; tears = tears; sets = c.args.sets.now })) c.args.part.sector c.loop-place.place (c.from.result + c.from-in-loop-place.result) c.args.out.now.items c.loop-place.out.items _ (let a = c.from.ensures in let b = c.from-in-loop-place.ensures in omega (arith, a, b))
    (c.loop-place.invariant tears) (c.in_ok-put_formed.ensures tears)
