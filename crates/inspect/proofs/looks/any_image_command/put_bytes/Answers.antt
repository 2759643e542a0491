use Rattle.cases.specs.AtCut.{parts_of, case_of, image_of}
use Rattle.inspect.proofs.AnyTold.{put_as}
use Rattle.inspect.proofs.looks.any_image_command.put_bytes.Goals as goal

pub returns : goal.returns
returns c = λ tears.
    put_as c.extend_from_slice.result (image_of c.args.at.now (case_of tears (parts_of c.args.at.now) c.args.sets.now)) c.args.number _ _ _ _
    c.extend_from_slice.ensures.items c.as_slice.ensures (c.sector-sector.ensures tears)
