use Rattle.std.proofs.Common.{◌∙◌, ap}
use Rattle.std.proofs.lemmas.Result.{IfOk-weaker}
use Rattle.logfmt.specs.Bounds.{LogValue}
use Rattle.images.specs.Images.{crash_image}
use Rattle.inspect.specs.Image.{sector_bytes}
use Rattle.inspect.proofs.AnyTold.{words_are}
use Rattle.inspect.proofs.looks.any_image_command.told.Goals as goal

pub returns-in-Bytes : goal.returns-in-Bytes
returns-in-Bytes c =
    rw c.in-Bytes.is
    (IfOk-weaker c.lost_bytes.result _ _ (λ bytes told. told ∙ ap (λ (l : LogValue). sector_bytes (crash_image l c.args.at.now.cut c.args.lost.now.departures.items)) c.requires.log)
    c.lost_bytes.ensures)

pub returns-in-Words : goal.returns-in-Words
returns-in-Words c =
    rw c.in-Words.is
    (IfOk-weaker c.words_of.result _ _
    (λ bytes told. words_are c.args.at.now c.args.options.now c.args.log.now c.args.plan.now c.args.lost.now.departures.items _ c.requires.log c.requires.plan told) c.words_of.ensures)
