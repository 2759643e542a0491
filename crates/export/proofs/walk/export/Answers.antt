use Rattle.std.proofs.Common.{◌∙◌, ap}
use Rattle.export.proofs.Streaming.{headed_part, headed_all, or_part_written, or_all_written}
use Rattle.export.proofs.walk.export.Goals as goal

pub returns-clause-all : goal.returns-clause-all
returns-clause-all g c =
    or_all_written _ _ _ _ _ _ _ _ _ _ (ap (λ o. g.W.Write.contents o.writer) c.new-out.ensures.output) (ap (λ o. g.W.Write.contents o.writer) c.into_output.ensures)
    (ap (λ o. o.has_failed) c.new-out.ensures.output ∙ c.requires.going) c.new-out.ensures.waiting (headed_all _ _ _ _ _ _ c.put.ensures c.write_images-written.ensures.all)

pub returns-clause-part : goal.returns-clause-part
returns-clause-part g c =
    or_part_written _ _ _ _ _ _ _ _ _ _ (ap (λ o. g.W.Write.contents o.writer) c.new-out.ensures.output) (ap (λ o. g.W.Write.contents o.writer) c.into_output.ensures)
    (ap (λ o. o.has_failed) c.new-out.ensures.output ∙ c.requires.going) c.new-out.ensures.waiting (headed_part _ _ _ _ _ _ c.put.ensures c.write_images-written.ensures.part)
