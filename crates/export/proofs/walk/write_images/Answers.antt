use Rattle.export.proofs.Streaming.{puts_nothing}
use Rattle.export.proofs.Putting.{nothing_part}
use Rattle.export.proofs.walk.write_images.Goals as goal

pub returns-in-Err-clause-part : goal.returns-in-Err-clause-part
returns-in-Err-clause-part g c = nothing_part _ _ (puts_nothing _ _ _)

pub returns-in-Err-new-clause-part : goal.returns-in-Err-new-clause-part
returns-in-Err-new-clause-part g c = nothing_part _ _ (puts_nothing _ _ _)
