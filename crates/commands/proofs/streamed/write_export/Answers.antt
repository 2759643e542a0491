use Rattle.export.proofs.Streaming.{nothing_kept}
use Rattle.commands.specs.Acting.{for_words, for_settings}
use Rattle.commands.proofs.Acts.{unread_recording}
use Rattle.commands.proofs.Streams.{all_written, is_stopped}
use Rattle.commands.proofs.streamed.write_export.Goals as goal

pub returns-in-Err-clause-stopped : goal.returns-in-Err-clause-stopped
returns-in-Err-clause-stopped g c = (for_words _ c.in-Err.ensures, nothing_kept _)

pub returns-in-Err-recording-clause-stopped : goal.returns-in-Err-recording-clause-stopped
returns-in-Err-recording-clause-stopped g c = (for_settings _ _ c.in-Ok.ensures (unread_recording _ _ _ c.in-Err-recording.ensures), nothing_kept _)

pub returns-clause-all : goal.returns-clause-all
returns-clause-all g c = all_written _ _ _ _ _ _ _ c.in-Ok.ensures c.in-Ok-recording.ensures c.write_images.ensures.told

pub returns-clause-stopped : goal.returns-clause-stopped
returns-clause-stopped g c = is_stopped _ _ _ _ _ _ _ c.in-Ok.ensures c.in-Ok-recording.ensures c.write_images.ensures.stopped
