use Rattle.std.proofs.Common.{Some}
use Rattle.inspect.proofs.looks.export_command.export_images.Goals as goal

pub returns-in-Err-clause-refused : goal.returns-in-Err-clause-refused
returns-in-Err-clause-refused c =
    c.refusal_of.ensures c.args.recording.now c.args.options.now (Some c.new-output.result.writer.items) (Some c.write_images-written.result.1.writer.items)
    (rw c.in-Err.is at c.write_images-written.ensures.stopped)
