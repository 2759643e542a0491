use Rattle.std.proofs.Common.{option_map}
use Rattle.known_text.specs.Pieces.{head_said}
use Rattle.known_runs.specs.Asked.{asked_of}
use Rattle.known_runs.proofs.Telling.{text_refused, text_read, read_of}
use Rattle.known_runs.proofs.read.read_records.Goals as goal

pub returns-in-Ok-clause-known : goal.returns-in-Ok-clause-known
returns-in-Ok-clause-known c =
    let a = asked_of c.args.question.now in
    text_read a c.args.plain.now _ _ _ (read_of a c.args.plain.now c.by.result c.args.inputs c.by.ensures c.requires.inputs) c.in-Ok.ensures.known

pub returns-in-Err-clause-refused : goal.returns-in-Err-clause-refused
returns-in-Err-clause-refused c =
    let a = asked_of c.args.question.now in
    rw c.text_fault.ensures
    (text_refused a c.args.plain.now _ c.in-Err.fault (read_of a c.args.plain.now c.by.result c.args.inputs c.by.ensures c.requires.inputs) c.in-Err.ensures.refused)
