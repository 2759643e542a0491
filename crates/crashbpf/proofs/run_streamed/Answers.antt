use Rattle.std.proofs.Common.{ℕ, Vec, Global}
use Rattle.crashbpf.specs.Ending.{Takes}
use Rattle.crashbpf.proofs.Ending.{ends_written, ends_stopped, given_as_read}
use Rattle.crashbpf.proofs.run_streamed.Goals as goal

pub returns-in-Ok : goal.returns-in-Ok
returns-in-Ok g c =
    let given = given_as_read (λ (f : Vec ℕ Global). f.items) c.contents-files.result.now c.base.result.now c.choice-choice.result.now c.args.words.now.choice c.args.inputs.now c.contents-files.ensures c.base.ensures c.choice-choice.ensures in
    ends_written _ _ _ _ _ _ (Takes (g.E.Write.contents c.args.errors.now.writer) (g.E.Write.contents c.print_notes.new.errors.writer) c.print_notes.new.errors.has_failed) _ _ c.requires.asked given c.in-Ok.is c.perform_export-ended.ensures.all

pub returns-in-Err : goal.returns-in-Err
returns-in-Err g c =
    let given = given_as_read (λ (f : Vec ℕ Global). f.items) c.contents-files.result.now c.base.result.now c.choice-choice.result.now c.args.words.now.choice c.args.inputs.now c.contents-files.ensures c.base.ensures c.choice-choice.ensures in
    ends_stopped _ _ _ _ _ _ (Takes (g.E.Write.contents c.args.errors.now.writer) (g.E.Write.contents c.print_stopped-status.new.errors.writer) c.print_stopped-status.new.errors.has_failed) _ _ _ c.requires.asked given c.in-Err.is c.perform_export-ended.ensures.stopped c.print_stopped-status.ensures.said c.print_stopped-status.ensures.status
