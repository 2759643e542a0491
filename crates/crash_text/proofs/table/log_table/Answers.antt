use Rattle.std.proofs.Common.{◌∙◌, ap}
use Rattle.logfmt.specs.Bounds.{LogValue}
use Rattle.epochs.specs.Units.{epoch_at}
use Rattle.crash_text.proofs.Lines.{one_more_entry}
use Rattle.crash_text.proofs.table.log_table.Goals as goal

pub loop-number-preserved : goal.loop-number-preserved
loop-number-preserved c =
    one_more_entry c.args.log.now.entries c.entries-entry-items.result.now c.loop-number.number c.epoch.result c.entry-item.result _ _
    c.entries-entry-items.ensures.value c.loop-number-test.true c.entry-item.is
    (c.epoch.ensures.value ∙ ap (λ (log : LogValue). epoch_at log.entries c.loop-number.number) c.in_ok-plan.ensures.log) c.loop-number.invariant c.in_ok-put_entry_line.ensures
