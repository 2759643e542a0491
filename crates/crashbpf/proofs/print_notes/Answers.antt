use Rattle.std.proofs.Common.{subst}
use Rattle.crashbpf.specs.Ending.{Takes}
use Rattle.crashbpf.proofs.Said.{after_text}
use Rattle.crashbpf.proofs.print_notes.Goals as goal
use Rattle.crashbpf.proofs.print_notes.Goals.{in-Ok+else-not-print, in_default}

pub returns : goal.returns
returns g c =
    elim c.match-notes.branch [
      | in-Ok+else-not-print w ↦ (
        _,
        after_text _ _ _ _ _ _ _ w.print.ensures.said (w.print.ensures.going w.if-not-print.false)
            (subst (λ e. Takes (g.E.Write.contents e.writer) (g.E.Write.contents c.print-2.new.errors.writer) c.print-2.new.errors.has_failed c.args.last.now) w.errors-is c.print-2.ensures.said),
      )
      | in_default w ↦ rw (← w.errors-is) (_, c.print-2.ensures.said)
    ]
