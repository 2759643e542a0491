use Rattle.std.proofs.Common.{sym, ◌∙◌}
use Rattle.epochs.specs.Cuts.{is_wanted}
use Rattle.epochs.proofs.Wanted.{kept_cut, left_cut}
use Rattle.epochs.proofs.cuts.Cuts.of.Goals as goal
use Rattle.epochs.proofs.cuts.Cuts.of.Goals.{then-wants+in_ok-push, else-wants}

pub loop-cut-preserved : goal.loop-cut-preserved
loop-cut-preserved c =
    elim c.if-wants.branch [
      | then-wants+in_ok-push w ↦
          rw (w.cuts-is, w.in_ok-push.ensures.items, c.loop-cut.invariant)
          (sym (kept_cut (is_wanted c.args.self.now c.args.entries.now) c.loop-cut.cut (sym c.wants.ensures ∙ w.if-wants.true)))
      | else-wants w ↦
          rw (w.cuts-is, c.loop-cut.invariant)
          (sym (left_cut (is_wanted c.args.self.now c.args.entries.now) c.loop-cut.cut (sym c.wants.ensures ∙ w.if-wants.false)))
    ]
