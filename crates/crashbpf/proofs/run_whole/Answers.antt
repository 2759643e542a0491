use Rattle.std.proofs.Common.{rules, refl, ◌≡◌, None, Some}
use Rattle.crashbpf.specs.Ending.{Takes}
use Rattle.crashbpf.proofs.Ending.{answered_on, ends_answered, ends_refused, ends_unwritten, refused_on}
use Rattle.crashbpf.proofs.run_whole.Goals as goal

pub returns-then-is_err : goal.returns-then-is_err
returns-then-is_err g c =
    let none : c.performed-exit.result.refusal ≡ None = search rules in
    ends_unwritten _ _ _ _ (Takes (g.E.Write.contents c.args.errors.now.writer) (g.E.Write.contents c.print_cut-status.new.errors.writer) c.print_cut-status.new.errors.has_failed) _ _ _ _ _ _ c.fault_of.result (answered_on _ _ _ _ _ _ c.performed-exit.ensures refl none) c.as_slice.ensures.value c.is_err.ensures.value c.if-is_err.true c.put_answer-written.ensures.part c.print_cut-status.ensures.said c.print_cut-status.ensures.status

pub returns-in-None : goal.returns-in-None
returns-in-None g c =
    let none : c.performed-exit.result.refusal ≡ None = search rules in
    ends_answered _ _ _ _ (Takes (g.E.Write.contents c.args.errors.now.writer) (g.E.Write.contents c.print_notes.new.errors.writer) c.print_notes.new.errors.has_failed) _ _ _ _ _ (answered_on _ _ _ _ _ _ c.performed-exit.ensures refl none) c.as_slice.ensures.value c.is_err.ensures.value c.if-is_err.false c.put_answer-written.ensures.whole

pub returns : goal.returns
returns g c =
    let some : c.performed-exit.result.refusal ≡ Some c.in-Some.refusal = search rules in
    ends_refused _ _ _ (Takes (g.E.Write.contents c.args.errors.now.writer) (g.E.Write.contents c.print_refused-status.new.errors.writer) c.print_refused-status.new.errors.has_failed) _ _ (refused_on _ _ _ _ _ _ _ c.performed-exit.ensures refl some) c.print_refused-status.ensures.said c.print_refused-status.ensures.status
