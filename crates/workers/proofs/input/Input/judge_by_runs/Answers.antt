use Rattle.std.proofs.Common.{◌≡◌, ◌∙◌, ◌++◌, Bool, refl, sym, ap, subst, arith, length, Some, slice_get, List}
use Rattle.std.proofs.lemmas.Option.{slice_get_read}
use Rattle.report.specs.Line.{FailingLine}
use Rattle.checker.specs.Memory.{IsServed}
use Rattle.workers.proofs.JudgedLines.{checker_next, lines_of_image}
use Rattle.workers.proofs.Safe.{each_fits}
use Rattle.workers.proofs.input.Input.judge_by_runs.Goals as goal

pub returns-clause-lines : goal.returns-clause-lines
returns-clause-lines c =
    let last : c.loop-number.number ≡ length c.args.self.now.checkers = rw (← c.self.view_is) (omega (arith, c.loop-number-test.false, c.loop-number.auto.number-end)) in
    c.loop-number.invariant.0 ∙ ap (λ (ls : List FailingLine). c.args.lines.now ++ ls) (lines_of_image c.args.self.now c.args.seen.now.image c.loop-number.number last)

pub judge_checker-requires : goal.judge_checker-requires
judge_checker-requires c =
    let checkers = c.self.inside.checkers.now in
    let there : slice_get checkers c.loop-number.number ≡ Some c.checker-item.result =
    slice_get_read checkers (length checkers) c.loop-number.number c.checker-item.result refl c.loop-number-test.true c.checker-item.is in
    record {
      device = each_fits c.args.self.now c.args.seen.now.view.now c.args.seen.now.choice.now c.loop-number.number c.checker-item.result (rw (← c.self.view_is) c.self.invariant.device) c.requires.view (rw (← c.self.view_is) there);
      served = subst (λ (b : Bool). IsServed b c.checker-item.result.guards) (sym c.loop-number.invariant.1) (c.requires.served.each c.loop-number.number c.checker-item.result (rw (← c.self.view_is) there));
    }

pub loop-number-preserved : goal.loop-number-preserved
loop-number-preserved c =
    let checkers = c.self.inside.checkers.now in
    let there : slice_get checkers c.loop-number.number ≡ Some c.checker-item.result =
    slice_get_read checkers (length checkers) c.loop-number.number c.checker-item.result refl c.loop-number-test.true c.checker-item.is in (
      c.in_ok-judge_checker.ensures.lines c.args.self.now c.requires.view
          ∙ checker_next c.args.self.now c.self.inside.by c.args.seen.now.image c.loop-number.number c.args.seen.now.choice.now c.checker-item.result c.args.lines.now c.loop-number.lines (rw (← c.self.view_is) c.self.invariant.by_is) c.requires.choice (rw (← c.self.view_is) there) c.loop-number.invariant.0,
      c.judge_checker.ensures.memory ∙ c.loop-number.invariant.1,
    )
