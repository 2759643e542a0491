use Rattle.std.proofs.Common.{length, refl}
use Rattle.std.proofs.lemmas.Option.{slice_get_read}
use Rattle.std.proofs.lemmas.Result.{err_from_is_err_and}
use Rattle.runs.specs.Programs.{no_checkers_memory}
use Rattle.runs.proofs.Finding.{find_next}
use Rattle.runs.proofs.RefusalLemmas.{refused_at, made_next}
use Rattle.runs.proofs.explore_command.checkers_of.Goals as goal

pub returns-in_err-made-clause-refused : goal.returns-in_err-made-clause-refused
returns-in_err-made-clause-refused c =
    let p = err_from_is_err_and c.from_residual.result c.from_residual.ensures.1 in
    rw (p.1, p.2)
    (refused_at _ c.args.programs.now _ c.loop-number.number c.index-programs-number.result _ c.loop-number.invariant.0
    (slice_get_read c.args.programs.now (length c.args.programs.now) c.loop-number.number c.index-programs-number.result refl c.loop-number-test.true c.index-programs-number.is)
    c.in_err-made.ensures.refused)

pub returns-in_err-push_checker-clause-refused : goal.returns-in_err-push_checker-clause-refused
returns-in_err-push_checker-clause-refused c =
    let p = err_from_is_err_and c.from_residual-in_err-push_checker.result c.from_residual-in_err-push_checker.ensures.1 in
    rw (p.1, p.2, c.in_err-push_checker.ensures.refused) no_checkers_memory

pub loop-number-preserved : goal.loop-number-preserved
loop-number-preserved c =
    let there =
    slice_get_read c.args.programs.now (length c.args.programs.now) c.loop-number.number c.index-programs-number.result refl c.loop-number-test.true c.index-programs-number.is in
    let before = c.loop-number.invariant in
    let made = made_next c.args.options.now c.args.programs.now _ c.loop-number.number c.index-programs-number.result _ before.0 there
    c.in_ok-made.ensures.program c.in_ok-made.ensures.within in
    rw (c.in_ok-push_checker.ensures.pushed, c.push.ensures.items) (
      made,
      find_next c.args.options.now.checked c.args.options.now.sectors c.args.programs.now c.loop-number.number c.index-programs-number.result _ _ before.1 there c.in_ok-made.ensures.unreached,
    )
