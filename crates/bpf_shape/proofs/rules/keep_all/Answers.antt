use Rattle.std.proofs.lemmas.Result.{err_from_is_err_and}
use Rattle.bpf_shape.proofs.Kept.{first_target, first_end, first_frame_pointer, first_helper, first_again}
use Rattle.bpf_shape.proofs.rules.keep_all.Goals as goal

pub returns-in_err-keep-clause-refused : goal.returns-in_err-keep-clause-refused
returns-in_err-keep-clause-refused c =
    let p = err_from_is_err_and c.from_residual.result c.from_residual.ensures.1 in
    rw (p.1, p.2) (first_target c.args.guards c.args.program.now _ c.in_err-keep.ensures.refused)

pub returns-in_err-keep-2-clause-refused : goal.returns-in_err-keep-2-clause-refused
returns-in_err-keep-2-clause-refused c =
    let p = err_from_is_err_and c.from_residual-in_err-keep-2.result c.from_residual-in_err-keep-2.ensures.1 in
    rw (p.1, p.2) (first_end c.args.guards c.args.program.now _ c.in_ok-keep.ensures.kept c.in_err-keep-2.ensures.refused)

pub returns-in_err-keep-3-clause-refused : goal.returns-in_err-keep-3-clause-refused
returns-in_err-keep-3-clause-refused c =
    let p = err_from_is_err_and c.from_residual-in_err-keep-3.result c.from_residual-in_err-keep-3.ensures.1 in
    rw (p.1, p.2) (first_frame_pointer c.args.guards c.args.program.now _ c.in_ok-keep.ensures.kept c.in_ok-keep-2.ensures.kept c.in_err-keep-3.ensures.refused)

pub returns-in_err-keep-4-clause-refused : goal.returns-in_err-keep-4-clause-refused
returns-in_err-keep-4-clause-refused c =
    let p = err_from_is_err_and c.from_residual-in_err-keep-4.result c.from_residual-in_err-keep-4.ensures.1 in
    rw (p.1, p.2) (first_helper c.args.guards c.args.program.now _ c.in_ok-keep.ensures.kept c.in_ok-keep-2.ensures.kept c.in_ok-keep-3.ensures.kept c.in_err-keep-4.ensures.refused)

pub returns-in_err-keep-5-clause-refused : goal.returns-in_err-keep-5-clause-refused
returns-in_err-keep-5-clause-refused c =
    let p = err_from_is_err_and c.from_residual-in_err-keep-5.result c.from_residual-in_err-keep-5.ensures.1 in
    rw (p.1, p.2) (first_again c.args.guards c.args.program.now _ c.in_ok-keep.ensures.kept c.in_ok-keep-2.ensures.kept c.in_ok-keep-3.ensures.kept c.in_ok-keep-4.ensures.kept c.in_err-keep-5.ensures.refused)

pub returns-clause-kept : goal.returns-clause-kept
returns-clause-kept c = record {
  targets = c.in_ok-keep.ensures.kept;
  ends = c.in_ok-keep-2.ensures.kept;
  frame_pointer = c.in_ok-keep-3.ensures.kept;
  helpers = c.in_ok-keep-4.ensures.kept;
  again = c.in_ok-keep-5.ensures.kept;
}
