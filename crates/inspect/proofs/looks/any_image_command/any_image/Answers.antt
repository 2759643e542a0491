use Rattle.std.proofs.lemmas.Option.{MatchOption-at_none}
use Rattle.std.proofs.lemmas.Result.{err_from_is_err_and}
use Rattle.inspect.specs.AnyImage.{NoneIsMeant, IsToldSo, for_any_log, for_choice, for_any_memory}
use Rattle.lost_text.proofs.Matching.{at_some}
use Rattle.inspect.proofs.looks.any_image_command.any_image.Goals as goal

pub returns-in_err-log-clause-refused : goal.returns-in_err-log-clause-refused
returns-in_err-log-clause-refused c =
    let p = err_from_is_err_and c.from_residual.result c.from_residual.ensures.1 in
    rw (p.1, p.2) (for_any_log _ c.in_err-log.ensures.refused)

pub returns-in_default-clause-refused : goal.returns-in_default-clause-refused
returns-in_default-clause-refused c = rw c.of_memory.ensures (for_any_memory c.in_ok-log.log c.in_ok-log.ensures.log)

pub returns-in-Some-clause-shown : goal.returns-in-Some-clause-shown
returns-in-Some-clause-shown c =
    let s = c.args.options.now in
    let value = c.in_ok-log.log in
    record {
      value = value;
      reads = c.in_ok-log.ensures.log;
      shown = at_some c.in-Ok.found c.in-Some.bytes (NoneIsMeant s value c.args.cut c.args.said.now) (λ bytes. IsToldSo c.args.form s value c.args.cut c.args.said.now bytes.items) c.in-Some.is c.in-Ok.ensures;
    }

pub returns-clause-refused : goal.returns-clause-refused
returns-clause-refused c =
    let s = c.args.options.now in
    let value = c.in_ok-log.log in
    rw c.option_refusal_of.ensures
    (for_choice value c.in_ok-log.ensures.log
    (MatchOption-at_none (NoneIsMeant s value c.args.cut c.args.said.now) (λ bytes. IsToldSo c.args.form s value c.args.cut c.args.said.now bytes.items) c.in-None.is c.in-Ok.ensures))
