use Rattle.request.proofs.Logs.{log_of, there, lacks_place}
use Rattle.request.proofs.source.read_log.Goals as goal

pub with_flushes-requires : goal.with_flushes-requires
with_flushes-requires c = there c.cuts-cuts.result c.in-Ok.log _ c.places.result.now _ c.entries.ensures.value c.places.ensures.value c.first_lacking.ensures c.in-None.is

pub returns-in-Some-clause-refused : goal.returns-in-Some-clause-refused
returns-in-Some-clause-refused c =
    rw c.lacking_refusal_of.ensures
    (lacks_place _ c.args.options.now c.cuts-cuts.result c.in-Ok.log _ _ c.in-Some.place c.cuts-cuts.ensures c.in-Ok.ensures.log c.entries.ensures.value c.first_lacking.ensures c.in-Some.is)

pub returns-clause-log : goal.returns-clause-log
returns-clause-log c =
    log_of _ c.args.options.now c.cuts-cuts.result c.in-Ok.log c.with_flushes.result _ c.places.result.now _ c.cuts-cuts.ensures c.in-Ok.ensures.log c.entries.ensures.value c.places.ensures.value
    c.first_lacking.ensures c.in-None.is c.with_flushes.ensures
