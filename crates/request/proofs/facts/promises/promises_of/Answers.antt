use Rattle.request.proofs.Marks.{within_log}
use Rattle.request.proofs.facts.promises.promises_of.Goals as goal

pub pass-requires-clause-within : goal.pass-requires-clause-within
pass-requires-clause-within c = within_log c.args.log.now c.entries-entries.result.now c.sectors.result c.sectors.ensures.bounds c.entries-entries.ensures.value c.sectors.ensures.value
