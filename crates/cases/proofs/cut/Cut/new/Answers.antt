use Rattle.std.proofs.Common.{◌∙◌, ap}
use Rattle.epochs.specs.Laws.{last_flush}
use Rattle.cases.proofs.Distinct.{apart_risky}
use Rattle.cases.proofs.cut.Cut.new.Goals as goal

pub invariant_of-result : goal.invariant_of-result
invariant_of-result c = record {
  bounds = c.entries.ensures.bounds;
  within = c.requires;
  flushed = c.last_flush-flush.ensures.value ∙ ap (λ es. last_flush es c.args.number) c.entries.ensures.value;
  listed = c.in_ok-parts.ensures;
  apart = apart_risky c.args.way c.args.log.now.entries c.args.number c.requires;
}
