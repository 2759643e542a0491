use Rattle.std.proofs.Common.{ℕ, ◌∙◌, ap, List, count_by, rules}
use Rattle.logfmt.specs.declared.entry.Entry.{Entry}
use Rattle.request.specs.Large.{is_large}
use Rattle.request.specs.Forced.{is_forced_entry}
use Rattle.request.specs.Flushes.{is_flush_entry}
use Rattle.request.proofs.facts.of_log.log_facts.Goals as goal

pub returns : goal.returns
returns c = record {
  value = c.in-Ok.log;
  reads = c.in-Ok.ensures.log;
  large =
      c.count_large.ensures ∙ ap (λ (bound : ℕ). count_by (is_large bound) c.entries.result.now) c.bound.ensures.value
      ∙ ap (λ (es : List Entry). count_by (is_large c.args.options.now.bound) es) c.entries.ensures.value;
  forced = c.count_forced.ensures ∙ ap (λ (es : List Entry). count_by is_forced_entry es) c.entries-2.ensures.value;
  flushes = c.count_flushes.ensures ∙ ap (λ (es : List Entry). count_by is_flush_entry es) c.entries-3.ensures.value;
  cuts = c.in-Ok-count_cuts.ensures;
  promises = search rules;
}
