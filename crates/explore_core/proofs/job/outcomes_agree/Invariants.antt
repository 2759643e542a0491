use Rattle.std.proofs.Common.{◌≡◌, drop}
use Rattle.std.specs.List.{list_all}
use Rattle.explore_core.specs.Agreement.{agrees}
use Rattle.explore_core.proofs.job.outcomes_agree.Given as goal

abbrev pub invariant-loop-own : goal.invariant-loop-own
invariant-loop-own l = list_all (λ own. list_all (λ job. list_all (λ b. agrees b.items job) l.blocks) own.items) (drop l.own-index l.blocks) ≡ list_all (λ own. list_all (λ job. list_all (λ b. agrees b.items job) l.blocks) own.items) l.blocks
