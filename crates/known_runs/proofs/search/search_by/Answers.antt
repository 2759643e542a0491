use Rattle.std.proofs.Common.{ℕ, ◌≤◌, List, length, All, ◌∙◌, ap, sym, subst}
use Rattle.epochs.specs.declared.cuts.Cuts.{Cuts}
use Rattle.case_runs.specs.Cuts.{case_cuts}
use Rattle.known_runs.specs.Asked.{asked_of}
use Rattle.known_runs.specs.Searched.{no_memory}
use Rattle.known_runs.proofs.Telling.{search_refused, found_within}
use Rattle.known_runs.proofs.search.search_by.Goals as goal

pub returns-in_default-clause-refused : goal.returns-in_default-clause-refused
returns-in_default-clause-refused c = rw c.of_memory.ensures no_memory

pub returns-clause-refused : goal.returns-clause-refused
returns-clause-refused c =
    let q = c.args.question.now in
    search_refused (asked_of q) c.args.log.now c.losses_of-asked.result c.by.result c.as_slice.result.now c.args.records.now c.in-Err.fault c.refusal_of.result c.losses_of-asked.ensures
    c.by.ensures
    (c.as_slice.ensures.value ∙ c.in-Ok.ensures.value ∙ ap (λ (cuts : Cuts). case_cuts q.losses.at_most cuts c.args.log.now.entries) c.cuts-cuts.ensures) c.in-Err.ensures.refused
    c.refusal_of.ensures

pub returns-in-Ok-find_known-clause-within : goal.returns-in-Ok-find_known-clause-within
returns-in-Ok-find_known-clause-within c =
    found_within _ c.args.log.now _ c.as_slice.result.now c.args.records.now c.args.question.now.stops c.in-Ok-find_known.found.items _ c.in-Ok-find_known.ensures.found
    (subst (λ (cuts : List ℕ). All (λ cut. cut ≤ length c.args.log.now.entries) cuts) (sym c.as_slice.ensures.value) c.in-Ok.ensures.within)
