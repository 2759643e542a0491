-- Why the cases of a task aren't told.
use Rattle.std.specs.Prelude.{ℕ, ◌≡◌, ◌⊎◌, List}
use Rattle.base.specs.declared.refusal.Refusal.{Refusal}
use Rattle.base.specs.Refusals.{memory_refusal}
use Rattle.logfmt.specs.Bounds.{LogValue}
use Rattle.checker.specs.Checker.{CheckerValue}
use Rattle.case_runs.specs.declared.found.SearchFault.{SearchFault}
use Rattle.case_runs.specs.declared.found.SearchFault.TheVariants as fault
use Rattle.request.specs.declared.any_losses.AnyLosses.{AnyLosses}
use Rattle.request.specs.declared.settings.Settings.{Settings}
use Rattle.request.specs.Source.{images_refusal}
use Rattle.runs.specs.declared.task.Task.{Task}
use Rattle.runs.specs.CaseCuts.{HasTooMany, HasMore}

-- the refusal that says why cases weren't found
abbrev pub StopsFor : SearchFault → Refusal → Type 0
StopsFor fault.Memory r = r ≡ memory_refusal
StopsFor (fault.TooMany cut) r = r ≡ images_refusal cut

-- memory was wanting, or there are too many cases of a log, by the cut with which there are
abbrev pub RefusesForLog : AnyLosses → Settings → LogValue → List CheckerValue → Refusal → Type 0
RefusesForLog l s value checkers r = (r ≡ memory_refusal) ⊎ ((cut : ℕ) × (r ≡ images_refusal cut) × HasTooMany l s value checkers cut)

-- the same of a task
abbrev pub RefusesFor : AnyLosses → Task → Refusal → Type 0
RefusesFor l t r = RefusesForLog l t.options.now t.log.now t.checkers.now r

-- the same where all are asked for
abbrev pub RefusesAll : AnyLosses → Task → Refusal → Type 0
RefusesAll l t r = (r ≡ memory_refusal) ⊎ ((cut : ℕ) × (r ≡ images_refusal cut) × HasMore l t.options.now t.log.now t.checkers.now cut)
